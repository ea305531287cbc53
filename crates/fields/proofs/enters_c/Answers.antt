use Rattle.chains.specs.Chain.{enters}
use Rattle.fields.proofs.enters_c.Goals as goal

pub returns : goal.returns
unfolding enters
returns c = c.child_c.ensures
