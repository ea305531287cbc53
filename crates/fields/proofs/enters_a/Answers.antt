use mathlib.Core.Path.{◌∙◌}
use Rattle.chains.specs.Chain.{enters}
use Rattle.fields.proofs.enters_a.Goals as goal

pub returns : goal.returns
unfolding enters
returns c = c.both.ensures ∙ rw c.child_a.ensures
