use Rattle.rules.specs.Format.{length_wrong}
use Rattle.format.proofs.length_wrong.Goals as goal

pub returns : goal.returns
unfolding length_wrong
returns c = cc
