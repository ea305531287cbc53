use Rattle.rules.specs.Values.{is_type}
use Rattle.format.proofs.is_type.Goals as goal

pub returns : goal.returns
unfolding is_type
returns c = cc
