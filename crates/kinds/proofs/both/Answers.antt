use mathlib.Core.Path.{refl}
use Rattle.rules.specs.Bytes.{◌and◌}
use Rattle.kinds.proofs.both.Goals as goal

pub returns : goal.returns
unfolding ◌and◌
returns c = refl
