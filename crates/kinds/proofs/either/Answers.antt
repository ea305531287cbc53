use mathlib.Core.Path.{refl}
use Rattle.rules.specs.Bytes.{◌or◌}
use Rattle.kinds.proofs.either.Goals as goal

pub returns : goal.returns
unfolding ◌or◌
returns c = refl
