use mathlib.Core.Path.{refl}
use Rattle.format.specs.ByRow.{row_wrong}
use Rattle.format.proofs.row_wrong.Goals as goal

pub returns : goal.returns
unfolding row_wrong
returns c = rw (c.either.ensures, c.type_wrong-ty.ensures, c.named_in.ensures.0) refl
