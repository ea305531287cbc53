-- They agree where the low byte is 1.
use mathlib.Core.Path.{ap}
use Prim.Native.Nat.{ℕ}
use lib.Dec.{eqb}
use Rattle.typing.specs.Numbers.{same_in}
use Rattle.typing.proofs.same_in.Goals as goal

pub returns : goal.returns
unfolding same_in
returns c = ap (λ (k : ℕ). eqb k 1) c.type_in.ensures
