-- The length of a state, from the count of the cells.
-- Assumes nothing.
use mathlib.Core.Path.{◌≡◌, ap, ◌∙◌}
use Prim.Native.Nat.{ℕ, ◌<◌}
use native.Mathlib.Omega.{arith}
use Rattle.rules.specs.Bytes.{Bytes}
use Rattle.rules.specs.Layout.{nodes, cells, cell_at, state_length}
use Rattle.rules.specs.Shaped.{Shaped}
use Rattle.cells.proofs.Numbered.{cells_most}

few : (p : Bytes) → Shaped p → cell_at (cells p) < 18446744073709551616
unfolding cells cell_at
few p s = omega (arith, cells_most p (nodes p), s.small)

-- A count of cells is small enough to be a place, and that is the state's length.
pub place_fits : (p : Bytes) (k : ℕ) → Shaped p → k ≡ cells p → cell_at k < 18446744073709551616
place_fits p k s e = rw e (few p s)

pub length_is : (p : Bytes) (k r : ℕ) → k ≡ cells p → r ≡ cell_at k → r ≡ state_length p
unfolding state_length
length_is p k r e q = q ∙ ap cell_at e
