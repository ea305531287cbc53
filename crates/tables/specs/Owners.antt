-- The node of a cell. Assumes nothing: these are definitions.
use Rattle.std.specs.Prelude.{◌≡◌, true, ℕ}
use Rattle.rules.specs.Bytes.{Bytes}
use Rattle.rules.specs.Layout.{kind_at, has_cell, cells_before}

-- "One cell for each kind 4, 6 and 7 node, in node order": node n has cell k.
pub record CellOf (p : Bytes) (k n : ℕ) : Type 0 where
  pub own : has_cell (kind_at p n) ≡ true
  pub number : cells_before p n ≡ k
