-- The numbers of the cells: in node order, and below their count.
-- Assumes nothing.
use Rattle.std.specs.Prelude.{if◌then◌else◌}
use mathlib.Core.Path.{◌≡◌, refl, ap}
use mathlib.Core.Bool.{Bool, true, false}
use Prim.Native.Nat.{ℕ, zero, suc, ◌+◌, ◌≤◌, ◌<◌}
use native.Mathlib.Omega.{arith}
use lib.Dec.{eqb}
use borrow.Author.Tests.{eqb-true, eqb-false}
use Rattle.rules.specs.Bytes.{Bytes, how_many}
use Rattle.rules.specs.Layout.{nodes, kind_at, has_cell, cells_before, cells}

-- the more places, the more
many_grows : (test : ℕ → Bool) (m n : ℕ) → m ≤ n → how_many test m ≤ how_many test n
unfolding how_many
many_grows test m zero h = let e : m ≡ 0 = omega arith in rw e (omega arith)
many_grows test m (suc n) h = go (eqb m (suc n)) refl λ l. many_grows test m n l
  where
    go : (b : Bool) → eqb m (suc n) ≡ b → (m ≤ n → how_many test m ≤ how_many test n) → how_many test m ≤ how_many test n + (if test n then 1 else 0)
    go true q more = rw (eqb-true m (suc n) q) (omega arith)
    go false q more = omega (arith, more (omega (arith, eqb-false m (suc n) q)))

-- The number of a node's own cell is one of the program's.
pub cell_below : (p : Bytes) (n : ℕ) → n < nodes p → has_cell (kind_at p n) ≡ true → cells_before p n < cells p
unfolding cells cells_before how_many
cell_below p n h e =
    let test : ℕ → Bool = λ m. has_cell (kind_at p m) in
    let one : how_many test (suc n) ≡ how_many test n + 1 = ap (λ (b : Bool). how_many test n + (if b then 1 else 0)) e in
    omega (arith, many_grows test (suc n) (nodes p) h, one)
