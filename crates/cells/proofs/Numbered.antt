-- The table of the cells' numbers, filled up to a node.
-- Assumes nothing.
use Rattle.std.specs.Prelude.{if◌then◌else◌}
use mathlib.Core.Path.{◌≡◌, refl, ◌∙◌}
use mathlib.Core.Bool.{Bool, true, false}
use mathlib.Core.List.{List}
use Prim.Native.Nat.{ℕ, zero, suc, ◌+◌, ◌<◌, ◌≤◌}
use native.Mathlib.Omega.{arith}
use native.Mathlib.Numerals.{add-one}
use lib.Dec.{eqb}
use lib.ListN.{length, get_or, set}
use lib.Seq.{get_or-set_same, get_or-set_other}
use borrow.Author.Tests.{eqb-true, eqb-false}
use Rattle.rules.specs.Bytes.{Bytes, how_many}
use Rattle.rules.specs.Layout.{kind_at, has_cell, cells_before}

-- A place counts at most one.
one_most : (b : Bool) → (if b then 1 else 0) ≤ 1
one_most true = omega arith
one_most false = omega arith

many_most : (test : ℕ → Bool) (n : ℕ) → how_many test n ≤ n
unfolding how_many
many_most test zero = omega arith
many_most test (suc n) = omega (arith, many_most test n, one_most (test n))

-- There are at most as many cells as nodes.
pub cells_most : (p : Bytes) (n : ℕ) → cells_before p n ≤ n
unfolding cells_before
cells_most p n = many_most (λ m. has_cell (kind_at p m)) n

-- The number of cells before the next node.
pub counts_cell : (p : Bytes) (i n k : ℕ) → n ≡ cells_before p i → k ≡ kind_at p i → has_cell k ≡ true → n + 1 ≡ cells_before p (i + 1)
unfolding cells_before how_many
counts_cell p i n k e q h = rw (add-one i, ← q, h) (omega arith)

pub counts_none : (p : Bytes) (i n k : ℕ) → n ≡ cells_before p i → k ≡ kind_at p i → has_cell k ≡ false → n ≡ cells_before p (i + 1)
unfolding cells_before how_many
counts_none p i n k e q h = rw (add-one i, ← q, h) (omega arith)

-- The table is right below i.
abbrev pub Below : Bytes → List ℕ → ℕ → Type 0
Below p index i = (j : ℕ) → j < i → get_or index j 0 ≡ cells_before p j

pub one_more : (p : Bytes) (index : List ℕ) (i n : ℕ) → i < length index → n ≡ cells_before p i → Below p index i → Below p (set index i n) (i + 1)
one_more p index i n h e b j l = go (eqb j i) refl
  where
    go : (t : Bool) → eqb j i ≡ t → get_or (set index i n) j 0 ≡ cells_before p j
    go true q = rw (eqb-true j i q) (get_or-set_same index i n 0 h ∙ e)
    go false q = get_or-set_other index i j n 0 (eqb-false j i q) ∙ b j (omega (arith, eqb-false j i q))
