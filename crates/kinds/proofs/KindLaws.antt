-- The table of kinds where no kind is named by itself.
-- Assumes nothing.
use mathlib.Core.Path.{◌≡◌}
use mathlib.Core.Bool.{false}
use Prim.Native.Nat.{ℕ, ◌≤◌, ◌<◌}
use native.Mathlib.Omega.{arith}
use lib.Dec.{eqb}
use borrow.Author.Tests.{le-leb, lt-leb, ne_eqb}
use Rattle.rules.specs.Bytes.{◌and◌}
use Rattle.rules.specs.declared.Field.TheVariants.{Unused, Expression}
use Rattle.rules.specs.declared.TypeField.TheVariants.{NoType}
use Rattle.rules.specs.Kinds.{row, fields_of}

over : (k m : ℕ) → m < k → eqb k m ≡ false
over k m h = ne_eqb k m λ e. omega arith

under : (k m : ℕ) → k < m → eqb k m ≡ false
under k m h = ne_eqb k m λ e. omega arith

pub ops_low : (k : ℕ) → 18 ≤ k → k < 24 → row NoType Expression Expression Unused ≡ fields_of k
unfolding fields_of ◌and◌
ops_low k l u =
    simp (
      over k 1 (omega arith),
      over k 3 (omega arith),
      over k 4 (omega arith),
      over k 5 (omega arith),
      over k 6 (omega arith),
      over k 7 (omega arith),
      over k 8 (omega arith),
      over k 9 (omega arith),
      over k 10 (omega arith),
      over k 16 (omega arith),
      over k 17 (omega arith),
      le-leb 18 k l,
      le-leb k 23 (omega arith),
    )

pub ops_high : (k : ℕ) → 24 ≤ k → k < 27 → (k ≡ 24 → ⊥) → row NoType Expression Expression Unused ≡ fields_of k
unfolding fields_of ◌and◌
ops_high k l u d =
    simp (
      over k 1 (omega arith),
      over k 3 (omega arith),
      over k 4 (omega arith),
      over k 5 (omega arith),
      over k 6 (omega arith),
      over k 7 (omega arith),
      over k 8 (omega arith),
      over k 9 (omega arith),
      over k 10 (omega arith),
      over k 16 (omega arith),
      over k 17 (omega arith),
      le-leb 18 k (omega arith),
      lt-leb k 23 (omega arith),
      ne_eqb k 24 d,
      le-leb 25 k (omega (arith, d)),
      le-leb k 26 (omega arith),
    )
