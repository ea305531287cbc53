-- The end of the records: twelve bytes that are zero, where it may stand, the record before, and the count of nodes.
-- Assumes nothing.
use Rattle.std.specs.Prelude.{Some, None}
use mathlib.Core.Path.{◌≡◌, refl, sym, ap, ◌∙◌}
use mathlib.Core.Bool.{Bool, true, false, not}
use Prim.Native.Nat.{ℕ, zero, suc, ◌+◌, ◌-◌, ◌*◌, ◌/◌, ◌%◌, ◌≤◌, ◌<◌}
use native.Mathlib.Omega.{arith}
use lib.Dec.{eqb, ltb}
use borrow.Author.Tests.{eqb-true, eqb-false, eq-eqb, ne_eqb, lt-ltb, le-ltb}
use Rattle.rules.specs.Bytes.{Bytes, ◌and◌, byte_at, u16_at, u32_at, u64_at, first}
use Rattle.rules.specs.Layout.{blocks, record_at, kind_at, type_at, a_at, b_at, c_at, word_at, records, place_or, nodes}
use Rattle.rules.specs.Node.{IsNode}
use Rattle.rules.specs.Format.{is_zero, may_end, after_end}
use Rattle.rules.specs.declared.Node.{Node}

-- A record is all zero where its first eight bytes and its last four are.
pub zero_record : (p : Bytes) (r : ℕ) {at low word : ℕ} {w : Bool} → at ≡ record_at r → low ≡ u64_at p at → word ≡ u32_at p (at + 8)
    → w ≡ (eqb low 0 and eqb word 0) → w ≡ is_zero p r
unfolding is_zero
zero_record p r place first last e = e ∙ rw (first, last, place) refl

-- Of b blocks, a record stands in the last one, not as its first, where it comes after that first.
last_block : (r b : ℕ) → r < 42 * b → ltb (42 * (b - 1)) r ≡ (eqb (suc (r / 42)) b and not (eqb (r % 42) 0))
unfolding ◌and◌
last_block r b h = go (eqb (suc (r / 42)) b) (eqb (r % 42) 0) refl refl
  where
    go : (x y : Bool) → eqb (suc (r / 42)) b ≡ x → eqb (r % 42) 0 ≡ y → ltb (42 * (b - 1)) r ≡ (x and not y)
    go true true e f = let u = eqb-true (suc (r / 42)) b e in let v = eqb-true (r % 42) 0 f in le-ltb (42 * (b - 1)) r (omega arith)
    go true false e f = let u = eqb-true (suc (r / 42)) b e in let v = eqb-false (r % 42) 0 f in lt-ltb (42 * (b - 1)) r (omega (arith, v))
    go false y e f = let u = eqb-false (suc (r / 42)) b e in le-ltb (42 * (b - 1)) r (omega (arith, u))

pub end_place : (p : Bytes) (r : ℕ) → r < records p → ltb (42 * (blocks p - 1)) r ≡ may_end p r
unfolding records may_end
end_place p r h = last_block r (blocks p) h

-- The record before, of one that is not the first.
pub end_before : (p : Bytes) (r : ℕ) → (r ≡ 0 → ⊥) → after_end p r ≡ eqb (kind_at p (r - 1)) 0
unfolding after_end
end_before p zero d = absurd (d refl)
end_before p (suc r) d = ap (λ (k : ℕ). eqb (kind_at p k) 0) (omega arith)

-- The nodes are those before the first record of kind 0, or all records.
module _ (p : Bytes) where
  pub nodes_at : (k : ℕ) → first (λ r. eqb (kind_at p r) 0) (records p) ≡ Some k → nodes p ≡ k
  unfolding nodes place_or
  nodes_at k e = rw e

  pub nodes_all : first (λ r. eqb (kind_at p r) 0) (records p) ≡ None → nodes p ≡ records p
  unfolding nodes place_or
  nodes_all e = rw e
