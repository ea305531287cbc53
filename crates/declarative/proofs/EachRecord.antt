-- The end of records: kind 0, and zeros. With it the whole of codes 1-4.
-- Assumes nothing.
use mathlib.Core.Path.{◌≡◌, refl, sym, subst}
use mathlib.Core.Bool.{Bool, true, false, not}
use Prim.Native.Nat.{ℕ, zero, suc, ◌+◌, ◌-◌, ◌%◌, ◌≤◌, ◌<◌}
use native.Mathlib.Omega.{arith}
use lib.Dec.{eqb}
use borrow.Author.Tests.{eqb-true, eqb-false, eq-eqb, ne_eqb}
use Rattle.rules.specs.Bytes.{Bytes, byte_at, u16_at, u32_at, u64_at, first, ◌and◌}
use Rattle.rules.specs.Layout.{records, record_at, kind_at}
use Rattle.rules.specs.Format.{node_wrong, is_zero, may_end, after_end, record_wrong}
use Rattle.rules.specs.Accepted.{Formed}
use Rattle.rules.proofs.Static.{and_both, not_both}
use Rattle.rules.proofs.Kids.{or_none, not_not}
use Rattle.rules.proofs.ByKind.{choose}
use Rattle.declarative.specs.Formats.{AllZero, RecordRight, Formatted}
use Rattle.declarative.proofs.Free.{side, Finds, finds_first, nowhere_right, right_nowhere}
use Rattle.declarative.proofs.Joining.{and_true, or_false}
use Rattle.declarative.proofs.EachShape.{deny}
use Rattle.declarative.proofs.EachFormat.{whole_blocks, blocks_whole, finds_sum, finds_number, node_right, right_node}

-- So many bytes from a place on are zero.
abbrev Zeros : Bytes → ℕ → ℕ → Type 0
Zeros s i n = (j : ℕ) → i ≤ j → j < i + n → byte_at s j ≡ 0

-- A number is zero exactly when its bytes are.
zeros_2 : (s : Bytes) (i : ℕ) → u16_at s i ≡ 0 → Zeros s i 2
unfolding u16_at
zeros_2 s i e j l u =
    choose j i (λ q. subst (λ (k : ℕ). byte_at s k ≡ 0) (sym q) (omega arith))
    (λ d. let q : j ≡ i + 1 = omega (arith, d) in subst (λ (k : ℕ). byte_at s k ≡ 0) (sym q) (omega arith))

-- And the other way.
two_zeros : (s : Bytes) (i : ℕ) → Zeros s i 2 → u16_at s i ≡ 0
unfolding u16_at
two_zeros s i h = omega (arith, h i (omega arith) (omega arith), h (i + 1) (omega arith) (omega arith))

-- The same for four bytes,
zeros_4 : (s : Bytes) (i : ℕ) → u32_at s i ≡ 0 → Zeros s i 4
unfolding u32_at
zeros_4 s i e j l u =
    side j (i + 2) (λ h. zeros_2 s i (omega arith) j l h) (λ h. zeros_2 s (i + 2) (omega arith) j h (omega arith))

-- and the other way,
four_zeros : (s : Bytes) (i : ℕ) → Zeros s i 4 → u32_at s i ≡ 0
unfolding u32_at
four_zeros s i h =
    let a = two_zeros s i (λ j l u. h j l (omega arith)) in
    let b = two_zeros s (i + 2) (λ j l u. h j (omega arith) (omega arith)) in
    omega arith

-- for eight,
zeros_8 : (s : Bytes) (i : ℕ) → u64_at s i ≡ 0 → Zeros s i 8
unfolding u64_at
zeros_8 s i e j l u =
    side j (i + 4) (λ h. zeros_4 s i (omega arith) j l h) (λ h. zeros_4 s (i + 4) (omega arith) j h (omega arith))

-- and the other way.
eight_zeros : (s : Bytes) (i : ℕ) → Zeros s i 8 → u64_at s i ≡ 0
unfolding u64_at
eight_zeros s i h =
    let a = four_zeros s i (λ j l u. h j l (omega arith)) in
    let b = four_zeros s (i + 4) (λ j l u. h j (omega arith) (omega arith)) in
    omega arith

-- The twelve bytes of a record.
all_zero : (p : Bytes) (r : ℕ) → is_zero p r ≡ true → AllZero p r
unfolding is_zero
all_zero p r e i l u =
    let h = and_both _ _ e in
    side i (record_at r + 8) (λ g. zeros_8 p (record_at r) (eqb-true _ _ h.0) i l g)
    (λ g. zeros_4 p (record_at r + 8) (eqb-true _ _ h.1) i g (omega arith))

-- And the other way.
zero_all : (p : Bytes) (r : ℕ) → AllZero p r → is_zero p r ≡ true
unfolding is_zero
zero_all p r h =
    and_true (eq-eqb _ _ (eight_zeros p (record_at r) (λ j l u. h j l (omega arith))))
    (eq-eqb _ _ (four_zeros p (record_at r + 8) (λ j l u. h j (omega arith) (omega arith))))

-- Such a record is of kind 0.
zero_kind : (p : Bytes) (r : ℕ) → AllZero p r → kind_at p r ≡ 0
unfolding kind_at
zero_kind p r h = h (record_at r) (omega arith) (omega arith)

module _ (p : Bytes) where
  -- A record without a fault, of kind 0 and of another.
  end_of : (r : ℕ) → record_wrong p r ≡ false → kind_at p r ≡ 0 → (may_end p r ≡ true) × (is_zero p r ≡ true)
  unfolding record_wrong
  end_of r e q = and_both _ _ (not_not _ (simp (eq-eqb (kind_at p r) 0 q) at e))

  -- Of another kind: the record before is no end, and the fields are right.
  node_of : (r : ℕ) → record_wrong p r ≡ false → (kind_at p r ≡ 0 → ⊥) → (after_end p r ≡ false) × (node_wrong p r ≡ false)
  unfolding record_wrong
  node_of r e d = or_none _ _ (simp (ne_eqb (kind_at p r) 0 d) at e)

  -- Below a bound, where no record has a fault:
  module _ (b : ℕ) (right : (r : ℕ) → r < b → r < records p → record_wrong p r ≡ false) where
    -- After kind 0 comes kind 0.
    goes_on : (r : ℕ) → kind_at p r ≡ 0 → suc r < b → suc r < records p → kind_at p (suc r) ≡ 0
    unfolding after_end
    goes_on r q i l =
        choose (kind_at p (suc r)) 0 (λ z. z) (λ d. absurd (eqb-false (kind_at p r) 0 (node_of (suc r) (right (suc r) i l) d).0 q))

    -- So every later record is of kind 0,
    ended : (d r : ℕ) → kind_at p r ≡ 0 → r + d < b → r + d < records p → kind_at p (r + d) ≡ 0
    ended zero r q i l = subst (λ (k : ℕ). kind_at p k ≡ 0) (let z : r ≡ r + 0 = omega arith in z) q
    ended (suc d) r q i l =
        subst (λ (k : ℕ). kind_at p k ≡ 0) (let z : suc (r + d) ≡ r + suc d = omega arith in z)
        (goes_on (r + d) (ended d r q (omega arith) (omega arith)) (omega arith) (omega arith))

    -- and each record keeps its own rule.
    record_right : (r : ℕ) → r < b → r < records p → RecordRight p r
    unfolding may_end
    record_right r i l = record {
      end = λ q.
          let m = and_both _ _ (end_of r (right r i l) q).0 in
          record {
            last_block = eqb-true _ _ m.0;
            not_first = λ z. not_both (let w : false ≡ true = simp (eq-eqb (r % 42) 0 z) at m.1 in w);
          };
      zeros = λ k h q.
          let e : k + (r - k) ≡ r = omega arith in
          let z : kind_at p r ≡ 0 = subst (λ (x : ℕ). kind_at p x ≡ 0) e (ended (r - k) k q (omega arith) (omega arith)) in
          all_zero p r (end_of r (right r i l) z).1;
      node = λ d. node_right p r (node_of r (right r i l) d).1;
    }

  -- And the other way: the record before is no end,
  before : (r : ℕ) → RecordRight p r → (kind_at p r ≡ 0 → ⊥) → after_end p r ≡ false
  unfolding after_end
  before zero w d = refl
  before (suc r) w d = ne_eqb (kind_at p r) 0 λ q. d (zero_kind p (suc r) (w.zeros r (omega arith) q))

  -- a record of kind 0 may end, and is zero,
  right_end : (r : ℕ) → RecordRight p r → kind_at p r ≡ 0 → (may_end p r and is_zero p r) ≡ true
  unfolding may_end
  right_end r w q =
      and_true (and_true (eq-eqb _ _ (w.end q).last_block) (go (eqb (r % 42) 0) refl)) (zero_all p r (w.zeros r (omega arith) q))
    where
      go : (b : Bool) → eqb (r % 42) 0 ≡ b → not b ≡ true
      go true e = absurd ((w.end q).not_first (eqb-true _ _ e))
      go false e = refl

  -- so the record has no fault.
  right_record : (r : ℕ) → RecordRight p r → record_wrong p r ≡ false
  unfolding record_wrong
  right_record r w =
      choose (kind_at p r) 0
      (λ q. simp (eq-eqb (kind_at p r) 0 q) (deny (right_end r w q)))
      (λ d. simp (ne_eqb (kind_at p r) 0 d) (or_false (before r w d) (right_node p r (w.node d))))

-- Below a bound no fault is found exactly when every record there keeps its own rule.
pub finds_record : (p : Bytes) → Finds (first (record_wrong p) (records p)) (RecordRight p) (records p)
finds_record p =
    finds_first (record_wrong p) (records p) (RecordRight p) (λ b h m i l. record_right p b h m i l) (λ b h m i l. right_record p m (h m i l))

-- No fault of format: every block and record is right.
pub each_format : (p : Bytes) → Formed p → Formatted p
each_format p f = record {
  whole = whole_blocks p f.length_right;
  each_sum = nowhere_right _ _ _ (finds_sum p) f.sums_right;
  each_number = nowhere_right _ _ _ (finds_number p) f.numbers_right;
  each_record = nowhere_right _ _ _ (finds_record p) f.records_right;
}

-- Every block and record is right: no fault of format.
pub format_each : (p : Bytes) → Formatted p → Formed p
format_each p f = record {
  length_right = blocks_whole p f.whole;
  sums_right = right_nowhere _ _ _ (finds_sum p) f.each_sum;
  numbers_right = right_nowhere _ _ _ (finds_number p) f.each_number;
  records_right = right_nowhere _ _ _ (finds_record p) f.each_record;
}
