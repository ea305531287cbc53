-- Of two files of one length whose records are the same everywhere the rules of codes 1, 4 and 5 say the same.
-- Assumes nothing.
use Rattle.std.specs.Prelude.{if◌then◌else◌}
use mathlib.Core.Path.{◌≡◌, refl, sym, ap, ◌∙◌}
use mathlib.Core.Bool.{Bool, not}
use Prim.Native.Nat.{ℕ, zero, suc, ◌+◌, ◌*◌, ◌/◌, ◌%◌}
use native.Mathlib.Omega.{arith}
use lib.Dec.{eqb, ltb}
use lib.ListN.{length}
use Rattle.rules.specs.Bytes.{Bytes, u16_at, u32_at, u64_at, first, ◌and◌, ◌or◌}
use Rattle.rules.specs.Layout.{blocks, records, nodes, record_at, no_next, kind_at, type_at, a_at, b_at, c_at, word_at}
use Rattle.rules.specs.Kinds.{is_kind, is_signal, fields_of}
use Rattle.rules.specs.Format.{length_wrong, record_wrong, may_end, is_zero, after_end, node_wrong, field_wrong, type_field_wrong}
use Rattle.rules.specs.Shape.{is_child, may_be, may_stop, child_wrong, children_wrong, names, names_in, named_below, named, shape_wrong}
use Rattle.rules.specs.declared.Field.{Field}
use Rattle.editions.proofs.SameTree.{Everywhere, blocks_same, records_same, nodes_same}

module _ (p q : Bytes) (s : Everywhere p q) where
  pub length_same : length_wrong p ≡ length_wrong q
  unfolding length_wrong
  length_same = λ i. eqb (s.long i) 0 or ltb 12288 (s.long i) or not (eqb (s.long i % 512) 0)

  -- Field c once more, as the eight first bytes of a record have it.
  third : (r : ℕ) → u16_at p (record_at r + 4 + 2) ≡ u16_at q (record_at r + 4 + 2)
  unfolding c_at
  third r =
      let e : record_at r + 4 + 2 ≡ record_at r + 6 = omega arith in
      ap (λ (x : ℕ). u16_at p x) e ∙ s.c r ∙ sym (ap (λ (x : ℕ). u16_at q x) e)

  zero_same : (r : ℕ) → is_zero p r ≡ is_zero q r
  unfolding is_zero u64_at u32_at u16_at kind_at type_at a_at b_at word_at
  zero_same r =
      λ i.
      eqb (s.kind r i + 256 * s.ty r i + 65536 * s.a r i + 4294967296 * (s.b r i + 65536 * third r i)) 0 and eqb (s.word r i) 0

  node_same : (r : ℕ) → node_wrong p r ≡ node_wrong q r
  unfolding node_wrong
  node_same r =
      λ i.
      not (is_kind (s.kind r i))
      or type_field_wrong (fields_of (s.kind r i)).ty (s.ty r i) (s.b r i) (s.word r i)
      or field_wrong (fields_of (s.kind r i)).a (s.a r i)
      or field_wrong (fields_of (s.kind r i)).b (s.b r i)
      or field_wrong (fields_of (s.kind r i)).c (s.c r i)

  after_same : (r : ℕ) → after_end p r ≡ after_end q r
  unfolding after_end
  after_same zero = refl
  after_same (suc r) = λ i. eqb (s.kind r i) 0

  end_same : (r : ℕ) → may_end p r ≡ may_end q r
  unfolding may_end
  end_same r = λ i. eqb (suc (r / 42)) (blocks_same p q s i) and not (eqb (r % 42) 0)

  record_same : (r : ℕ) → record_wrong p r ≡ record_wrong q r
  unfolding record_wrong
  record_same r = λ i. if eqb (s.kind r i) 0 then not (end_same r i and zero_same r i) else after_same r i or node_same r i

  pub record_fault_same : first (record_wrong p) (records p) ≡ first (record_wrong q) (records q)
  record_fault_same = λ i. first (λ r. record_same r i) (records_same p q s i)

  -- A field's child, where field and number are the same.
  child_same : (n : ℕ) {f g : Field} {x y : ℕ} → f ≡ g → x ≡ y → child_wrong p n f x ≡ child_wrong q n g y
  unfolding child_wrong
  child_same n e h = λ i. is_child (e i) and not (may_stop (e i) and eqb (h i) no_next) and not (ltb (h i) n and may_be (e i) (s.kind (h i) i))

  children_same : (n : ℕ) → children_wrong p n ≡ children_wrong q n
  unfolding children_wrong
  children_same n =
      let a = child_same n (λ i. (fields_of (s.kind n i)).a) (s.a n) in
      let b = child_same n (λ i. (fields_of (s.kind n i)).b) (s.b n) in
      let c = child_same n (λ i. (fields_of (s.kind n i)).c) (s.c n) in
      λ i. a i or b i or c i

  names_same : (n m : ℕ) → names_in p n m ≡ names_in q n m
  unfolding names_in
  names_same n m =
      λ i.
      names (fields_of (s.kind m i)).a (s.a m i) n + names (fields_of (s.kind m i)).b (s.b m i) n
      + names (fields_of (s.kind m i)).c (s.c m i) n

  named_below_lem : (n m : ℕ) → named_below p n m ≡ named_below q n m
  unfolding named_below
  named_below_lem n zero = refl
  named_below_lem n (suc m) = λ i. named_below_lem n m i + names_same n m i

  named_same : (n : ℕ) → named p n ≡ named q n
  unfolding named
  named_same n = λ i. named_below_lem n (nodes_same p q s i) i

  shape_same : (n : ℕ) → shape_wrong p n ≡ shape_wrong q n
  unfolding shape_wrong
  shape_same n =
      λ i.
      children_same n i
      or (if eqb (suc n) (nodes_same p q s i) then not (is_signal (s.kind n i)) else not (eqb (named_same n i) 1))

  pub shape_fault_same : first (shape_wrong p) (nodes p) ≡ first (shape_wrong q) (nodes q)
  shape_fault_same = λ i. first (λ n. shape_same n i) (nodes_same p q s i)
