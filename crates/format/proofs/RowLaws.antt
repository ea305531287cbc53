-- A record of a kind is wrong where its row's number says so, and a record of no kind is wrong.
-- Assumes nothing.
use mathlib.Core.Path.{◌≡◌, refl, sym, ap, subst, ◌∙◌}
use mathlib.Core.Bool.{Bool, true, false, not, true≢false}
use Prim.Native.Nat.{ℕ, ◌+◌, ◌*◌, ◌/◌, ◌%◌, ◌^◌, ◌≤◌, ◌<◌}
use native.Mathlib.Omega.{arith}
use lib.Dec.{eqb, ltb}
use borrow.Author.Tests.{eqb-true, eqb-false, eq-eqb, ne_eqb, ltb-true, ltb-false, not-true, not-false}
use Rattle.rules.specs.Bytes.{Bytes, ◌and◌, ◌or◌, byte_at, u16_at, u32_at, u64_at}
use Rattle.rules.specs.Layout.{record_at, kind_at, type_at, a_at, b_at, c_at, word_at}
use Rattle.rules.specs.Kinds.{row, is_kind, fields_of}
use Rattle.rules.specs.Shape.{is_child}
use Rattle.rules.specs.Values.{is_type, is_plain, value_fits}
use Rattle.rules.specs.Format.{field_wrong, type_field_wrong, node_wrong}
use Rattle.rules.specs.declared.Field.{Field}
use Rattle.rules.specs.declared.Field.TheVariants.{Unused, Channel, PresentByte, Signal, Expression, FirstBranch, NextBranch, FirstCase, NextCase, Binder, Target}
use Rattle.rules.specs.declared.TypeField.{TypeField}
use Rattle.rules.specs.declared.TypeField.TheVariants.{NoType, AnyType, PlainType, ValueType}
use Rattle.rules.specs.declared.Fields.{Fields}
use Rattle.kinds.specs.Rows.{child_number, child_numbered, as_child, width, named_bits, row_of, named_in, type_field_in, a_in}
use Rattle.kinds.proofs.RowLaws.{each_kind, on_two}
use Rattle.kinds.proofs.Digits.{named_of, type_of_lem, a_of_lem, zero_row}
use Rattle.format.specs.ByRow.{left_out, row_wrong}

-- Three fields as one number.
unfoldable pub as_one : ℕ → ℕ → ℕ → ℕ
as_one a b c = a + 65536 * b + 4294967296 * c

-- What a row says of its fields, and what its number says of them.
abbrev pub Said : Fields → Type 0
Said f =
    (a b c : ℕ) → a < 65536 → b < 65536 → c < 65536
    → (field_wrong f.a a or field_wrong f.b b or field_wrong f.c c)
    ≡ (not (eqb (as_one a b c / 2 ^ named_bits f) 0) or left_out f.ty (as_child f.a) a)

-- Three tests are one: a number is 0 exactly where none of them fails.
tests : (n : ℕ) (x y z : Bool) → (x ≡ false → y ≡ false → z ≡ false → n ≡ 0) → (x ≡ true → n ≡ 0 → ⊥) → (y ≡ true → n ≡ 0 → ⊥) → (z ≡ true → n ≡ 0 → ⊥)
    → (x or y or z) ≡ (not (eqb n 0) or false)
unfolding ◌or◌
tests n true y z none at_x at_y at-z = rw (ne_eqb n 0 (at_x refl)) refl
tests n false true z none at_x at_y at-z = rw (ne_eqb n 0 (at_y refl)) refl
tests n false false true none at_x at_y at-z = rw (ne_eqb n 0 (at-z refl)) refl
tests n false false false none at_x at_y at-z = rw (eq-eqb n 0 (none refl refl refl)) refl

zero_of : (n : ℕ) → not (eqb n 0) ≡ false → n ≡ 0
zero_of n e = eqb-true n 0 (not-false _ e)

some_of : (n : ℕ) → not (eqb n 0) ≡ true → n ≡ 0 → ⊥
some_of n e = eqb-false n 0 (not-true _ e)

or_true : (x : Bool) → (x or true) ≡ true
unfolding ◌or◌
or_true true = refl
or_true false = refl

first_left : (x z r : Bool) → (false or false or z) ≡ (r or false) → (not x or false or z) ≡ (r or not (false or x))
unfolding ◌or◌
first_left true z r e = e
first_left false z r e = sym (or_true r)

module _ (a b c : ℕ) (ha : a < 65536) (hb : b < 65536) (hc : c < 65536) where
  no_field : (not (eqb a 0) or not (eqb b 0) or not (eqb c 0)) ≡ (not (eqb (as_one a b c / 1) 0) or false)
  unfolding as_one
  no_field =
      tests (as_one a b c / 1) (not (eqb a 0)) (not (eqb b 0)) (not (eqb c 0))
      (λ x y z. omega (arith, zero_of a x, zero_of b y, zero_of c z))
      (λ x e. some_of a x (omega arith)) (λ y e. some_of b y (omega arith)) (λ z e. some_of c z (omega arith))

  a_channel : (ltb 7 a or not (eqb b 0) or not (eqb c 0)) ≡ (not (eqb (as_one a b c / 8) 0) or false)
  unfolding as_one
  a_channel =
      tests (as_one a b c / 8) (ltb 7 a) (not (eqb b 0)) (not (eqb c 0))
      (λ x y z. omega (arith, ltb-false 7 a x, zero_of b y, zero_of c z))
      (λ x e. omega (arith, ltb-true 7 a x)) (λ y e. some_of b y (omega arith)) (λ z e. some_of c z (omega arith))

  one_field : (false or not (eqb b 0) or not (eqb c 0)) ≡ (not (eqb (as_one a b c / 65536) 0) or false)
  unfolding as_one
  one_field =
      tests (as_one a b c / 65536) false (not (eqb b 0)) (not (eqb c 0))
      (λ x y z. omega (arith, zero_of b y, zero_of c z))
      (λ x e. elim (true≢false (sym x)) [ ]) (λ y e. some_of b y (omega arith)) (λ z e. some_of c z (omega arith))

  two_fields : (false or false or not (eqb c 0)) ≡ (not (eqb (as_one a b c / 4294967296) 0) or false)
  unfolding as_one
  two_fields =
      tests (as_one a b c / 4294967296) false false (not (eqb c 0))
      (λ x y z. omega (arith, zero_of c z))
      (λ x e. elim (true≢false (sym x)) [ ]) (λ y e. elim (true≢false (sym y)) [ ]) (λ z e. some_of c z (omega arith))

  three_fields : (false or false or false) ≡ (not (eqb (as_one a b c / 281474976710656) 0) or false)
  unfolding as_one
  three_fields =
      tests (as_one a b c / 281474976710656) false false false
      (λ x y z. omega arith)
      (λ x e. elim (true≢false (sym x)) [ ]) (λ y e. elim (true≢false (sym y)) [ ]) (λ z e. elim (true≢false (sym z)) [ ])

  -- A constant's a is left out, and its b is named.
  second_field : (not (eqb a 0) or false or not (eqb c 0)) ≡ (not (eqb (as_one a b c / 4294967296) 0) or not (false or eqb a 0))
  second_field = first_left (eqb a 0) (not (eqb c 0)) (not (eqb (as_one a b c / 4294967296) 0)) two_fields

-- So for each kind.
pub said : (k : ℕ) → is_kind k ≡ true → Said (fields_of k)
unfolding fields_of row ◌and◌ field_wrong named_bits width left_out is_child as_child child_numbered child_number ◌or◌
said k e =
    each_kind (λ m. Said (fields_of m)) k e
    a_channel no_field one_field two_fields two_fields three_fields two_fields two_fields two_fields three_fields
    one_field second_field one_field three_fields one_field three_fields
    (λ l u d. subst Said (on_two k l u d) two_fields)

-- The type of a record, by what its row says of it.
or_false : (x : Bool) → (x or false) ≡ x
unfolding ◌or◌
or_false true = refl
or_false false = refl

not_both : (y z : Bool) → not (y and z) ≡ (not y or not z)
unfolding ◌and◌ ◌or◌
not_both true z = refl
not_both false z = refl

module _ {f : TypeField} (g : Field) (t a b w : ℕ) {x : Bool} where
  pub no_type : f ≡ NoType → x ≡ (eqb t 0 and eqb w 0) → not x ≡ (type_field_wrong f t b w or left_out f g a)
  unfolding type_field_wrong left_out
  no_type e q = rw (e, q) (sym (or_false _))

  pub any_type : {i : Bool} → f ≡ AnyType → i ≡ is_type t → x ≡ (i and eqb w 0) → not x ≡ (type_field_wrong f t b w or left_out f g a)
  unfolding type_field_wrong left_out
  any_type e d q = rw (e, q, d) (sym (or_false _))

  pub plain_type_lem : {i : Bool} → f ≡ PlainType → i ≡ is_plain t → x ≡ (i and eqb w 0) → not x ≡ (type_field_wrong f t b w or left_out f g a)
  unfolding type_field_wrong left_out
  plain_type_lem e d q = rw (e, q, d) (sym (or_false _))

  pub value_type : {h : Field} {i v y z u : Bool} → f ≡ ValueType → i ≡ is_type t → v ≡ value_fits t b w → y ≡ (i and v) → h ≡ g → u ≡ is_child h
      → z ≡ (u or eqb a 0) → x ≡ (y and z) → not x ≡ (type_field_wrong f t b w or left_out f g a)
  unfolding type_field_wrong left_out
  value_type e d m n o j k q = rw (e, q, n, k, d, m, j, o) (not_both (is_type t and value_fits t b w) (is_child g or eqb a 0))

-- The eight bytes of a record as one number, and its digits.
record Digits (low k t a b c : ℕ) : Type 0 where
  is_kind_lem : low % 256 ≡ k
  is_a_type : low / 256 % 256 ≡ t
  is_a : low / 65536 % 65536 ≡ a
  is_b : low / 4294967296 % 65536 ≡ b
  is_all : low / 65536 ≡ as_one a b c

digits : (low k t a b c : ℕ) → k < 256 → t < 256 → a < 65536 → b < 65536 → c < 65536
    → low ≡ k + 256 * t + 65536 * a + 4294967296 * (b + 65536 * c) → Digits low k t a b c
unfolding as_one
digits low k t a b c hk ht ha hb hc e =
    record { is_kind_lem = omega arith; is_a_type = omega arith; is_a = omega arith; is_b = omega arith; is_all = omega arith }

two : (p : Bytes) (at : ℕ) → u16_at p at ≡ byte_at p at + 256 * byte_at p (at + 1)
unfolding u16_at
two p at = refl

-- The two halves of eight bytes, by the fields that stand there.
eight : (p : Bytes) (at : ℕ)
    → u64_at p at ≡ byte_at p at + 256 * byte_at p (at + 1) + 65536 * u16_at p (at + 2) + 4294967296 * (u16_at p (at + 4) + 65536 * u16_at p (at + 6))
unfolding u64_at u32_at
eight p at =
    let six : at + 4 + 2 ≡ at + 6 = omega arith in
    ap (λ (n : ℕ). u16_at p at + 65536 * u16_at p (at + 2) + 4294967296 * (u16_at p (at + 4) + 65536 * u16_at p n)) six ∙ low_half p at _
  where
    low_half : (p : Bytes) (at n : ℕ) → u16_at p at + 65536 * u16_at p (at + 2) + n ≡ byte_at p at + 256 * byte_at p (at + 1) + 65536 * u16_at p (at + 2) + n
    low_half p at n = ap (λ (m : ℕ). m + 65536 * u16_at p (at + 2) + n) (two p at)

module _ (p : Bytes) (small : (i : ℕ) → byte_at p i < 256) where
  half_small : (i : ℕ) → u16_at p i < 65536
  unfolding u16_at
  half_small i = omega (arith, small i, small (i + 1))

  low_digits : (r low : ℕ) → low ≡ u64_at p (record_at r) → Digits low (kind_at p r) (type_at p r) (a_at p r) (b_at p r) (c_at p r)
  unfolding kind_at type_at a_at b_at c_at
  low_digits r low e =
      let at = record_at r in
      digits low (byte_at p at) (byte_at p (at + 1)) (u16_at p (at + 2)) (u16_at p (at + 4)) (u16_at p (at + 6)) (small at) (small (at + 1))
      (half_small (at + 2)) (half_small (at + 4)) (half_small (at + 6)) (e ∙ eight p at)

-- So for a record: wrong as its row says, or of no kind.
shuffled : (t a b c r l : Bool) → (a or b or c) ≡ (r or l) → (t or a or b or c) ≡ (r or (t or l))
unfolding ◌or◌
shuffled true a b c r l e = sym (or_true r)
shuffled false a b c r l e = e

module _ (p : Bytes) (small : (i : ℕ) → byte_at p i < 256) (r : ℕ) where
  by_kind : (low : ℕ) → Digits low (kind_at p r) (type_at p r) (a_at p r) (b_at p r) (c_at p r) → (b : Bool) → is_kind (kind_at p r) ≡ b
      → (eqb (row_of (kind_at p r)) 0 or row_wrong (row_of (kind_at p r)) low (word_at p r)) ≡ node_wrong p r
  unfolding node_wrong row_wrong ◌or◌ a_at b_at c_at
  by_kind low d false e = rw (zero_row (kind_at p r), e) refl
  by_kind low d true e =
      let k = kind_at p r in
      let f = fields_of k in
      rw (zero_row k, e, named_of k e, type_of_lem k e, a_of_lem k, d.is_a_type, d.is_b, d.is_a, d.is_all)
      (sym (shuffled (type_field_wrong f.ty (type_at p r) (b_at p r) (word_at p r)) (field_wrong f.a (a_at p r)) (field_wrong f.b (b_at p r)) (field_wrong f.c (c_at p r))
      (not (eqb (as_one (a_at p r) (b_at p r) (c_at p r) / 2 ^ named_bits f) 0)) (left_out f.ty (as_child f.a) (a_at p r))
      (said k e (a_at p r) (b_at p r) (c_at p r) (half_small p small _) (half_small p small _) (half_small p small _))))

  pub by_row : {at low word row : ℕ} {x w : Bool} → at ≡ record_at r → low ≡ u64_at p at → word ≡ u32_at p (at + 8) → row ≡ row_of (low % 256)
      → x ≡ row_wrong row low word → w ≡ (eqb row 0 or x) → w ≡ node_wrong p r
  unfolding word_at
  by_row {at} {low} {word} {row} place first last said_row said-wrong e =
      let d = low_digits p small r low (first ∙ ap (u64_at p) place) in
      let is_row : row ≡ row_of (kind_at p r) = said_row ∙ ap row_of d.is_kind_lem in
      let is_word : word ≡ word_at p r = last ∙ ap (λ (n : ℕ). u32_at p (n + 8)) place in
      e ∙ rw (said-wrong, is_row, is_word) (by_kind low d (is_kind (kind_at p r)) refl)
