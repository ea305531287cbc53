-- The table of kinds as the code has it: one computed test over all kinds for each column.
-- Assumes nothing.
use Rattle.std.specs.Prelude.{if◌then◌else◌}
use mathlib.Core.Path.{◌≡◌, refl, sym, ap, ◌∙◌}
use mathlib.Core.Bool.{Bool, true, false}
use Prim.Native.Nat.{ℕ, ◌<◌}
use lib.Dec.{eqb}
use borrow.Author.Tests.{eqb-true, ne_eqb}
use Rattle.rules.specs.Bytes.{◌and◌, ◌or◌}
use Rattle.rules.specs.Kinds.{row, is_signal, is_expression, is_branch, is_case, is_kind, fields_of}
use Rattle.rules.specs.declared.Field.{Field}
use Rattle.rules.specs.declared.Field.TheVariants.{Unused, Channel, PresentByte, Signal, Expression, FirstBranch, NextBranch, FirstCase, NextCase, Binder, Target}
use Rattle.rules.specs.declared.TypeField.{TypeField}
use Rattle.rules.specs.declared.TypeField.TheVariants.{NoType, AnyType, PlainType, ValueType}
use Rattle.kinds.specs.Rows.{child_number, child_numbered, type_number, type_numbered, width, named_bits, row_number, row_of, a_in, b_in, c_in}
use Rattle.texts.proofs.KindTests.{all_below, passes}

-- Fields by numbers.
unfoldable field_number : Field → ℕ
field_number Unused = 0
field_number Channel = 1
field_number PresentByte = 2
field_number Signal = 3
field_number Expression = 4
field_number FirstBranch = 5
field_number NextBranch = 6
field_number FirstCase = 7
field_number NextCase = 8
field_number Binder = 9
field_number Target = 10

unfoldable field_numbered : ℕ → Field
field_numbered n =
    if eqb n 0 then Unused
    else if eqb n 1 then Channel
    else if eqb n 2 then PresentByte
    else if eqb n 3 then Signal
    else if eqb n 4 then Expression
    else if eqb n 5 then FirstBranch
    else if eqb n 6 then NextBranch
    else if eqb n 7 then FirstCase
    else if eqb n 8 then NextCase
    else if eqb n 9 then Binder
    else Target

numbered : (f : Field) → field_numbered (field_number f) ≡ f
unfolding field_number field_numbered
numbered Unused = refl
numbered Channel = refl
numbered PresentByte = refl
numbered Signal = refl
numbered Expression = refl
numbered FirstBranch = refl
numbered NextBranch = refl
numbered FirstCase = refl
numbered NextCase = refl
numbered Binder = refl
numbered Target = refl

same_field : (f g : Field) → eqb (field_number f) (field_number g) ≡ true → f ≡ g
same_field f g e = sym (numbered f) ∙ ap field_numbered (eqb-true (field_number f) (field_number g) e) ∙ numbered g

unfoldable test_a : ℕ → Bool
test_a k = eqb k 1 or (eqb k 16 or eqb (field_number (a_in (row_of k))) (field_number (fields_of k).a))

unfoldable test_b : ℕ → Bool
test_b k = eqb k 4 or (eqb k 17 or eqb (field_number (b_in (row_of k))) (field_number (fields_of k).b))

unfoldable test_c : ℕ → Bool
test_c k = eqb k 10 or eqb (field_number (c_in (row_of k))) (field_number (fields_of k).c)

tests_a : all_below test_a 30 ≡ true
unfolding all_below test_a field_number ◌or◌ ◌and◌ a_in child_numbered row_of is_kind is_signal is_branch is_case is_expression row_number named_bits width type_number child_number fields_of row
tests_a = refl

tests_b : all_below test_b 30 ≡ true
unfolding all_below test_b field_number ◌or◌ ◌and◌ b_in child_numbered row_of is_kind is_signal is_branch is_case is_expression row_number named_bits width type_number child_number fields_of row
tests_b = refl

tests_c : all_below test_c 30 ≡ true
unfolding all_below test_c field_number ◌or◌ ◌and◌ c_in child_numbered row_of is_kind is_signal is_branch is_case is_expression row_number named_bits width type_number child_number fields_of row
tests_c = refl

second_of : (x y z : Bool) → x ≡ false → y ≡ false → (x or (y or z)) ≡ true → z ≡ true
unfolding ◌or◌
second_of x y z a b e = ap (λ (w : Bool). false or (w or z)) (sym b) ∙ ap (λ (w : Bool). w or (y or z)) (sym a) ∙ e

module _ (k : ℕ) (l : k < 30) (row₀ : ℕ) (g : row₀ ≡ row_of k) where
  pub field_a : (f : Field) → f ≡ a_in row₀ → (k ≡ 1 → ⊥) → (k ≡ 16 → ⊥) → f ≡ (fields_of k).a
  unfolding test_a
  field_a f h d e = h ∙ ap a_in g ∙ same_field _ _ (second_of _ _ _ (ne_eqb k 1 d) (ne_eqb k 16 e) (passes test_a 30 tests_a k l))

  pub field_b : (f : Field) → f ≡ b_in row₀ → (k ≡ 4 → ⊥) → (k ≡ 17 → ⊥) → f ≡ (fields_of k).b
  unfolding test_b
  field_b f h d e = h ∙ ap b_in g ∙ same_field _ _ (second_of _ _ _ (ne_eqb k 4 d) (ne_eqb k 17 e) (passes test_b 30 tests_b k l))

  pub field_c : (f : Field) → f ≡ c_in row₀ → (k ≡ 10 → ⊥) → f ≡ (fields_of k).c
  unfolding test_c ◌or◌
  field_c f h d = h ∙ ap c_in g ∙ same_field _ _ (ap (λ (w : Bool). w or eqb (field_number (c_in (row_of k))) (field_number (fields_of k).c)) (sym (ne_eqb k 10 d)) ∙ passes test_c 30 tests_c k l)

-- Types.
unfoldable plain_kind : ℕ → Bool
plain_kind k = (eqb k 6 or eqb k 9) or eqb k 29

unfoldable test_t : ℕ → Bool
test_t k = eqb k 4 or (eqb k 17 or (eqb k 5 or eqb (type_number (fields_of k).ty) (if plain_kind k then 3 else 1)))

tests_t : all_below test_t 30 ≡ true
unfolding all_below test_t plain_kind ◌or◌ ◌and◌ type_number fields_of row
tests_t = refl

typed_as : (t : TypeField) → type_numbered (type_number t) ≡ t
unfolding type_numbered type_number
typed_as NoType = refl
typed_as AnyType = refl
typed_as PlainType = refl
typed_as ValueType = refl

module _ (k : ℕ) (l : k < 30) (d : k ≡ 4 → ⊥) (e : k ≡ 17 → ⊥) (f : k ≡ 5 → ⊥) (x y : Bool) (p : y ≡ (x or eqb k 29)) (q : x ≡ (eqb k 6 or eqb k 9)) where
  is_plain_lem : y ≡ plain_kind k
  unfolding plain_kind
  is_plain_lem = p ∙ ap (λ (b : Bool). b or eqb k 29) q

  number_is : type_number (fields_of k).ty ≡ (if plain_kind k then 3 else 1)
  unfolding test_t ◌or◌
  number_is = eqb-true _ _ (ap (λ (w : Bool). w or eqb (type_number (fields_of k).ty) (if plain_kind k then 3 else 1)) (sym (ne_eqb k 5 f)) ∙ second_of _ _ _ (ne_eqb k 4 d) (ne_eqb k 17 e) (passes test_t 30 tests_t k l))

  pub type_plain : y ≡ true → PlainType ≡ (fields_of k).ty
  unfolding type_numbered
  type_plain t = ap (λ (b : Bool). type_numbered (if b then 3 else 1)) (sym t ∙ is_plain_lem) ∙ ap type_numbered (sym number_is) ∙ typed_as (fields_of k).ty

  pub type_none : y ≡ false → NoType ≡ (fields_of k).ty
  unfolding type_numbered
  type_none t = ap (λ (b : Bool). type_numbered (if b then 3 else 1)) (sym t ∙ is_plain_lem) ∙ ap type_numbered (sym number_is) ∙ typed_as (fields_of k).ty
