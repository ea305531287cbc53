-- The digits of a kind's row are what the table says of it.
-- Assumes nothing.
use Rattle.std.specs.Prelude.{if◌then◌else◌}
use mathlib.Core.Path.{◌≡◌, refl, sym, ap, ◌∙◌}
use mathlib.Core.Bool.{Bool, true, false, not, true≢false}
use Prim.Native.Nat.{ℕ, ◌+◌, ◌*◌, ◌/◌, ◌%◌, ◌≤◌, ◌<◌}
use native.Mathlib.Omega.{arith}
use lib.Dec.{eqb, leb}
use borrow.Author.Tests.{leb-true, le-leb, ne_eqb}
use Rattle.rules.specs.Bytes.{◌and◌, ◌or◌}
use Rattle.rules.specs.Kinds.{row, is_signal, is_branch, is_case, is_expression, is_kind, fields_of}
use Rattle.rules.specs.declared.Field.{Field}
use Rattle.rules.specs.declared.Field.TheVariants.{Unused, Channel, PresentByte, Signal, Expression, FirstBranch, NextBranch, FirstCase, NextCase, Binder, Target}
use Rattle.rules.specs.declared.TypeField.{TypeField}
use Rattle.rules.specs.declared.TypeField.TheVariants.{NoType, AnyType, PlainType, ValueType}
use Rattle.rules.specs.declared.Fields.{Fields}
use Rattle.kinds.specs.Rows.{child_number, child_numbered, as_child, type_number, type_numbered, width, named_bits, row_number, row_of, named_in, type_field_in, a_in, b_in, c_in}

-- Each digit fits its place.
small_child : (f : Field) → child_number f < 8
unfolding child_number
small_child Unused = omega arith
small_child Channel = omega arith
small_child PresentByte = omega arith
small_child Signal = omega arith
small_child Expression = omega arith
small_child FirstBranch = omega arith
small_child NextBranch = omega arith
small_child FirstCase = omega arith
small_child NextCase = omega arith
small_child Binder = omega arith
small_child Target = omega arith

small_type : (t : TypeField) → type_number t < 8
unfolding type_number
small_type NoType = omega arith
small_type AnyType = omega arith
small_type PlainType = omega arith
small_type ValueType = omega arith

small_width : (f : Field) → width f < 64
unfolding width
small_width Unused = omega arith
small_width Channel = omega arith
small_width PresentByte = omega arith
small_width Signal = omega arith
small_width Expression = omega arith
small_width FirstBranch = omega arith
small_width NextBranch = omega arith
small_width FirstCase = omega arith
small_width NextCase = omega arith
small_width Binder = omega arith
small_width Target = omega arith

either_small : (b : Bool) {x y : ℕ} → x < 64 → y < 64 → (if b then x else y) < 64
either_small true h k = h
either_small false h k = k

small_named : (f : Fields) → named_bits f < 64
unfolding named_bits
small_named f =
    either_small (eqb (width f.c) 0) (either_small (eqb (width f.b) 0) (small_width f.a) (omega arith)) (omega arith)

-- The digits of a number that is made of them.
module _ (n t a b c : ℕ) (hn : n < 64) (ht : t < 8) (ha : a < 8) (hb : b < 8) (hc : c < 8) where
  digit_n : (n + 64 * t + 512 * a + 4096 * b + 32768 * c) % 64 ≡ n
  digit_n = omega arith

  digit_t : (n + 64 * t + 512 * a + 4096 * b + 32768 * c) / 64 % 8 ≡ t
  digit_t = omega arith

  digit_a : (n + 64 * t + 512 * a + 4096 * b + 32768 * c) / 512 % 8 ≡ a
  digit_a = omega arith

  digit_b : (n + 64 * t + 512 * a + 4096 * b + 32768 * c) / 4096 % 8 ≡ b
  digit_b = omega arith

  digit_c : (n + 64 * t + 512 * a + 4096 * b + 32768 * c) / 32768 % 8 ≡ c
  digit_c = omega arith

positive_type : (t : TypeField) → 1 ≤ type_number t
unfolding type_number
positive_type NoType = omega arith
positive_type AnyType = omega arith
positive_type PlainType = omega arith
positive_type ValueType = omega arith

not_zero : (f : Fields) → row_number f ≡ 0 → ⊥
unfolding row_number
not_zero f e = omega (arith, positive_type f.ty)

type_back : (t : TypeField) → type_numbered (type_number t) ≡ t
unfolding type_numbered type_number
type_back NoType = refl
type_back AnyType = refl
type_back PlainType = refl
type_back ValueType = refl

-- A number that is no kind has no field.
not_it : (k m : ℕ) → is_kind k ≡ false → is_kind m ≡ true → eqb k m ≡ false
not_it k m e q = ne_eqb k m λ w. true≢false (sym q ∙ sym (ap is_kind w) ∙ e)

last_not : (a b c d : Bool) → (a or b or c or d) ≡ false → d ≡ false
unfolding ◌or◌
last_not true b c d e = elim (true≢false e) [ ]
last_not false true c d e = elim (true≢false e) [ ]
last_not false false true d e = elim (true≢false e) [ ]
last_not false false false d e = e

no_expression : (k : ℕ) → is_kind k ≡ false → (leb 16 k and leb k 29) ≡ false
unfolding is_kind is_expression
no_expression k e = last_not (is_signal k) (is_branch k) (is_case k) (leb 16 k and leb k 29) e

-- A range within that of the expressions has no number that is no kind.
no_run : (k m n : ℕ) → 16 ≤ m → n ≤ 29 → (leb 16 k and leb k 29) ≡ false → (leb m k and leb k n) ≡ false
unfolding ◌and◌
no_run k m n hm hn e = go (leb m k) refl (leb k n) refl
  where
    go : (x : Bool) → leb m k ≡ x → (y : Bool) → leb k n ≡ y → (x and y) ≡ false
    go false q y w = refl
    go true q false w = refl
    go true q true w =
        elim (true≢false (sym (simp (le-leb 16 k (omega (arith, leb-true m k q)), le-leb k 29 (omega (arith, leb-true k n w)))) ∙ e)) [ ]

pub no_fields : (k : ℕ) → is_kind k ≡ false → fields_of k ≡ row NoType Unused Unused Unused
unfolding fields_of is_kind is_signal is_branch is_case is_expression ◌and◌ ◌or◌
no_fields k e =
    simp (
      not_it k 1 e refl,
      not_it k 3 e refl,
      not_it k 4 e refl,
      not_it k 5 e refl,
      not_it k 6 e refl,
      not_it k 7 e refl,
      not_it k 8 e refl,
      not_it k 9 e refl,
      not_it k 10 e refl,
      not_it k 16 e refl,
      not_it k 17 e refl,
      no_run k 18 23 (omega arith) (omega arith) (no_expression k e),
      not_it k 24 e refl,
      no_run k 25 26 (omega arith) (omega arith) (no_expression k e),
      not_it k 27 e refl,
      not_it k 28 e refl,
      not_it k 29 e refl,
    )

-- The digits of a row.
module _ (f : Fields) where
  row_named : named_in (row_number f) ≡ named_bits f
  unfolding named_in row_number
  row_named = digit_n _ _ _ _ _ (small_named f) (small_type f.ty) (small_child f.a) (small_child f.b) (small_child f.c)

  row_type : type_field_in (row_number f) ≡ f.ty
  unfolding type_field_in row_number
  row_type = ap type_numbered (digit_t _ _ _ _ _ (small_named f) (small_type f.ty) (small_child f.a) (small_child f.b) (small_child f.c)) ∙ type_back f.ty

  row_a : a_in (row_number f) ≡ as_child f.a
  unfolding a_in row_number as_child
  row_a = ap child_numbered (digit_a _ _ _ _ _ (small_named f) (small_type f.ty) (small_child f.a) (small_child f.b) (small_child f.c))

  row_b : b_in (row_number f) ≡ as_child f.b
  unfolding b_in row_number as_child
  row_b = ap child_numbered (digit_b _ _ _ _ _ (small_named f) (small_type f.ty) (small_child f.a) (small_child f.b) (small_child f.c))

  row_c : c_in (row_number f) ≡ as_child f.c
  unfolding c_in row_number as_child
  row_c = ap child_numbered (digit_c _ _ _ _ _ (small_named f) (small_type f.ty) (small_child f.a) (small_child f.b) (small_child f.c))

-- The digits of a kind's row, and the children in the row of any number.
of_kind : (k : ℕ) → is_kind k ≡ true → row_of k ≡ row_number (fields_of k)
unfolding row_of
of_kind k e = rw e refl

of_none : (k : ℕ) → is_kind k ≡ false → row_of k ≡ 0
unfolding row_of
of_none k e = rw e refl

pub named_of : (k : ℕ) → is_kind k ≡ true → named_in (row_of k) ≡ named_bits (fields_of k)
named_of k e = ap named_in (of_kind k e) ∙ row_named (fields_of k)

pub type_of_lem : (k : ℕ) → is_kind k ≡ true → type_field_in (row_of k) ≡ (fields_of k).ty
type_of_lem k e = ap type_field_in (of_kind k e) ∙ row_type (fields_of k)

-- A row is 0 exactly where the number is no kind.
pub zero_row : (k : ℕ) → eqb (row_of k) 0 ≡ not (is_kind k)
zero_row k = go (is_kind k) refl
  where
    go : (b : Bool) → is_kind k ≡ b → eqb (row_of k) 0 ≡ not b
    go true e = ne_eqb (row_of k) 0 λ w. not_zero (fields_of k) (sym (of_kind k e) ∙ w)
    go false e = ap (λ (n : ℕ). eqb n 0) (of_none k e)

module _ (k : ℕ) where
  children : (b : Bool) → is_kind k ≡ b
      → (a_in (row_of k) ≡ as_child (fields_of k).a) × (b_in (row_of k) ≡ as_child (fields_of k).b) × (c_in (row_of k) ≡ as_child (fields_of k).c)
  unfolding a_in b_in c_in as_child child_numbered child_number row
  children true e = rw (of_kind k e) (row_a (fields_of k), row_b (fields_of k), row_c (fields_of k))
  children false e = rw (of_none k e, no_fields k e) (refl, refl, refl)

  pub a_of_lem : a_in (row_of k) ≡ as_child (fields_of k).a
  a_of_lem = (children (is_kind k) refl).0

  pub b_of : b_in (row_of k) ≡ as_child (fields_of k).b
  b_of = (children (is_kind k) refl).1

  pub c_of_lem : c_in (row_of k) ≡ as_child (fields_of k).c
  c_of_lem = (children (is_kind k) refl).2
