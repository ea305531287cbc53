-- How long a printed text is: at most 107 bytes for each node (81 of white space before it, 26 of words), and 12 for the title and the line end.
-- Assumes nothing.
use Rattle.std.specs.Prelude.{Some}
use mathlib.Core.Path.{◌≡◌, refl, ap, ◌∙◌}
use mathlib.Core.Bool.{Bool, true, false, not}
use mathlib.Core.List.{List, [], ◌∷◌, ◌++◌}
use Prim.Native.Nat.{ℕ, zero, suc, ◌+◌, ◌*◌, ◌-◌, ◌/◌, ◌%◌, ◌<◌, ◌≤◌, min}
use native.Mathlib.Omega.{arith}
use lib.Dec.{eqb, ltb, leb}
use lib.ListN.{length, length-append, replicate}
use borrow.Author.Tests.{ltb-false, leb-true}
use Rattle.rules.specs.Bytes.{Bytes, ◌and◌, ◌or◌}
use Rattle.rules.specs.Values.{maybe_of, is_plain}
use Rattle.rules.specs.Kinds.{row, fields_of}
use Rattle.rules.specs.Shape.{may_be}
use Rattle.rules.specs.declared.Field.{Field}
use Rattle.rules.specs.declared.Field.TheVariants.{Unused, Channel, PresentByte, Signal, Expression, FirstBranch, NextBranch, FirstCase, NextCase, Binder, Target}
use Rattle.rules.specs.declared.TypeField.{TypeField}
use Rattle.rules.specs.declared.TypeField.TheVariants.{NoType, AnyType, PlainType, ValueType}
use Rattle.rules.proofs.Static.{and_both}
use Rattle.texts.specs.Spelled.{spelled, same}
use Rattle.texts.specs.Spelling.{open₀, kind_word, type_word, type_named}
use Rattle.texts.specs.Numerals.{digits_f, decimal, signed_decimal}
use Rattle.texts.specs.Printer.{Piece, tight, spaced, lined, variable_name, branch_name, plain_word, value_pieces, label_pieces, type_pieces, opening, laid}
use Rattle.texts.proofs.Decimals.{by_test, one_digit, more_digits}
use Rattle.texts.proofs.Laid.{an_int, a_truth, a_falsehood, a_unit, unit_type, bool_type, int_type, Fits, plain_fits, some_fits, none_fits, HeadFits, no_head, any_head, plain_head, value_head}
use Rattle.texts.proofs.NodeLaws.{no_pieces, own_pieces}
use Rattle.texts.proofs.KindTests.{all_below, passes, or_else}
use Rattle.texts.proofs.Yields.{first_passes}

-- The bytes of pieces.
abbrev pub long : List Piece → ℕ
long [] = 0
long (x ∷ xs) = length x.before + length x.word + long xs

pub long_join : (xs ys : List Piece) → long (xs ++ ys) ≡ long xs + long ys
long_join [] ys = omega arith
long_join (x ∷ xs) ys = let e = long_join xs ys in omega arith

pub laid_long : (xs : List Piece) → length (laid xs) ≡ long xs + 1
unfolding laid
laid_long [] = refl
laid_long (x ∷ xs) =
    let e = laid_long xs in
    length-append (x.before ++ x.word) (laid xs) ∙ ap (λ (k : ℕ). k + length (laid xs)) (length-append x.before x.word) ∙ omega arith

-- Numbers below 10, 100, 1,000 and 10,000.
one_long : (f n : ℕ) (after : Bytes) → n < 10 → length (digits_f (suc f) n after) ≤ 1 + length after
one_long f n after l = by_test (ltb n 10) (λ t. rw (one_digit f n after t) (omega arith)) (λ t. absurd (let g = ltb-false n 10 t in omega arith))

more_long : (f n b k : ℕ) (after : Bytes) → n < 10 * b → 1 ≤ k → ((m : ℕ) (rest : Bytes) → m < b → length (digits_f f m rest) ≤ k + length rest) → length (digits_f (suc f) n after) ≤ suc k + length after
more_long f n b k after l one h =
    by_test (ltb n 10)
    (λ t. rw (one_digit f n after t) (omega arith))
    (λ t. rw (more_digits f n after t) (let g = h (n / 10) ((48 + n % 10) ∷ after) (omega arith) in omega arith))

pub decimal_four : (n : ℕ) → n < 10000 → length (decimal n) ≤ 4
unfolding decimal
decimal_four n l =
    more_long 9 n 1000 3 [] (omega arith) (omega arith) (λ m rest h.
    more_long 8 m 100 2 rest (omega arith) (omega arith) (λ m₁ rest₁ h₁.
    more_long 7 m₁ 10 1 rest₁ (omega arith) (omega arith) (λ m₂ rest₂ h₂. one_long 6 m₂ rest₂ h₂)))

-- Ten digits are the most.
fuel_long : (f n : ℕ) (after : Bytes) → length (digits_f f n after) ≤ f + length after
unfolding digits_f
fuel_long zero n after = omega arith
fuel_long (suc f) n after =
    by_test (ltb n 10)
    (λ t. rw (one_digit f n after t) (omega arith))
    (λ t. rw (more_digits f n after t) (let g = fuel_long f (n / 10) ((48 + n % 10) ∷ after) in omega arith))

decimal_ten : (n : ℕ) → length (decimal n) ≤ 10
unfolding decimal
decimal_ten n = let g = fuel_long 10 n [] in omega arith

signed_long : (w : ℕ) → length (signed_decimal w) ≤ 11
unfolding signed_decimal
signed_long w =
    by_test (ltb w 2147483648)
    (λ t. rw (t, signed_decimal) (let g = decimal_ten w in omega arith))
    (λ t. rw (t, signed_decimal) (let g = decimal_ten (4294967296 - w) in omega arith))

-- A value takes at most 19 bytes, with the space before it.
pub value_long : {t b w : ℕ} → Fits t b w → long (value_pieces t b w) ≤ 19
unfolding value_pieces maybe_of is_plain plain_word type_word spaced tight spelled ◌and◌
value_long (plain_fits (an_int {w = w} l)) = let g = signed_long w in omega arith
value_long (plain_fits a_truth) = omega arith
value_long (plain_fits a_falsehood) = omega arith
value_long (plain_fits a_unit) = omega arith
value_long (some_fits (an_int {w = w} l)) = let g = signed_long w in omega arith
value_long (some_fits a_truth) = omega arith
value_long (some_fits a_falsehood) = omega arith
value_long (some_fits a_unit) = omega arith
value_long (none_fits unit_type) = omega arith
value_long (none_fits bool_type) = omega arith
value_long (none_fits int_type) = omega arith

-- A name takes at most 6 bytes, with the space before it.
pub variable_long : (n : ℕ) → n < 1008 → long (spaced (variable_name n) ∷ []) ≤ 6
unfolding spaced variable_name
variable_long n l = let g = decimal_four n (omega arith) in omega arith

pub branch_long : (n : ℕ) → n < 1008 → long (spaced (branch_name n) ∷ []) ≤ 6
unfolding spaced branch_name
branch_long n l = let g = decimal_four n (omega arith) in omega arith

-- The most that a type field, a branch's own name and a field that is no child take.
unfoldable pub type_most : TypeField → ℕ
type_most NoType = 0
type_most AnyType = 17
type_most PlainType = 11
type_most ValueType = 19

unfoldable pub field_most : Field → ℕ
field_most Unused = 0
field_most Channel = 2
field_most PresentByte = 0
field_most Signal = 0
field_most Expression = 0
field_most FirstBranch = 0
field_most NextBranch = 0
field_most FirstCase = 0
field_most NextCase = 0
field_most Binder = 0
field_most Target = 6

unfoldable pub label_most : Bool → ℕ
label_most true = 6
label_most false = 0

-- The words of every kind: at most 24 bytes between the parentheses, children apart.
unfoldable kind_test : ℕ → Bool
kind_test k =
    leb (length (kind_word k) + label_most (eqb k 9) + type_most (fields_of k).ty + field_most (fields_of k).a + field_most (fields_of k).b + field_most (fields_of k).c) 24

kinds_pass : all_below kind_test 30 ≡ true
unfolding all_below kind_test label_most type_most field_most fields_of row kind_word spelled ◌and◌
kinds_pass = refl

pub kind_long : (k : ℕ) → k < 30
    → length (kind_word k) + label_most (eqb k 9) + type_most (fields_of k).ty + field_most (fields_of k).a + field_most (fields_of k).b + field_most (fields_of k).c ≤ 24
unfolding kind_test
kind_long k l = leb-true _ 24 (passes kind_test 30 kinds_pass k l)

unfoldable type_test : ℕ → Bool
type_test t = leb (length (type_word t)) 10 and (not (is_plain t) or leb (length (type_word t)) 4)

types_pass : all_below type_test 8 ≡ true
unfolding all_below type_test is_plain type_word spelled ◌and◌ ◌or◌
types_pass = refl

type_long : (t : ℕ) → t < 8 → (length (type_word t) ≤ 10) × (is_plain t ≡ true → length (type_word t) ≤ 4)
unfolding type_test
type_long t l =
    let p = and_both (leb (length (type_word t)) 10) (not (is_plain t) or leb (length (type_word t)) 4) (passes type_test 8 types_pass t l) in
    (leb-true _ 10 p.0, (λ e. leb-true _ 4 (or_else (not (is_plain t)) _ p.1 (ap not e))))

-- What stands between a kind's word and its children.
named_type : (allowed : ℕ → Bool) (w : Bytes) (t : ℕ) → type_named allowed w ≡ Some t → (allowed t ≡ true) × (t < 8)
unfolding type_named
named_type allowed w t e =
    let r = first_passes (λ t. allowed t and same w (type_word t)) 8 t e in ((and_both (allowed t) (same w (type_word t)) r.0).0, r.1)

pub head_long : {ty : TypeField} {t b w : ℕ} → HeadFits ty t b w → (n : ℕ) → n < 1008 → long (type_pieces ty n t b w) ≤ type_most ty
unfolding type_pieces type_most spaced variable_name
head_long no_head n l = omega arith
head_long (any_head {t = t} is p) n l = let g = decimal_four n (omega arith) in let m = (type_long t (named_type _ _ t is).1).0 in omega arith
head_long (plain_head {t = t} is p) n l =
    let g = decimal_four n (omega arith) in
    let c = named_type _ _ t is in
    let m = (type_long t c.1).1 c.0 in omega arith
head_long (value_head fits) n l = value_long fits

pub label_long : (k n : ℕ) → n < 1008 → long (label_pieces k n) ≤ label_most (eqb k 9)
unfolding label_most
label_long k n l =
    by_test (eqb k 9)
    (λ t. let z = own_pieces k n t in rw (z, t) (branch_long n l))
    (λ t. let z = no_pieces k n t in rw (z, t) (omega arith))

-- At most 81 bytes of white space and a parenthesis.
spaces_long : (n : ℕ) → length (replicate {A = ℕ} n 32) ≡ n
spaces_long zero = refl
spaces_long (suc n) = ap suc (spaces_long n)

lined_long : (depth : ℕ) → length (lined depth open₀).before + length (lined depth open₀).word ≤ 82
unfolding lined
lined_long depth = let e = spaces_long (2 * min depth 40) in omega arith

pub opening_long : (f : Field) (isFirst : Bool) (k depth : ℕ) → length (opening f isFirst k depth).before + length (opening f isFirst k depth).word ≤ 82
unfolding opening spaced
opening_long f isFirst k depth = by_test (may_be f 17 or isFirst and ltb k 4) (λ t. rw (t, opening) (omega arith)) (λ t. rw (t, opening) (lined_long depth))
