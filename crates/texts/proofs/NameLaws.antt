-- Printed names are names, and different for different numbers.
-- Assumes nothing.
use mathlib.Core.Path.{◌≡◌, refl, sym, ap, subst, ◌∙◌}
use mathlib.Core.Bool.{true, false}
use mathlib.Core.List.{[], ◌∷◌, tail-eq_of_cons-eq}
use Prim.Native.Nat.{ℕ, zero, suc, ◌+◌, ◌/◌, ◌%◌, ◌≤◌, ◌<◌}
use native.Mathlib.Omega.{arith}
use lib.Dec.{eqb, ltb}
use lib.ListN.{length}
use borrow.Author.Tests.{le-leb, eqb-true}
use Rattle.rules.specs.Bytes.{Bytes, first_from, first, ◌and◌, ◌or◌}
use Rattle.texts.specs.Spelled.{spelled, same}
use Rattle.texts.specs.Spelling.{kind_word, type_word, is_kept, is_digit, is_letter, are_name_bytes, is_name, edition_word}
use Rattle.texts.specs.Numerals.{are_digits, is_natural, size_of, digits_f, decimal}
use Rattle.texts.specs.Printer.{variable_name, branch_name}
use Rattle.texts.proofs.Gives.{false≢true}
use Rattle.texts.proofs.Decimals.{by_test, one_digit, more_digits, decimal_natural, decimal_size}

pub same_eq : (v w : Bytes) → same v w ≡ true → v ≡ w
unfolding same ◌and◌
same_eq [] [] e = refl
same_eq [] (y ∷ ys) e = absurd (false≢true e)
same_eq (x ∷ xs) [] e = absurd (false≢true e)
same_eq (x ∷ xs) (y ∷ ys) e =
    by_test (eqb x y)
    (λ t. let tail : same xs ys ≡ true = rw t at e in ap (λ (b : ℕ). b ∷ xs) (eqb-true x y t) ∙ ap (λ (r : Bytes). y ∷ r) (same_eq xs ys tail))
    (λ t. absurd (false≢true (rw t at e)))

-- Different numbers have different names.
pub names_differ : (m n : ℕ) → m < 1008 → n < 1008 → (m ≡ n → ⊥) → same (variable_name m) (variable_name n) ≡ false
unfolding variable_name
names_differ m n h l d =
    by_test (same (variable_name m) (variable_name n))
    (λ t. absurd (d (sym (decimal_size m (omega arith)) ∙ ap size_of (tail-eq_of_cons-eq (same_eq (variable_name m) (variable_name n) t)) ∙ decimal_size n (omega arith))))
    (λ t. t)

digits_name : (w : Bytes) → are_digits w ≡ true → are_name_bytes w ≡ true
unfolding are_digits are_name_bytes ◌and◌ ◌or◌
digits_name [] e = refl
digits_name (b ∷ bs) e =
    by_test (is_digit b)
    (λ t. by_test (is_letter b)
    (λ l. rw l (digits_name bs (rw t at e)))
    (λ l. rw (l, t) (digits_name bs (rw t at e))))
    (λ t. absurd (false≢true (rw t at e)))

natural_digits₁ : (w : Bytes) → is_natural w ≡ true → are_digits w ≡ true
unfolding is_natural are_digits
natural_digits₁ [] e = refl
natural_digits₁ (b ∷ bs) e = e

digits_length : (f n : ℕ) (after : Bytes) → length (digits_f f n after) ≤ f + length after
unfolding digits_f
digits_length zero n after = omega arith
digits_length (suc f) n after =
    by_test (ltb n 10)
    (λ t. subst (λ (r : Bytes). length r ≤ suc f + length after) (sym (one_digit f n after t)) (omega arith))
    (λ t. subst (λ (r : Bytes). length r ≤ suc f + length after) (sym (more_digits f n after t)) (omega (arith, digits_length f (n / 10) ((48 + n % 10) ∷ after))))

-- No word of the text form begins with an x.
unkept : (ds : Bytes) → is_kept (120 ∷ ds) ≡ false
unfolding is_kept first first_from same kind_word type_word edition_word spelled ◌and◌ ◌or◌
unkept ds = refl

pub variable_is_name : (n : ℕ) → is_name (variable_name n) ≡ true
unfolding variable_name is_name is_letter ◌and◌ ◌or◌ decimal
variable_is_name n =
    rw (digits_name (decimal n) (natural_digits₁ (decimal n) (decimal_natural n)), unkept (decimal n))
    (rw (le-leb (length (120 ∷ decimal n)) 31 (omega (arith, digits_length 10 n []))) refl)

-- The same for branches.
pub branches_differ : (m n : ℕ) → m < 1008 → n < 1008 → (m ≡ n → ⊥) → same (branch_name m) (branch_name n) ≡ false
unfolding branch_name
branches_differ m n h l d =
    by_test (same (branch_name m) (branch_name n))
    (λ t. absurd (d (sym (decimal_size m (omega arith)) ∙ ap size_of (tail-eq_of_cons-eq (same_eq (branch_name m) (branch_name n) t)) ∙ decimal_size n (omega arith))))
    (λ t. t)

unkept₁ : (ds : Bytes) → is_kept (107 ∷ ds) ≡ false
unfolding is_kept first first_from same kind_word type_word edition_word spelled ◌and◌ ◌or◌
unkept₁ ds = refl

pub branch_is_name : (n : ℕ) → is_name (branch_name n) ≡ true
unfolding branch_name is_name is_letter ◌and◌ ◌or◌ decimal
branch_is_name n =
    rw (digits_name (decimal n) (natural_digits₁ (decimal n) (decimal_natural n)), unkept₁ (decimal n))
    (rw (le-leb (length (107 ∷ decimal n)) 31 (omega (arith, digits_length 10 n []))) refl)

-- A variable's name is no branch's.
pub sorts_differ : (m n : ℕ) → (same (variable_name m) (branch_name n) ≡ false) × (same (branch_name m) (variable_name n) ≡ false)
unfolding variable_name branch_name same ◌and◌
sorts_differ m n = (refl, refl)
