-- Digits, read up to a cap.
-- Assumes nothing.
use mathlib.Core.Path.{◌≡◌, refl, sym, ap, ◌∙◌}
use mathlib.Core.Bool.{Bool, true, false}
use mathlib.Core.List.{[], ◌∷◌}
use Prim.Native.Nat.{ℕ, ◌+◌, ◌-◌, ◌*◌, ◌≤◌, ◌<◌}
use native.Mathlib.Omega.{arith}
use lib.Dec.{leb}
use lib.ListN.{length, get_or, drop, drop_of_length-le, take}
use Rattle.std.proofs.lemmas.List.{take_all}
use lib.Seq.{drop-cons}
use native.Mathlib.Numerals.{add-one}
use borrow.Author.Tests.{le-leb, lt-leb, leb-true, leb-false, eq-eqb, ne_eqb}
use Rattle.texts.proofs.Gives.{false≢true}
use Rattle.rules.specs.Bytes.{Bytes, ◌and◌}
use Rattle.texts.specs.Spelling.{is_digit}
use Rattle.texts.specs.Numerals.{are_digits, is_natural, is_negative, magnitude_of, is_number, read_on, size_of, in_range, word_of}
use Rattle.std.specs.Prelude.{Err}
use Rattle.spell.specs.declared.NumberFault.TheVariants.{Other}
use Rattle.spell.specs.Vocabulary.{capped, number_of, digits_in, number_in}

-- Reading on makes no number smaller.
pub read_grows : (x : ℕ) (w : Bytes) → x ≤ read_on x w
unfolding read_on
read_grows x [] = omega arith
read_grows x (b ∷ bs) = omega (arith, read_grows (10 * x + (b - 48)) bs)

pub capped_small : (n : ℕ) → n ≤ 2147483648 → capped n ≡ n
unfolding capped
capped_small n h = rw (le-leb n 2147483648 h) refl

pub capped_large : (n : ℕ) → 2147483648 < n → capped n ≡ 2147483649
unfolding capped
capped_large n h = rw (lt-leb n 2147483648 h) refl

-- A digit is one of 48 to 57.
pub and_left : (a b : Bool) → (a and b) ≡ true → a ≡ true
unfolding ◌and◌
and_left true b e = refl
and_left false b e = e

pub and_right : (a b : Bool) → (a and b) ≡ true → b ≡ true
unfolding ◌and◌
and_right true b e = e
and_right false b e = absurd (false≢true e)

pub digit_least : (b : ℕ) → is_digit b ≡ true → 48 ≤ b
unfolding is_digit
digit_least b e = leb-true 48 b (and_left (leb 48 b) (leb b 57) e)

pub digit_most : (b : ℕ) → is_digit b ≡ true → b ≤ 57
unfolding is_digit
digit_most b e = leb-true b 57 (and_right (leb 48 b) (leb b 57) e)

-- Digits from a position on: the first of them, and what they come to.
module _ (w : Bytes) (i : ℕ) where
  ahead : i < length w → drop i w ≡ get_or w i 0 ∷ drop (i + 1) w
  ahead h = drop-cons w i 0 h ∙ ap (λ (k : ℕ). get_or w i 0 ∷ drop k w) (sym (add-one i))

  pub first_digit : i < length w → are_digits (drop i w) ≡ true → is_digit (get_or w i 0) ≡ true
  unfolding are_digits
  first_digit h d = and_left _ _ (ap are_digits (sym (ahead h)) ∙ d)

  pub later_digits : i < length w → are_digits (drop i w) ≡ true → are_digits (drop (i + 1) w) ≡ true
  unfolding are_digits
  later_digits h d = and_right _ _ (ap are_digits (sym (ahead h)) ∙ d)

  pub read_next : i < length w → (x : ℕ) → read_on x (drop i w) ≡ read_on (10 * x + (get_or w i 0 - 48)) (drop (i + 1) w)
  unfolding read_on
  read_next h x = ap (read_on x) (ahead h)

  pub read_done : length w ≤ i → (x : ℕ) → read_on x (drop i w) ≡ x
  unfolding read_on
  read_done h x = ap (read_on x) (drop_of_length-le w h)

-- A capped size gives the same number.
pub capped_same : (negative : Bool) (n : ℕ) → number_of negative (capped n) ≡ number_of negative n
unfolding number_of
capped_same negative n = go (leb n 2147483648) refl
  where
    over : (b : Bool) → 2147483648 < n → number_of b 2147483649 ≡ number_of b n
    over true q = rw (lt-leb n 2147483648 q) refl
    over false q = rw (lt-leb n 2147483647 (omega arith)) refl

    go : (x : Bool) → leb n 2147483648 ≡ x → number_of negative (capped n) ≡ number_of negative n
    go true q = ap (number_of negative) (capped_small n (leb-true n 2147483648 q))
    go false q = ap (number_of negative) (capped_large n (leb-false n 2147483648 q)) ∙ over negative (leb-false n 2147483648 q)

-- Digits, one or more.
pub natural_digits : (w : Bytes) → is_natural w ≡ true → are_digits w ≡ true
unfolding is_natural
natural_digits [] e = absurd (false≢true e)
natural_digits (b ∷ w) e = e

pub natural_none : (w : Bytes) → length w ≤ 0 → is_natural w ≡ false
unfolding is_natural
natural_none [] h = refl
natural_none (b ∷ w) h = absurd (omega arith)

pub natural_some : (w : Bytes) → 0 < length w → is_natural w ≡ are_digits w
unfolding is_natural
natural_some [] h = absurd (omega arith)
natural_some (b ∷ w) h = refl

-- A word as a number: a sign or none, and digits.
number_parts : (w : Bytes) → number_in w ≡ digits_in (is_negative w) (magnitude_of w)
unfolding number_in is_number digits_in number_of in_range word_of size_of
number_parts w = refl

pub number_minus : (w : Bytes) → 0 < length w → get_or w 0 0 ≡ 45 → number_in w ≡ digits_in true (take (length w - 1) (drop 1 w))
unfolding is_negative magnitude_of
number_minus [] h d = absurd (omega arith)
number_minus (b ∷ w) h d = number_parts (b ∷ w) ∙ rw (eq-eqb b 45 d) (ap (digits_in true) (sym (take_all _ w (omega arith))))

pub number_plain : (w : Bytes) → 0 < length w → (get_or w 0 0 ≡ 45 → ⊥) → number_in w ≡ digits_in false w
unfolding is_negative magnitude_of
number_plain [] h d = absurd (omega arith)
number_plain (b ∷ w) h d = number_parts (b ∷ w) ∙ rw (ne_eqb b 45 d) refl

pub no_number : (w : Bytes) → length w ≤ 0 → number_in w ≡ Err Other
unfolding number_in is_number is_natural magnitude_of
no_number [] h = refl
no_number (b ∷ w) h = absurd (omega arith)
