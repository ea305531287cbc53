-- A number printed and read again is that number.
-- Assumes nothing.
use mathlib.Core.Path.{◌≡◌, refl, ap, ◌∙◌}
use mathlib.Core.Bool.{Bool, true, false}
use mathlib.Core.List.{[], ◌∷◌}
use Prim.Native.Nat.{ℕ, zero, suc, ◌+◌, ◌-◌, ◌*◌, ◌/◌, ◌%◌, ◌≤◌, ◌<◌}
use native.Mathlib.Omega.{arith}
use lib.Dec.{eqb, ltb, leb}
use borrow.Author.Tests.{ltb-true, ltb-false, le-leb, ne_eqb, leb-true}
use Rattle.rules.specs.Bytes.{Bytes, ◌and◌}
use Rattle.texts.specs.Spelling.{is_digit}
use Rattle.texts.specs.Numerals.{are_digits, is_natural, is_negative, magnitude_of, is_number, read_on, size_of, in_range, word_of, digits_f, decimal, signed_decimal}
use Rattle.texts.proofs.Gives.{false≢true}

unfoldable tens : ℕ → ℕ
tens zero = 1
tens (suc f) = 10 * tens f

-- By the two answers of a test.
pub by_test {ℓ} : {A : Type ℓ} (b : Bool) → (b ≡ true → A) → (b ≡ false → A) → A
by_test true yes₀ no₀ = yes₀ refl
by_test false yes₀ no₀ = no₀ refl

pub digit : (n : ℕ) → n < 10 → is_digit (48 + n) ≡ true
unfolding is_digit ◌and◌
digit n h = rw (le-leb 48 (48 + n) (omega arith)) (le-leb (48 + n) 57 (omega arith))

-- One digit, and more.
pub one_digit : (f n : ℕ) (after : Bytes) → ltb n 10 ≡ true → digits_f (suc f) n after ≡ (48 + n) ∷ after
unfolding digits_f
one_digit f n after e = ap {B = Bytes} (λ (b : Bool). elim b [ true ↦ (48 + n) ∷ after | false ↦ digits_f f (n / 10) ((48 + n % 10) ∷ after) ]) e

pub more_digits : (f n : ℕ) (after : Bytes) → ltb n 10 ≡ false → digits_f (suc f) n after ≡ digits_f f (n / 10) ((48 + n % 10) ∷ after)
unfolding digits_f
more_digits f n after e = ap {B = Bytes} (λ (b : Bool). elim b [ true ↦ (48 + n) ∷ after | false ↦ digits_f f (n / 10) ((48 + n % 10) ∷ after) ]) e

read_digits : (f n : ℕ) (after : Bytes) → n < tens f → read_on 0 (digits_f f n after) ≡ read_on n after
unfolding tens digits_f read_on
read_digits zero n after h = ap (λ (x : ℕ). read_on x after) (omega arith)
read_digits (suc f) n after h =
    by_test (ltb n 10)
    (λ e. ap (read_on 0) (one_digit f n after e) ∙ ap (λ (x : ℕ). read_on x after) (omega arith))
    (λ e. ap (read_on 0) (more_digits f n after e) ∙ read_digits f (n / 10) ((48 + n % 10) ∷ after) (omega arith) ∙ ap (λ (x : ℕ). read_on x after) (omega arith))

natural_digits : (f n b : ℕ) (bs : Bytes) → are_digits (b ∷ bs) ≡ true → is_natural (digits_f f n (b ∷ bs)) ≡ true
unfolding digits_f is_natural are_digits ◌and◌
natural_digits zero n b bs e = e
natural_digits (suc f) n b bs e =
    by_test (ltb n 10)
    (λ t. ap is_natural (one_digit f n (b ∷ bs) t) ∙ rw (digit n (ltb-true n 10 t)) e)
    (λ t. ap is_natural (more_digits f n (b ∷ bs) t) ∙ natural_digits f (n / 10) (48 + n % 10) (b ∷ bs) (rw (digit (n % 10) (omega arith)) e))

pub decimal_natural : (n : ℕ) → is_natural (decimal n) ≡ true
unfolding decimal is_natural are_digits ◌and◌
decimal_natural n =
    by_test (ltb n 10)
    (λ t. ap is_natural (one_digit 9 n [] t) ∙ rw (digit n (ltb-true n 10 t)) refl)
    (λ t. ap is_natural (more_digits 9 n [] t) ∙ natural_digits 9 (n / 10) (48 + n % 10) [] (rw (digit (n % 10) (omega arith)) refl))

-- Digits have no sign.
natural_plain : (w : Bytes) → is_natural w ≡ true → (is_negative w ≡ false) × (magnitude_of w ≡ w)
unfolding is_natural are_digits is_negative magnitude_of is_digit ◌and◌
natural_plain [] e = absurd (false≢true e)
natural_plain (b ∷ bs) e =
    by_test (leb 48 b)
    (λ t. let ne : eqb b 45 ≡ false = ne_eqb b 45 (λ q. absurd_lt b q (leb-true 48 b t)) in (ne, rw ne refl))
    (λ t. absurd (false≢true (rw t at e)))
  where
    absurd_lt : (b : ℕ) → b ≡ 45 → 48 ≤ b → ⊥
    absurd_lt b q h = omega arith

pub decimal_size : (n : ℕ) → n < 10000000000 → size_of (decimal n) ≡ n
unfolding size_of decimal tens read_on
decimal_size n h = ap (read_on 0) (natural_plain (decimal n) (decimal_natural n)).1 ∙ read_digits 10 n [] h

-- A word as a signed decimal.
pub record Numeral (w : ℕ) (v : Bytes) : Type 0 where
  pub number : is_number v ≡ true
  pub range : in_range v ≡ true
  pub word : word_of v ≡ w

pub at_least : (w : ℕ) → w < 2147483648 → Numeral w (decimal w)
unfolding is_number in_range word_of
at_least w h =
    let p = natural_plain (decimal w) (decimal_natural w) in
    let size : size_of (decimal w) ≡ w = decimal_size w (omega arith) in
    record {
      number = ap is_natural p.1 ∙ decimal_natural w;
      range = rw (p.0, size) (le-leb w 2147483647 (omega arith));
      word = rw p.0 size;
    }

below_zero : (w : ℕ) → 2147483648 ≤ w → w < 4294967296 → Numeral w (45 ∷ decimal (4294967296 - w))
unfolding is_number in_range word_of size_of is_negative magnitude_of tens decimal read_on
below_zero w h l =
    let size : size_of (45 ∷ decimal (4294967296 - w)) ≡ 4294967296 - w = read_digits 10 (4294967296 - w) [] (omega arith) in
    record {
      number = decimal_natural (4294967296 - w);
      range = ap (λ (x : ℕ). leb x 2147483648) size ∙ le-leb (4294967296 - w) 2147483648 (omega arith);
      word = ap (λ (x : ℕ). (4294967296 - x) % 4294967296) size ∙ omega arith;
    }

pub numeral : (w : ℕ) → w < 4294967296 → Numeral w (signed_decimal w)
unfolding signed_decimal
numeral w h =
    by_test (ltb w 2147483648)
    (λ t. rw (t, signed_decimal) (at_least w (ltb-true w 2147483648 t)))
    (λ t. rw (t, signed_decimal) (below_zero w (ltb-false w 2147483648 t) h))
