-- Digits one by one.
-- Assumes nothing.
use mathlib.Core.Path.{◌≡◌, refl, sym, ap, ◌∙◌}
use mathlib.Core.Bool.{Bool, true, false}
use mathlib.Core.List.{[], ◌∷◌, ◌++◌}
use Prim.Native.Nat.{ℕ, zero, suc, ◌+◌, ◌-◌, ◌/◌, ◌%◌, ◌≤◌, ◌<◌}
use native.Mathlib.Omega.{arith}
use lib.Dec.{ltb}
use borrow.Author.Tests.{lt-ltb, le-ltb}
use Rattle.rules.specs.Bytes.{Bytes}
use Rattle.texts.specs.Numerals.{digits_f, decimal, signed_decimal}
use Rattle.texts.proofs.Decimals.{by_test, one_digit, more_digits}
use Rattle.letters.specs.declared.Sheet.{Sheet}
use Rattle.letters.specs.Puts.{Puts}
use Rattle.letters.proofs.PutsLaws.{puts_none, puts_as, puts_then}

pub digits_before : (f n : ℕ) (after : Bytes) → digits_f f n after ≡ digits_f f n [] ++ after
unfolding digits_f
digits_before zero n after = refl
digits_before (suc f) n after =
    by_test (ltb n 10)
    (λ e. one_digit f n after e ∙ sym (ap (λ (l : Bytes). l ++ after) (one_digit f n [] e)))
    (λ e. more_digits f n after e ∙ digits_before f (n / 10) ((48 + n % 10) ∷ after)
    ∙ sym (ap (λ (l : Bytes). l ++ after) (more_digits f n [] e ∙ digits_before f (n / 10) ((48 + n % 10) ∷ []))
    ∙ mathlib.Core.List.append_assoc (digits_f f (n / 10) []) ((48 + n % 10) ∷ []) after))

pub last_digit : (most n : ℕ) → 1 ≤ most → n < 10 → (48 + n) ∷ [] ≡ digits_f most n []
unfolding digits_f
last_digit zero n h l = absurd (omega arith)
last_digit (suc f) n h l = sym (one_digit f n [] (lt-ltb n 10 l))

pub next_digit : (most n : ℕ) → 1 ≤ most → 10 ≤ n → digits_f (most - 1) (n / 10) [] ++ (48 + n % 10) ∷ [] ≡ digits_f most n []
next_digit zero n h l = absurd (omega arith)
next_digit (suc f) n h l =
    ap (λ (k : ℕ). digits_f k (n / 10) [] ++ (48 + n % 10) ∷ []) (let z : suc f - 1 ≡ f = omega arith in z)
    ∙ sym (more_digits f n [] (le-ltb n 10 l) ∙ digits_before f (n / 10) ((48 + n % 10) ∷ []))

module _ {s : Sheet} (most n : ℕ) where
  pub digits_none : most ≡ 0 → Puts s (digits_f most n []) s
  unfolding digits_f
  digits_none e = puts_as (sym (ap (λ (k : ℕ). digits_f k n []) e)) (puts_none s)

  pub digits_last : {s' : Sheet} {d : ℕ} → 1 ≤ most → n < 10 → d ≡ 48 + n → Puts s (d ∷ []) s' → Puts s (digits_f most n []) s'
  digits_last h l e w = puts_as (ap (λ (x : ℕ). x ∷ []) e ∙ last_digit most n h l) w

  pub digits_next : {s₁ s₂ : Sheet} {d : ℕ} → 1 ≤ most → 10 ≤ n → Puts s (digits_f (most - 1) (n / 10) []) s₁ → d ≡ 48 + n % 10 → Puts s₁ (d ∷ []) s₂
      → Puts s (digits_f most n []) s₂
  digits_next h l w e v = puts_as (ap (λ (x : ℕ). digits_f (most - 1) (n / 10) [] ++ x ∷ []) e ∙ next_digit most n h l) (puts_then w v)

-- An integer by its word.
module _ {s s' : Sheet} (w : ℕ) where
  pub not_negative : w < 2147483648 → Puts s (digits_f 10 w []) s' → Puts s (signed_decimal w) s'
  unfolding signed_decimal decimal
  not_negative h v = puts_as (sym (ap {B = Bytes} (λ (b : Bool). elim b [ true ↦ decimal w | false ↦ 45 ∷ decimal (4294967296 - w) ]) (lt-ltb w 2147483648 h))) v

  pub negative : 2147483648 ≤ w → Puts s (45 ∷ digits_f 10 (4294967296 - w) []) s' → Puts s (signed_decimal w) s'
  unfolding signed_decimal decimal
  negative h v = puts_as (sym (ap {B = Bytes} (λ (b : Bool). elim b [ true ↦ decimal w | false ↦ 45 ∷ decimal (4294967296 - w) ]) (le-ltb w 2147483648 h))) v
