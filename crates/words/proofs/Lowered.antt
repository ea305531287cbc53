-- The quotient rounded toward zero, with its remainder, and the one rounded toward minus infinity: the same, or one less.
-- Assumes nothing.
use Rattle.std.specs.Prelude.{if◌then◌else◌}
use Rattle.std.proofs.Common.{◌≡◌, ℕ, zero, suc, ◌+◌, ◌-◌, ◌*◌, ◌/◌, ◌%◌, ◌<◌, Bool, true, false, ltb, ℤ, pos, negsuc, ◌-ℤ◌, neg_ℤ, nat_abs, sym, refl, ap, ◌∙◌, true≢false, mod-lt, div-add-mod', zero-mul, arith, ltb-false, ltb-true, le-ltb, lt-ltb}
use native.Mathlib.Nat.{zero-div, zero-mod}
use lib.Signed.{quot_z, rem_z, lt_z}
use Rattle.rules.specs.Words.{floor_z}
use Rattle.words.proofs.Floor.{part, part_before}

-- One more than a number: the next part where nothing remains of it, the same part where something does.
next_part : (a b : ℕ) → 0 < b → suc a % b ≡ 0 → suc a / b ≡ suc (a / b)
next_part a b h e = cases (suc a / b) refl
  where
    cases : (q : ℕ) → suc a / b ≡ q → q ≡ suc (a / b)
    cases zero f =
        let g : suc a / b * b ≡ 0 = rw f (zero-mul b) in
        absurd (omega (arith, div-add-mod' (suc a) b))
    cases (suc q) f =
        let g : suc a / b * b ≡ suc q * b = ap (λ (n : ℕ). n * b) f in
        ap suc (sym (part_before q b 0 a h (omega (arith, div-add-mod' (suc a) b))))

same_part : (a b : ℕ) → 0 < b → 0 < suc a % b → suc a / b ≡ a / b
same_part a b h e =
    let q = suc a / b in
    let f : a ≡ q * b + (suc a % b - 1) = omega (arith, div-add-mod' (suc a) b) in
    sym (ap (λ (n : ℕ). n / b) f ∙ part q b (suc a % b - 1) (omega (arith, mod-lt (suc a) h)))

minus_one : (n : ℕ) → neg_ℤ (pos n) -ℤ pos 1 ≡ negsuc n
minus_one zero = refl
minus_one (suc n) = ap negsuc (omega arith)

-- Minus the parts of a number one larger, one less where something remains.
lowered : (a b : ℕ) → 0 < b → (t : Bool) → ltb 0 (suc a % b) ≡ t
    → (if t then neg_ℤ (pos (suc a / b)) -ℤ pos 1 else neg_ℤ (pos (suc a / b))) ≡ negsuc (a / b)
lowered a b h true e = minus_one (suc a / b) ∙ ap negsuc (same_part a b h (ltb-true _ _ e))
lowered a b h false e = ap (λ (n : ℕ). neg_ℤ (pos n)) (next_part a b h (omega (arith, ltb-false 0 (suc a % b) e)))

minus_below : (m : ℕ) → lt_z (neg_ℤ (pos m)) (pos 0) ≡ ltb 0 m
minus_below zero = refl
minus_below (suc m) = sym (lt-ltb 0 (suc m) (omega arith))

minus_above : (m : ℕ) → lt_z (pos 0) (neg_ℤ (pos m)) ≡ false
minus_above zero = refl
minus_above (suc m) = refl

-- By a divisor above zero a remainder below zero takes the quotient one down.
pub above : (a b : ℤ) (t : Bool) → lt_z (pos 0) b ≡ true → lt_z (rem_z a b) (pos 0) ≡ t
    → (if t then quot_z a b -ℤ pos 1 else quot_z a b) ≡ floor_z a b
unfolding floor_z
above (pos a) (pos b) true h e = absurd (true≢false (sym e ∙ le-ltb (a % b) 0 (omega arith)))
above (pos a) (pos b) false h e = refl
above (negsuc a) (pos b) t h e = lowered a b (ltb-true 0 b h) t (sym (minus_below (suc a % b)) ∙ e)
above a (negsuc b) t h e = absurd (true≢false (sym h))

-- By a divisor below zero a remainder above zero does.
pub below : (a b : ℤ) (t : Bool) → lt_z (pos 0) b ≡ false → 0 < nat_abs b → lt_z (pos 0) (rem_z a b) ≡ t
    → (if t then quot_z a b -ℤ pos 1 else quot_z a b) ≡ floor_z a b
unfolding floor_z
below a (pos b) t h n e = absurd (true≢false (sym (lt-ltb 0 b n) ∙ h))
below (pos zero) (negsuc b) true h n e = absurd (true≢false (sym e ∙ ap (ltb 0) (zero-mod (suc b))))
below (pos zero) (negsuc b) false h n e = ap (λ (m : ℕ). neg_ℤ (pos m)) (zero-div (suc b))
below (pos (suc a)) (negsuc b) t h n e = lowered a (suc b) n t e
below (negsuc a) (negsuc b) true h n e = absurd (true≢false (sym e ∙ minus_above (suc a % suc b)))
below (negsuc a) (negsuc b) false h n e = refl
