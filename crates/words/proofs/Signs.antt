-- Words and the integers they stand for, by the two halves of their range.
-- Assumes nothing.
use Rattle.std.proofs.Common.{◌≡◌, ℕ, suc, ◌-◌, ◌%◌, ◌<◌, ◌≤◌, Bool, true, false, ltb, ◌⊎◌, ℤ, pos, negsuc, nat_abs, sym, refl, ap, ◌∙◌, inl, inr, ⊎_elim, arith, ltb-false, ltb-true, le-ltb, lt-ltb, eq-eqb, ne_eqb}
use lib.Signed.{mag}
use Rattle.rules.specs.Words.{wrap, signed, word_of, floor_z, quotient_of, is_less}
use Rattle.rules.specs.Values.{maybe_of}
use Rattle.rules.specs.declared.Value.TheVariants.{Absent, Present}

pub signed_low : (w : ℕ) → w < 2147483648 → signed w ≡ pos w
unfolding signed
signed_low w h = simp (lt-ltb w 2147483648 h)

pub signed_high : (w : ℕ) → 2147483648 ≤ w → signed w ≡ negsuc (wrap - suc w)
unfolding signed
signed_high w h = simp (le-ltb w 2147483648 h)

pub size_low : (w : ℕ) → w < 2147483648 → nat_abs (signed w) ≡ w
size_low w h = ap nat_abs (signed_low w h)

pub size_high : (w : ℕ) → 2147483648 ≤ w → w < wrap → nat_abs (signed w) ≡ wrap - w
size_high w h k = ap nat_abs (signed_high w h) ∙ omega arith

pub size_small : (w : ℕ) → w < wrap → nat_abs (signed w) ≤ 2147483648
size_small w k = cases w k _ refl
  where
    cases : (w : ℕ) → w < wrap → (b : Bool) → ltb w 2147483648 ≡ b → nat_abs (signed w) ≤ 2147483648
    cases w k true e = let l : w < 2147483648 = ltb-true _ _ e in omega (arith, size_low w l)
    cases w k false e = let l : 2147483648 ≤ w = ltb-false _ _ e in omega (arith, size_high w l k)

pub size_some : (w : ℕ) → w < wrap → (w ≡ 0 → ⊥) → 0 < nat_abs (signed w)
size_some w k n = cases w k n _ refl
  where
    cases : (w : ℕ) → w < wrap → (w ≡ 0 → ⊥) → (b : Bool) → ltb w 2147483648 ≡ b → 0 < nat_abs (signed w)
    cases w k n true e = let l : w < 2147483648 = ltb-true _ _ e in omega (arith, size_low w l)
    cases w k n false e = let l : 2147483648 ≤ w = ltb-false _ _ e in omega (arith, size_high w l k)

-- Less, by the halves.
pub less_low_low : (x y : ℕ) → x < 2147483648 → y < 2147483648 → is_less x y ≡ ltb x y
unfolding is_less
less_low_low x y h k = rw (signed_low x h, signed_low y k)

pub less_low_high : (x y : ℕ) → x < 2147483648 → 2147483648 ≤ y → is_less x y ≡ false
unfolding is_less
less_low_high x y h k = rw (signed_low x h, signed_high y k)

pub less_high_low : (x y : ℕ) → 2147483648 ≤ x → y < 2147483648 → is_less x y ≡ true
unfolding is_less
less_high_low x y h k = rw (signed_high x h, signed_low y k)

ltb_same : (a b a' b' : ℕ) → (a < b → a' < b') → (b ≤ a → b' ≤ a') → ltb a b ≡ ltb a' b'
ltb_same a b a' b' f g = cases _ refl
  where
    cases : (t : Bool) → ltb a b ≡ t → ltb a b ≡ ltb a' b'
    cases true e = e ∙ sym (lt-ltb _ _ (f (ltb-true _ _ e)))
    cases false e = e ∙ sym (le-ltb _ _ (g (ltb-false _ _ e)))

pub less_high_high : (x y : ℕ) → 2147483648 ≤ x → 2147483648 ≤ y → x < wrap → y < wrap → is_less x y ≡ ltb x y
unfolding is_less
less_high_high x y h k m n =
    rw (signed_high x h, signed_high y k) (ltb_same (wrap - suc y) (wrap - suc x) x y (λ l. omega arith) (λ l. omega arith))

-- The quotient, by whether the divisor is zero.
pub quotient_none : (x y : ℕ) → y ≡ 0 → quotient_of x y ≡ Absent 7
unfolding quotient_of maybe_of
quotient_none x y e = simp (eq-eqb y 0 e)

pub quotient_some : (x y : ℕ) → (y ≡ 0 → ⊥) → quotient_of x y ≡ Present 7 (word_of (floor_z (signed x) (signed y)))
unfolding quotient_of maybe_of
quotient_some x y n = simp (ne_eqb y 0 n)

pub halves : (w : ℕ) → (w < 2147483648) ⊎ (2147483648 ≤ w)
halves w = cases _ refl
  where
    cases : (t : Bool) → ltb w 2147483648 ≡ t → (w < 2147483648) ⊎ (2147483648 ≤ w)
    cases true e = inl (ltb-true _ _ e)
    cases false e = inr (ltb-false _ _ e)

pub mag_signed : (w : ℕ) → w < wrap → mag (signed w) < 2147483648
mag_signed w k = ⊎_elim (λ h. rw (signed_low w h) h) (λ h. rw (signed_high w h) (omega arith)) (halves w)

-- A word is that of its integer, and an integer in the range that of its word.
pub word_signed : (w : ℕ) → w < wrap → word_of (signed w) ≡ w
unfolding word_of
word_signed w k = ⊎_elim (λ h. rw (signed_low w h) (omega arith)) (λ h. rw (signed_high w h) (omega arith)) (halves w)

pub signed_word : (z : ℤ) → mag z < 2147483648 → signed (word_of z) ≡ z
unfolding word_of
signed_word (pos n) h = signed_low (n % wrap) (omega arith) ∙ ap pos (omega arith)
signed_word (negsuc n) h = signed_high (wrap - 1 - n % wrap) (omega arith) ∙ ap negsuc (omega arith)
