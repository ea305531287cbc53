-- When a sum, a difference or a product of the integers of two words leaves the 32-bit range, by the sides of zero on which they stand.
-- Assumes nothing.
use Rattle.std.proofs.Common.{◌≡◌, ℕ, zero, suc, ◌+◌, ◌-◌, ◌*◌, ◌/◌, ◌%◌, ◌<◌, ◌≤◌, Bool, true, false, not, ◌&&◌, eqb, ltb, leb, ◌⊎◌, ℤ, pos, negsuc, ◌+ℤ◌, ◌-ℤ◌, ◌*ℤ◌, nat_abs, sym, refl, ◌∙◌, inl, inr, ⊎_elim, true≢false, mul-le-mul, div-le_self, arith, w64, SFits, to_z, of_z, ltb-false, ltb-true, le-ltb, lt-ltb, eq-eqb, ne_eqb, eqb-true, le-leb, leb-false, leb-true}
use native.Mathlib.Nat.{div-le_of_le-mul}
use lib.IntN.{sub_ℕ}
use lib.Signed.{lt_z, mag}
use borrow.Author.Tests.{lt-leb, eqb-false}
use Rattle.rules.specs.Bytes.{◌and◌}
use Rattle.rules.specs.Words.{wrap, signed, outside, sum_of, difference_of, product_of, floor_z}
use Rattle.rules.specs.Operations.{number_of, exact_of, leaves_range}
use Rattle.words.specs.Leaving.{astride_of, LeavingLaw}
use Rattle.words.proofs.Signs.{signed_low, signed_high, size_low, size_high, size_small, halves}
use Rattle.words.proofs.Floor.{size_minus}
use Rattle.words.proofs.Wide.{fits_below, floor_small, read_back, signed_small}

-- Two tests that hold together.
pub same_test : (a b c d : ℕ) → (a < b → c < d) → (b ≤ a → d ≤ c) → ltb a b ≡ ltb c d
same_test a b c d f g = go _ refl
  where
    go : (t : Bool) → ltb a b ≡ t → ltb a b ≡ ltb c d
    go true e = e ∙ sym (lt-ltb _ _ (f (ltb-true _ _ e)))
    go false e = e ∙ sym (le-ltb _ _ (g (ltb-false _ _ e)))

same_leb : (a b c d : ℕ) → (a ≤ b → c < d) → (b < a → d ≤ c) → leb a b ≡ ltb c d
same_leb a b c d f g = go _ refl
  where
    go : (t : Bool) → leb a b ≡ t → leb a b ≡ ltb c d
    go true e = e ∙ sym (lt-ltb _ _ (f (leb-true _ _ e)))
    go false e = e ∙ sym (le-ltb _ _ (g (leb-false _ _ e)))

-- Two numbers are equal or not.
either : (a b : ℕ) → (a ≡ b) ⊎ (a ≡ b → ⊥)
either a b = go _ refl
  where
    go : (t : Bool) → eqb a b ≡ t → (a ≡ b) ⊎ (a ≡ b → ⊥)
    go true e = inl (eqb-true _ _ e)
    go false e = inr (eqb-false _ _ e)

-- Nothing holds together with what does not.
and_none : (a b : Bool) → b ≡ false → (a and b) ≡ false
unfolding ◌and◌
and_none true b e = e
and_none false b e = refl

-- The size of a word's integer, but for the lowest.
size_not_lowest : (x : ℕ) → x < wrap → (x ≡ 2147483648 → ⊥) → nat_abs (signed x) ≤ 2147483647
size_not_lowest x m e =
    ⊎_elim (λ h. omega (arith, size_low x h)) (λ h. let l : 2147483649 ≤ x = above x h e in omega (arith, size_high x h m)) (halves x)
  where
    above : (x : ℕ) → 2147483648 ≤ x → (x ≡ 2147483648 → ⊥) → 2147483649 ≤ x
    above x h e = go _ refl
      where
        go : (t : Bool) → ltb 2147483648 x ≡ t → 2147483649 ≤ x
        go true f = ltb-true _ _ f
        go false f = absurd (e (let l : x ≤ 2147483648 = ltb-false _ _ f in omega arith))

-- An integer of the range is not outside it.
inside : (z : ℤ) → nat_abs z ≤ 2147483647 → outside z ≡ false
unfolding outside
inside (pos n) h = le-ltb 2147483647 n (omega arith)
inside (negsuc n) h = le-ltb 2147483647 n (omega arith)

-- A difference of two numbers that are in range is in range.
outside_sub : (a b : ℕ) → a ≤ b + 2147483647 → b ≤ a + 2147483648 → outside (sub_ℕ a b) ≡ false
unfolding outside
outside_sub a b h g = go _ refl
  where
    go : (t : Bool) → ltb a b ≡ t → outside (sub_ℕ a b) ≡ false
    go true e = let l : a < b = ltb-true _ _ e in rw e (le-ltb 2147483647 (b - suc a) (omega arith))
    go false e = let l : b ≤ a = ltb-false _ _ e in rw e (le-ltb 2147483647 (a - b) (omega arith))

-- On which sides of zero two words stand.
pub low_low : (x y : ℕ) → x < 2147483648 → astride_of x y ≡ leb 2147483648 y
unfolding astride_of
low_low x y h = rw (lt-ltb x 2147483648 h)

pub high_low : (x y : ℕ) → 2147483648 ≤ x → astride_of x y ≡ ltb y 2147483648
unfolding astride_of
high_low x y h = rw (le-ltb x 2147483648 h)

-- Sums: both stand on one side of zero, and the wrapped sum on the other.
pub sum_leaves : (x y : ℕ) → x < wrap → y < wrap → (not (astride_of x y) && astride_of x (sum_of x y)) ≡ outside (signed x +ℤ signed y)
unfolding outside sum_of
sum_leaves x y m n =
    ⊎_elim
    (λ h. ⊎_elim
    (λ g. rw (low_low x y h, low_low x ((x + y) % wrap) h, lt-leb 2147483648 y g, signed_low x h, signed_low y g)
    (same_leb 2147483648 ((x + y) % wrap) 2147483647 (x + y) (λ k. omega arith) (λ k. omega arith)))
    (λ g. rw (low_low x y h, le-leb 2147483648 y g, signed_low x h, signed_high y g) (sym (outside_sub x (suc (wrap - suc y)) (omega arith) (omega arith))))
    (halves y))
    (λ h. ⊎_elim
    (λ g. rw (high_low x y h, lt-ltb y 2147483648 g, signed_high x h, signed_low y g) (sym (outside_sub y (suc (wrap - suc x)) (omega arith) (omega arith))))
    (λ g. rw (high_low x y h, high_low x ((x + y) % wrap) h, le-ltb y 2147483648 g, signed_high x h, signed_high y g)
    (same_test ((x + y) % wrap) 2147483648 2147483647 (suc ((wrap - suc x) + (wrap - suc y))) (λ k. omega arith) (λ k. omega arith)))
    (halves y))
    (halves x)

-- A number less a number.
minus_low : (x y : ℕ) → x ≤ 2147483647 → y ≤ 2147483647 → outside (pos x -ℤ pos y) ≡ false
unfolding outside
minus_low x zero h g = le-ltb 2147483647 (x + 0) (omega arith)
minus_low x (suc k) h g = outside_sub x (suc k) (omega arith) (omega arith)

minus_high : (a y : ℕ) → a ≤ 2147483647 → outside (negsuc a -ℤ pos y) ≡ ltb 2147483647 (a + y)
unfolding outside
minus_high a zero h = outside_sub 0 (suc a) (omega arith) (omega arith) ∙ sym (le-ltb 2147483647 (a + 0) (omega arith))
minus_high a (suc k) h = same_test 2147483647 (suc (a + k)) 2147483647 (a + suc k) (λ z. omega arith) (λ z. omega arith)

-- Differences: they stand on two sides of zero, and the wrapped difference on the second's.
pub difference_leaves : (x y : ℕ) → x < wrap → y < wrap → (astride_of x y && astride_of x (difference_of x y)) ≡ outside (signed x -ℤ signed y)
unfolding outside difference_of
difference_leaves x y m n =
    let s : ℕ = (x + (wrap - y)) % wrap in
    ⊎_elim
    (λ h. ⊎_elim
    (λ g. rw (low_low x y h, lt-leb 2147483648 y g, signed_low x h, signed_low y g) (sym (minus_low x y (omega arith) (omega arith))))
    (λ g. rw (low_low x y h, low_low x s h, le-leb 2147483648 y g, signed_low x h, signed_high y g)
    (same_leb 2147483648 s 2147483647 (x + suc (wrap - suc y)) (λ k. omega arith) (λ k. omega arith)))
    (halves y))
    (λ h. ⊎_elim
    (λ g. rw (high_low x y h, high_low x s h, lt-ltb y 2147483648 g, signed_high x h, signed_low y g)
    (same_test s 2147483648 2147483647 ((wrap - suc x) + y) (λ k. omega arith) (λ k. omega arith) ∙ sym (minus_high (wrap - suc x) y (omega arith))))
    (λ g. rw (high_low x y h, le-ltb y 2147483648 g, signed_high x h, signed_high y g)
    (sym (outside_sub (suc (wrap - suc y)) (suc (wrap - suc x)) (omega arith) (omega arith))))
    (halves y))
    (halves x)

-- Products of two words' integers fit 64 bits.
size_product : (a b : ℤ) → nat_abs (a *ℤ b) ≡ nat_abs a * nat_abs b
size_product (pos a) (pos b) = refl
size_product (pos a) (negsuc b) = size_minus (a * suc b)
size_product (negsuc a) (pos b) = size_minus (suc a * b)
size_product (negsuc a) (negsuc b) = refl

pub product_fits : (a b : ℤ) → nat_abs a ≤ 2147483648 → nat_abs b ≤ 2147483648 → SFits w64 (a *ℤ b)
product_fits a b h g =
    fits_below (a *ℤ b)
    (omega (arith, size_product a b, mul-le-mul {n₁ = nat_abs a} {m₁ = nat_abs b} {n₂ = 2147483648} {m₂ = 2147483648} h g))

-- The test of an integer, below zero and not.
pub outside_low : (z : ℤ) → lt_z z (pos 0) ≡ true → lt_z z (negsuc 2147483647) ≡ outside z
unfolding outside
outside_low (pos n) e = absurd (let l : n < 0 = ltb-true n 0 e in omega arith)
outside_low (negsuc n) e = refl

pub outside_high : (z : ℤ) → lt_z z (pos 0) ≡ false → lt_z (pos 2147483647) z ≡ outside z
unfolding outside
outside_high (pos n) e = refl
outside_high (negsuc n) e = absurd (true≢false e)

-- Of quotients, -2147483648 by -1 leaves the range; the others do not.
lowest_by : (y : ℕ) → y < wrap → eqb y 4294967295 ≡ (not (eqb y 0) and outside (floor_z (negsuc 2147483647) (signed y)))
unfolding outside floor_z ◌and◌ signed
lowest_by y n =
    ⊎_elim
    (λ g. low y g)
    (λ g. ⊎_elim {A = y ≡ 4294967295} {B = y ≡ 4294967295 → ⊥} (λ e. rw e refl) (λ e. high y g n e) (either y 4294967295))
    (halves y)
  where
    low : (y : ℕ) → y < 2147483648 → eqb y 4294967295 ≡ (not (eqb y 0) and outside (floor_z (negsuc 2147483647) (signed y)))
    low y g =
        rw (ne_eqb y 4294967295 (λ e. omega arith), signed_low y g)
        (sym (and_none (not (eqb y 0)) _ (le-ltb 2147483647 (2147483647 / y) (div-le_self 2147483647 y))))

    high : (y : ℕ) → 2147483648 ≤ y → y < wrap → (y ≡ 4294967295 → ⊥) → eqb y 4294967295 ≡ (not (eqb y 0) and outside (floor_z (negsuc 2147483647) (signed y)))
    high y g n e =
        rw (ne_eqb y 4294967295 e, signed_high y g)
        (sym (and_none (not (eqb y 0)) _ (le-ltb 2147483647 (2147483648 / suc (wrap - suc y)) (div-le_of_le-mul (suc (wrap - suc y)) (omega arith)))))

pub quotient_leaves : (x y : ℕ) → y < wrap → x ≡ 2147483648 → eqb y 4294967295 ≡ leaves_range 21 x y
unfolding leaves_range exact_of ◌and◌ signed
quotient_leaves x y n e = rw e (lowest_by y n)

pub quotient_stays : (x y : ℕ) → x < wrap → (x ≡ 2147483648 → ⊥) → false ≡ leaves_range 21 x y
unfolding leaves_range exact_of ◌and◌
quotient_stays x y m e =
    sym (and_none (not (eqb y 0)) _ (inside (floor_z (signed x) (signed y)) (omega (arith, floor_small (signed x) (signed y), size_not_lowest x m e))))

-- What the code of a sum and of a difference leaves: s is the wrapped result, a and b say on which sides of zero the operands, and the first and s, stand.
pub sum_made : (x y : ℕ) {s : ℕ} {a b : Bool} → x < wrap → y < wrap → s ≡ sum_of x y → a ≡ astride_of x y → b ≡ astride_of x s
    → (s ≡ sum_of x y) × ((not a && b) ≡ outside (signed x +ℤ signed y))
sum_made x y m n e f g = (e, rw (f, g, e) (sum_leaves x y m n))

pub difference_made : (x y : ℕ) {s : ℕ} {a b : Bool} → x < wrap → y < wrap → s ≡ difference_of x y → a ≡ astride_of x y → b ≡ astride_of x s
    → (s ≡ difference_of x y) × ((a && b) ≡ outside (signed x -ℤ signed y))
difference_made x y m n e f g = (e, rw (f, g, e) (difference_leaves x y m n))

-- Two words' integers, as they are read back, and their product.
pub product_back : (x y : ℕ) {a b : ℤ} → x < wrap → y < wrap → a ≡ signed x → b ≡ signed y
    → to_z w64 (of_z w64 a) *ℤ to_z w64 (of_z w64 b) ≡ signed x *ℤ signed y
product_back x y m n e f =
    rw (e, f) (λ i. read_back (signed x) (signed_small x m) i *ℤ read_back (signed y) (signed_small y n) i)

pub word_product_fits : (x y : ℕ) → x < wrap → y < wrap → SFits w64 (signed x *ℤ signed y)
word_product_fits x y m n = product_fits (signed x) (signed y) (size_small x m) (size_small y n)

-- A word and a mark of a sum, a difference or a product are those of its kind.
pub as_sum : (k x y : ℕ) {w : ℕ} {l : Bool} → k ≡ 18 → (w ≡ sum_of x y) × (l ≡ outside (signed x +ℤ signed y))
    → (w ≡ number_of k x y) × (l ≡ leaves_range k x y)
unfolding number_of leaves_range exact_of ◌and◌
as_sum k x y e p = rw e p

pub as_difference : (k x y : ℕ) {w : ℕ} {l : Bool} → k ≡ 19 → (w ≡ difference_of x y) × (l ≡ outside (signed x -ℤ signed y))
    → (w ≡ number_of k x y) × (l ≡ leaves_range k x y)
unfolding number_of leaves_range exact_of ◌and◌
as_difference k x y e p = rw e p

pub as_product : (k x y : ℕ) {w : ℕ} {l : Bool} → k ≤ 20 → (k ≡ 18 → ⊥) → (k ≡ 19 → ⊥) → (w ≡ product_of x y) × (l ≡ outside (signed x *ℤ signed y))
    → (w ≡ number_of k x y) × (l ≡ leaves_range k x y)
unfolding number_of leaves_range exact_of ◌and◌
as_product k x y h e f p =
    rw (ne_eqb k 18 e, ne_eqb k 19 f, le-leb k 21 (omega arith), ne_eqb k 21 (λ g. omega arith), le-leb k 20 h) p

-- What leaving the range means.
outside_mag : (z : ℤ) → outside z ≡ ltb 2147483647 (mag z)
unfolding outside
outside_mag (pos n) = refl
outside_mag (negsuc n) = refl

by_exact : (k x y : ℕ) → k ≤ 20 → leaves_range k x y ≡ outside (exact_of k x y)
unfolding leaves_range ◌and◌
by_exact k x y h = rw (le-leb k 21 (omega arith), ne_eqb k 21 (λ g. omega arith))

pub leaving_law : LeavingLaw
leaving_law = record {
  within = λ k x y l h.
      let e = by_exact k x y h ∙ outside_mag (exact_of k x y) in
      (λ f. let g : mag (exact_of k x y) ≤ 2147483647 = ltb-false _ _ (sym e ∙ f) in omega arith, λ f. e ∙ le-ltb 2147483647 (mag (exact_of k x y)) (omega arith));
  quotient = λ x y m n. (
    λ e. ⊎_elim {A = x ≡ 2147483648} {B = x ≡ 2147483648 → ⊥}
        (λ f. (f, eqb-true y 4294967295 (quotient_leaves x y n f ∙ e)))
        (λ f. absurd (true≢false (sym e ∙ sym (quotient_stays x y m f))))
        (either x 2147483648),
    λ p. sym (quotient_leaves x y n p.0) ∙ eq-eqb y 4294967295 p.1,
  );
}
