-- The law of divide: for every divisor but zero, and every pair but the lowest number by -1, quotient times divisor plus a remainder that is
-- zero or of the divisor's sign, and smaller in size than it, is the number divided.
-- Assumes nothing.
use Rattle.std.proofs.Common.{◌≡◌, ℕ, zero, suc, ◌+◌, ◌-◌, ◌*◌, ◌/◌, ◌%◌, ◌<◌, true, false, ◌⊎◌, ℤ, pos, negsuc, ◌+ℤ◌, ◌*ℤ◌, neg_ℤ, nat_abs, sym, refl, ap, ◌∙◌, inl, inr, true≢false, mod-lt, add-mul, div-add-mod', div-le_self, div-one, arith, le-ltb, lt-ltb}
use native.Mathlib.Nat.{div-lt_self, add-mul-div_right, div-eq_of_lt, zero-div}
use lib.IntN.{neg_ℤ-+ℤ, zero-*ℤ, pos-ne-negsuc}
use lib.Signed.{mag, non_neg}
use Rattle.rules.specs.Words.{wrap, signed, word_of, floor_z, Divided}
use Rattle.words.proofs.Signs.{size_some, mag_signed, word_signed, signed_word, quotient_some}
use Rattle.words.specs.Division.{DivideLaw}

-- The remainder that goes with the quotient rounded toward minus infinity.
unfoldable pub rest_z : ℤ → ℤ → ℤ
rest_z (pos a) (pos b) = pos (a % b)
rest_z (pos zero) (negsuc b) = pos 0
rest_z (pos (suc a)) (negsuc b) = neg_ℤ (pos (suc b - suc (a % suc b)))
rest_z (negsuc a) (pos b) = pos (b - suc (a % b))
rest_z (negsuc a) (negsuc b) = neg_ℤ (pos (suc a % suc b))

-- A number taken from a larger one, and from a smaller.
less_left : (m r n : ℕ) → m ≡ n + r → pos m +ℤ neg_ℤ (pos r) ≡ pos n
less_left m zero n e = ap pos (omega arith)
less_left m (suc r) n e = rw (le-ltb m (suc r) (omega arith)) (ap pos (omega arith))

more_taken : (m r n : ℕ) → m ≡ suc n + r → neg_ℤ (pos m) +ℤ pos r ≡ negsuc n
more_taken zero r n e = absurd (omega arith)
more_taken (suc m) r n e = rw (lt-ltb r (suc m) (omega arith)) (ap negsuc (omega arith))

-- The size and the side of a number that is not above zero.
pub size_minus : (n : ℕ) → nat_abs (neg_ℤ (pos n)) ≡ n
size_minus zero = refl
size_minus (suc n) = refl

side_minus : (n : ℕ) → (neg_ℤ (pos n) ≡ pos 0) ⊎ (non_neg (neg_ℤ (pos n)) ≡ false)
side_minus zero = inl refl
side_minus (suc n) = inr refl

-- A part of a number, one part more: (q + 1) times b is n + 1 with what n lacks to the next multiple.
next_multiple : (a b : ℕ) → 0 < b → suc (a / b) * b ≡ suc a + (b - suc (a % b))
next_multiple a b h = omega (arith, add-mul 1 (a / b) b, div-add-mod' a b, mod-lt a h)

pub divided : (z d : ℤ) → 0 < nat_abs d → Divided z d (floor_z z d) (rest_z z d)
unfolding floor_z rest_z
divided (pos a) (pos b) h = record { whole = ap pos (div-add-mod' a b); side = inr refl; smaller = mod-lt a h }
divided (pos zero) (negsuc b) h = record { whole = ap (λ (z : ℤ). z +ℤ pos 0) (zero-*ℤ (negsuc b)); side = inl refl; smaller = h }
divided (pos (suc a)) (negsuc b) h = record {
  whole = less_left (suc (a / suc b) * suc b) (suc b - suc (a % suc b)) (suc a) (next_multiple a (suc b) h);
  side = side_minus (suc b - suc (a % suc b));
  smaller = omega (arith, size_minus (suc b - suc (a % suc b)));
}
divided (negsuc a) (pos b) h = record {
  whole = more_taken (suc (a / b) * b) (b - suc (a % b)) a (next_multiple a b h);
  side = inr refl;
  smaller = omega arith;
}
divided (negsuc a) (negsuc b) h = record {
  whole = sym (neg_ℤ-+ℤ (pos (suc a / suc b * suc b)) (pos (suc a % suc b))) ∙ ap (λ (n : ℕ). neg_ℤ (pos n)) (div-add-mod' (suc a) (suc b));
  side = side_minus (suc a % suc b);
  smaller = omega (arith, size_minus (suc a % suc b), mod-lt (suc a) h);
}

-- A quotient is what is left of its multiple with a smaller remainder.
pub part : (a b r : ℕ) → r < b → (a * b + r) / b ≡ a
part a b r h =
    let e : a * b + r ≡ r + a * b = omega arith in
    let f : (r + a * b) / b ≡ r / b + a = add-mul-div_right r a (omega arith) in
    rw e (omega (arith, f, div-eq_of_lt {n = r} {m = b} h))

-- One part more, less a remainder and one.
pub part_before : (a b r n : ℕ) → r < b → suc a * b ≡ suc n + r → n / b ≡ a
part_before a b r n h e =
    let f : n ≡ a * b + (b - suc r) = omega (arith, e, add-mul 1 a b) in
    rw f (part a b (b - suc r) (omega arith))

-- A remainder that is not above zero is minus its size.
not_above : (r : ℤ) → (r ≡ pos 0) ⊎ (non_neg r ≡ false) → r ≡ neg_ℤ (pos (nat_abs r))
not_above (pos zero) s = refl
not_above (pos (suc n)) (inl e) = absurd (let z : ◌≡◌ {A = ℕ} (suc n) 0 = ap nat_abs e in omega arith)
not_above (pos (suc n)) (inr e) = absurd (true≢false e)
not_above (negsuc n) s = refl

-- What a quotient and a remainder make up has this quotient, by a divisor above zero and by one below.
floor_above : (q r : ℤ) (b : ℕ) → (r ≡ pos 0) ⊎ (non_neg r ≡ true) → nat_abs r < b → floor_z (q *ℤ pos b +ℤ r) (pos b) ≡ q
unfolding floor_z
floor_above (pos a) (pos r) b s h = ap pos (part a b r h)
floor_above (negsuc a) (pos r) b s h =
    let n = suc a * b - suc r in
    let e : suc a * b ≡ suc n + r = omega (arith, add-mul 1 a b) in
    rw (more_taken (suc a * b) r n e) (ap negsuc (part_before a b r n h e))
floor_above q (negsuc r) b (inl e) h = absurd (pos-ne-negsuc 0 r (sym e))
floor_above q (negsuc r) b (inr e) h = absurd (true≢false (sym e))

minus_both : (m r : ℕ) → neg_ℤ (pos m) +ℤ neg_ℤ (pos r) ≡ neg_ℤ (pos (m + r))
minus_both m r = sym (neg_ℤ-+ℤ (pos m) (pos r))

-- Minus a number, by a divisor below zero.
floor_minus : (m b : ℕ) → floor_z (neg_ℤ (pos m)) (negsuc b) ≡ pos (m / suc b)
unfolding floor_z
floor_minus zero b = ap pos (sym (zero-div (suc b)))
floor_minus (suc m) b = refl

floor_below : (q : ℤ) (r b : ℕ) → r < suc b → floor_z (q *ℤ negsuc b +ℤ neg_ℤ (pos r)) (negsuc b) ≡ q
unfolding floor_z
floor_below (pos a) r b h = rw (minus_both (a * suc b) r, floor_minus (a * suc b + r) b) (ap pos (part a (suc b) r h))
floor_below (negsuc a) r b h =
    let n = suc a * suc b - suc r in
    let e : suc a * suc b ≡ suc n + r = omega (arith, add-mul 1 a (suc b)) in
    rw (less_left (suc a * suc b) r (suc n) e) (ap negsuc (part_before a (suc b) r n h e))

-- There is one quotient with such a remainder: the one rounded toward minus infinity.
pub only_floor : (z d q r : ℤ) → Divided z d q r → q ≡ floor_z z d
only_floor z (pos b) q r w = rw (← w.whole) (sym (floor_above q r b w.side w.smaller))
only_floor z (negsuc b) q r w =
    rw (← w.whole, not_above r w.side) (sym (floor_below q (nat_abs r) b w.smaller))

-- The quotient stays in the range, but for the one pair.
size_floor : (z d : ℤ) → mag z < 2147483648 → 0 < nat_abs d → ((z ≡ negsuc 2147483647) × (d ≡ negsuc 0) → ⊥) → mag (floor_z z d) < 2147483648
unfolding floor_z
size_floor (pos a) (pos b) h l n = omega (arith, div-le_self a b)
size_floor (pos zero) (negsuc b) h l n = omega arith
size_floor (pos (suc a)) (negsuc b) h l n = omega (arith, div-le_self a (suc b))
size_floor (negsuc a) (pos b) h l n = omega (arith, div-le_self a b)
size_floor (negsuc a) (negsuc zero) h l n =
    let d : a ≡ 2147483647 → ⊥ = λ e. n (ap negsuc e, refl) in
    omega (arith, div-one (suc a), d)
size_floor (negsuc a) (negsuc (suc b)) h l n = omega (arith, div-lt_self {n = suc a} {k = suc (suc b)} (omega arith) (omega arith))

-- The word of an integer is a word.
pub word_below : (q : ℤ) → word_of q < wrap
unfolding word_of
word_below (pos n) = mod-lt n (omega arith)
word_below (negsuc n) = omega arith

-- Every divisor but zero, and every pair but that one.
pub divide_law : DivideLaw
unfolding DivideLaw word_of
divide_law x y h k n e =
    let z = floor_z (signed x) (signed y) in
    let some = size_some y k n in
    let pair : (signed x ≡ negsuc 2147483647) × (signed y ≡ negsuc 0) → ⊥ =
    λ f. e (sym (word_signed x h) ∙ ap word_of f.0, sym (word_signed y k) ∙ ap word_of f.1) in
    let back = signed_word z (size_floor (signed x) (signed y) (mag_signed x h) some pair) in (
      word_of z,
      word_below z,
      quotient_some x y n,
      record {
        remains = (rest_z (signed x) (signed y), rw back (divided (signed x) (signed y) some));
        only = λ q r w. rw back (only_floor (signed x) (signed y) q r w);
      },
    )
