-- Words as 64-bit signed integers: what each operation on them gives, and that it fits.
-- Assumes nothing.
use Rattle.std.proofs.Common.{◌≡◌, ℕ, zero, suc, ◌+◌, ◌-◌, ◌/◌, ◌%◌, ◌<◌, ◌≤◌, Bool, true, false, cond, not, ltb, ℤ, pos, negsuc, ◌+ℤ◌, ◌-ℤ◌, nat_abs, sym, refl, ap, ◌∙◌, true≢false, mod-eq_of_lt, div-le_self, arith, w64, SFits, to_z, of_z, ltb-true, le-ltb, lt-ltb}
use native.Mathlib.Nat.{mod-le}
use lib.IntN.{sub_ℕ}
use lib.Signed.{quot_z, rem_z, lt_z, non_neg}
use mir.ValLaws.{to_z_pos, to_z-of_z}
use Rattle.rules.specs.Words.{signed, word_of, floor_z}
use Rattle.words.proofs.Signs.{signed_high, size_small}
use Rattle.words.proofs.Floor.{size_minus, word_below}

-- An integer below 2 to the 63rd in size fits 64 bits, and so does one of at most 2 to the 32nd.
pub fits_below : (z : ℤ) → nat_abs z < 9223372036854775808 → SFits w64 z
fits_below (pos n) h = record { sfits = h }
fits_below (negsuc n) h = record { sfits = let e : n < 9223372036854775808 = omega arith in e }

pub small_fits : (z : ℤ) → nat_abs z ≤ 4294967296 → SFits w64 z
small_fits z h = fits_below z (omega arith)

pub read_back : (z : ℤ) → nat_abs z ≤ 4294967296 → to_z w64 (of_z w64 z) ≡ z
read_back z h = to_z-of_z w64 z (small_fits z h)

pub low : (x : ℕ) → x < 4294967296 → to_z w64 x ≡ pos x
low x h = to_z_pos w64 x (let e : x < 9223372036854775808 = omega arith in e)

apart : (a b : ℕ) → nat_abs (sub_ℕ a b) ≤ a + b
apart a b = cases _ refl
  where
    cases : (t : Bool) → ltb a b ≡ t → nat_abs (sub_ℕ a b) ≤ a + b
    cases true e = let l : a < b = ltb-true _ _ e in rw e (omega arith)
    cases false e = rw e (omega arith)

-- A sum is no larger in size than its parts' sizes together.
pub size_sum : (a b : ℤ) → nat_abs (a +ℤ b) ≤ nat_abs a + nat_abs b
size_sum (pos a) (pos b) = omega arith
size_sum (pos a) (negsuc b) = apart a (suc b)
size_sum (negsuc a) (pos b) = omega (arith, apart b (suc a))
size_sum (negsuc a) (negsuc b) = omega arith

-- A word with an integer of at most 2 to the 32nd added fits.
pub sum_fits : (x : ℕ) (z : ℤ) → x < 4294967296 → nat_abs z ≤ 4294967296 → SFits w64 (to_z w64 x +ℤ z)
sum_fits x z h k = rw (low x h) (fits_below (pos x +ℤ z) (omega (arith, size_sum (pos x) z)))

pub minus_wrap : (x : ℕ) → 2147483648 ≤ x → x < 4294967296 → (to_z w64 x -ℤ pos 4294967296) ≡ signed x
minus_wrap x h k =
    ap (λ (z : ℤ). z -ℤ pos 4294967296) (low x k)
    ∙ ap (λ (b : Bool). cond b (negsuc (4294967296 - suc x)) (pos (x - 4294967296))) (lt-ltb x 4294967296 k) ∙ sym (signed_high x h)

pub signed_small : (x : ℕ) → x < 4294967296 → nat_abs (signed x) ≤ 4294967296
signed_small x h = let s : nat_abs (signed x) ≤ 2147483648 = size_small x h in omega arith

-- A negative integer with 2 to the 32nd added is its word.
pub word_low : (q : ℤ) → nat_abs q ≤ 2147483648 → non_neg q ≡ false → (q +ℤ pos 4294967296) ≡ pos (word_of q)
unfolding word_of
word_low (pos n) h e = absurd (true≢false e)
word_low (negsuc n) h e =
    ap (λ (b : Bool). cond b (negsuc (suc n - suc 4294967296)) (pos (4294967296 - suc n))) (le-ltb 4294967296 (suc n) (omega arith))
    ∙ ap pos (let m : 4294967296 - suc n ≡ 4294967296 - 1 - n % 4294967296 = sums n (omega arith) in m)
  where
    sums : (n : ℕ) → n < 4294967296 → 4294967296 - suc n ≡ 4294967296 - 1 - n % 4294967296
    sums n h = let r : n % 4294967296 ≡ n = mod-eq_of_lt h in omega arith

-- A quotient is no larger in size than the number divided, rounded either way.
pub quot_small : (a b : ℤ) → nat_abs (quot_z a b) ≤ nat_abs a
quot_small (pos a) (pos b) = div-le_self a b
quot_small (pos a) (negsuc b) = omega (arith, size_minus (a / suc b), div-le_self a (suc b))
quot_small (negsuc a) (pos b) = omega (arith, size_minus (suc a / b), div-le_self (suc a) b)
quot_small (negsuc a) (negsuc b) = div-le_self (suc a) (suc b)

pub rem_small : (a b : ℤ) → nat_abs (rem_z a b) ≤ nat_abs a
rem_small (pos a) b = mod-le a (nat_abs b)
rem_small (negsuc a) b = omega (arith, size_minus (suc a % nat_abs b), mod-le (suc a) (nat_abs b))

pub floor_small : (a b : ℤ) → nat_abs (floor_z a b) ≤ nat_abs a
unfolding floor_z
floor_small (pos a) (pos b) = div-le_self a b
floor_small (pos zero) (negsuc b) = omega arith
floor_small (pos (suc a)) (negsuc b) = omega (arith, div-le_self a (suc b))
floor_small (negsuc a) (pos b) = omega (arith, div-le_self a b)
floor_small (negsuc a) (negsuc b) = div-le_self (suc a) (suc b)

pub summed : (q : ℤ) → nat_abs q ≤ 2147483648 → non_neg q ≡ false → (to_z w64 (of_z w64 q) +ℤ pos 4294967296) ≡ pos (word_of q)
summed q h e = ap (λ (z : ℤ). z +ℤ pos 4294967296) (read_back q (omega arith)) ∙ word_low q h e

pub summed_back : (q : ℤ) → nat_abs q ≤ 2147483648 → non_neg q ≡ false
    → to_z w64 (of_z w64 (to_z w64 (of_z w64 q) +ℤ pos 4294967296)) ≡ pos (word_of q)
summed_back q h e = ap (λ (z : ℤ). to_z w64 (of_z w64 z)) (summed q h e) ∙ read_back (pos (word_of q)) (let l : word_of q < 4294967296 = word_below q in omega arith)

-- A word that is not negative is itself.
pub word_high : (q : ℤ) → nat_abs q ≤ 2147483648 → non_neg q ≡ true → nat_abs q ≡ word_of q
unfolding word_of
word_high (pos n) h e = let r : n % 4294967296 ≡ n = mod-eq_of_lt (omega arith) in sym r
word_high (negsuc n) h e = absurd (true≢false (sym e))

-- What a test below zero says.
pub below_zero : (q : ℤ) → nat_abs q ≤ 2147483648 → (t : Bool) → lt_z (to_z w64 (of_z w64 q)) (pos 0) ≡ t → non_neg q ≡ not t
below_zero q h t e = signs q t (ap (λ (z : ℤ). lt_z z (pos 0)) (sym (read_back q (omega arith))) ∙ e)
  where
    signs : (q : ℤ) (t : Bool) → lt_z q (pos 0) ≡ t → non_neg q ≡ not t
    signs (pos n) t e = ap not (sym (le-ltb n 0 (omega arith)) ∙ e)
    signs (negsuc n) t e = ap not e

-- An integer that is not zero is not zero in 64 bits.
pub some_bits : (z : ℤ) → 0 < nat_abs z → nat_abs z ≤ 2147483648 → 0 < of_z w64 z
some_bits (pos n) h k = h
some_bits (negsuc n) h k = let l : 0 < 18446744073709551616 - suc n = omega arith in l

-- The two operations of a division in 64 bits, read back.
pub quot_back : (a b : ℤ) → nat_abs a ≤ 2147483648 → nat_abs b ≤ 2147483648 → quot_z (to_z w64 (of_z w64 a)) (to_z w64 (of_z w64 b)) ≡ quot_z a b
quot_back a b h k = rw (read_back a (omega arith), read_back b (omega arith))

pub rem_back : (a b : ℤ) → nat_abs a ≤ 2147483648 → nat_abs b ≤ 2147483648
    → to_z w64 (of_z w64 (rem_z (to_z w64 (of_z w64 a)) (to_z w64 (of_z w64 b)))) ≡ rem_z a b
rem_back a b h k = rw (read_back a (omega arith), read_back b (omega arith)) (read_back (rem_z a b) (omega (arith, rem_small a b)))
