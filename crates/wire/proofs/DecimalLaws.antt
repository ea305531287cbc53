-- The digits that `io::decimal` writes are those of `decimal`. Assumes nothing.
use Prim.Native.Nat.{ℕ, zero, suc, ◌-◌, ◌/◌, ◌^◌, ◌≤◌, ◌<◌}
use mathlib.Core.Path.{◌≡◌, refl, sym, ap, ◌∙◌, subst}
use mathlib.Core.List.{List}
use native.Mathlib.Nat.{pow-suc, one-le-pow, pow-le-pow_right, lt_of_not-le}
use native.Mathlib.Omega.{arith}
use lib.ListN.{take}
use borrow.Author.Tests.{lt-ltb, le-ltb}
use Rattle.io.specs.Digits.{last_digits, IsDigitCount}
use Rattle.wire.specs.Text.{decimal, places, Put}

-- what the fewest digits of a number with two or more say of it
lowest : (n k : ℕ) → IsDigitCount 10 1 n (suc (suc k)) → 10 ^ suc k ≤ n
lowest n k w =
    let e : suc (suc k) - 1 ≡ suc k = omega arith in
    subst (λ (j : ℕ). 10 ^ j ≤ n) e (w.2 (omega arith))

-- without its last digit a number has one less
shorter : (n k : ℕ) → IsDigitCount 10 1 n (suc (suc k)) → IsDigitCount 10 1 (n / 10) (suc k)
shorter n k w =
    let low = lowest n k w in
    let e : suc k - 1 ≡ k = omega arith in
    let most = w.1 in (
      omega arith,
      omega (arith, pow-suc 10 (suc k)),
      (λ _. subst (λ (j : ℕ). 10 ^ j ≤ n / 10) (sym e) (omega (arith, pow-suc 10 k))),
    )

-- `places` finds the fewest digits
places_is : (f n k : ℕ) → IsDigitCount 10 1 n k → k ≤ suc f → places f n ≡ k
unfolding places
places_is f n zero w h = let a = w.0 in omega arith
places_is zero n (suc zero) w h = refl
places_is (suc f) n (suc zero) w h = rw (lt-ltb n 10 w.1)
places_is zero n (suc (suc k)) w h = omega arith
places_is (suc f) n (suc (suc k)) w h =
    let low = lowest n k w in
    let fits : suc k ≤ suc f = omega arith in
    rw (le-ltb n 10 (omega (arith, pow-suc 10 k, one-le-pow k 10 (omega arith))), places_is f (n / 10) (suc k) (shorter n k w) fits)

-- the fewest digits of a number of at most 20 are its decimal
pub decimal_is : (n k : ℕ) → IsDigitCount 10 1 n k → k ≤ 20 → last_digits 10 k n ≡ decimal n
unfolding decimal
decimal_is n k w h = ap (λ (j : ℕ). last_digits 10 j n) (sym (places_is 19 n k w h))

-- a u32 has at most ten digits
pub short : (n k : ℕ) → IsDigitCount 10 1 n k → n < 2 ^ 32 → k ≤ 10
short n k w h =
    let lt : k < 11 =
    lt_of_not-le (λ (le : 11 ≤ k). omega (arith, w.2 (omega arith), pow-le-pow_right {n = 10} (omega arith) {i = 10} {j = k - 1} (omega arith))) in
    omega arith

-- a number of 16 bits has at most five
pub shortest : (n k : ℕ) → IsDigitCount 10 1 n k → n < 2 ^ 16 → k ≤ 5
shortest n k w h =
    let lt : k < 6 =
    lt_of_not-le (λ (le : 6 ≤ k). omega (arith, w.2 (omega arith), pow-le-pow_right {n = 10} (omega arith) {i = 5} {j = k - 1} (omega arith))) in
    omega arith

-- the fewest digits of a u32, put into a line, are its decimal
pub number_put : {at here n k : ℕ} {line mid : List ℕ} (digs : List ℕ) → IsDigitCount 10 1 n k → n < 2 ^ 32 → take k digs ≡ last_digits 10 k n
    → Put at (take k digs) line mid here → Put at (decimal n) line mid here
number_put {at} {here} {n} {k} {line} {mid} digs w h e p =
    let at_most = short n k w h in
    subst (λ (t : List ℕ). Put at t line mid here) (e ∙ decimal_is n k w (omega arith)) p
