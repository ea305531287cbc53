-- Bytes of lists put together and taken apart.
-- Assumes nothing.
use mathlib.Core.Path.{◌≡◌, refl, sym, ap, ◌∙◌}
use mathlib.Core.List.{List, [], ◌∷◌, ◌++◌}
use Prim.Native.Nat.{ℕ, zero, suc, ◌+◌, ◌-◌, ◌*◌, ◌/◌, ◌%◌, ◌<◌, ◌≤◌}
use native.Mathlib.Omega.{arith}
use lib.ListN.{length, take, drop, replicate}
use Rattle.rules.specs.Bytes.{Bytes, byte_at, u16_at, u32_at, bytes_of}

pub app_left : (s t : Bytes) (k : ℕ) → k < length s → byte_at (s ++ t) k ≡ byte_at s k
unfolding byte_at
app_left [] t k h = absurd (omega arith)
app_left (b ∷ s) t zero h = refl
app_left (b ∷ s) t (suc k) h = app_left s t k (omega arith)

pub app_right : (s t : Bytes) (k : ℕ) → byte_at (s ++ t) (length s + k) ≡ byte_at t k
unfolding byte_at
app_right [] t k = ap (byte_at t) (let e : 0 + k ≡ k = omega arith in e)
app_right (b ∷ s) t k = ap (byte_at (b ∷ (s ++ t))) (let e : suc (length s) + k ≡ suc (length s + k) = omega arith in e) ∙ app_right s t k

pub app_at : (s t : Bytes) (n k : ℕ) → n ≡ length s + k → byte_at (s ++ t) n ≡ byte_at t k
app_at s t n k e = ap (byte_at (s ++ t)) e ∙ app_right s t k

pub app_length : (s t : Bytes) → length (s ++ t) ≡ length s + length t
app_length [] t = omega arith
app_length (b ∷ s) t = let e = app_length s t in omega arith

pub beyond : (s : Bytes) (k : ℕ) → length s ≤ k → byte_at s k ≡ 0
unfolding byte_at
beyond [] k h = refl
beyond (b ∷ s) zero h = absurd (omega arith)
beyond (b ∷ s) (suc k) h = beyond s k (omega arith)

pub zeros : (n k : ℕ) → byte_at (replicate n 0) k ≡ 0
unfolding byte_at
zeros zero k = refl
zeros (suc n) zero = refl
zeros (suc n) (suc k) = zeros n k

pub zeros_length : (n : ℕ) → length (replicate {A = ℕ} n 0) ≡ n
zeros_length zero = refl
zeros_length (suc n) = let e = zeros_length n in omega arith

pub drop_byte : (n : ℕ) (s : Bytes) (k : ℕ) → byte_at (drop n s) k ≡ byte_at s (n + k)
unfolding byte_at
drop_byte zero s k = ap (byte_at s) (let e : k ≡ 0 + k = omega arith in e)
drop_byte (suc n) [] k = refl
drop_byte (suc n) (b ∷ s) k = drop_byte n s k ∙ ap (byte_at (b ∷ s)) (let e : suc (n + k) ≡ suc n + k = omega arith in e)

pub take_byte : (n : ℕ) (s : Bytes) (k : ℕ) → k < n → byte_at (take n s) k ≡ byte_at s k
unfolding byte_at
take_byte zero s k h = absurd (omega arith)
take_byte (suc n) [] k h = refl
take_byte (suc n) (b ∷ s) zero h = refl
take_byte (suc n) (b ∷ s) (suc k) h = take_byte n s k (omega arith)

pub take_most : (n : ℕ) (s : Bytes) → length (take n s) ≤ n
take_most zero s = omega arith
take_most (suc n) [] = omega arith
take_most (suc n) (b ∷ s) = let e = take_most n s in omega arith

pub two : (x : ℕ) → length (bytes_of 2 x) ≡ 2
unfolding bytes_of
two x = refl

pub four : (x : ℕ) → length (bytes_of 4 x) ≡ 4
unfolding bytes_of
four x = refl

-- The same, for whole lists.
pub drop_none : (n : ℕ) → drop {A = ℕ} n [] ≡ []
drop_none zero = refl
drop_none (suc n) = refl

pub drops : (m n : ℕ) (s : Bytes) → drop m (drop n s) ≡ drop (n + m) s
drops m zero s = ap (λ (x : ℕ). drop x s) (let e : m ≡ 0 + m = omega arith in e)
drops m (suc n) [] = drop_none m ∙ sym (drop_none (suc n + m))
drops m (suc n) (b ∷ s) = drops m n s ∙ ap (λ (x : ℕ). drop x (b ∷ s)) (let e : suc (n + m) ≡ suc n + m = omega arith in e)

pub drop_app : (s t : Bytes) → drop (length s) (s ++ t) ≡ t
drop_app [] t = refl
drop_app (b ∷ s) t = drop_app s t

pub take_app : (s t : Bytes) → take (length s) (s ++ t) ≡ s
take_app [] t = refl
take_app (b ∷ s) t = ap (λ (x : Bytes). b ∷ x) (take_app s t)

pub app_assoc : (s t u : Bytes) → (s ++ t) ++ u ≡ s ++ (t ++ u)
app_assoc [] t u = refl
app_assoc (b ∷ s) t u = ap (λ (x : Bytes). b ∷ x) (app_assoc s t u)

-- Numbers written and read.
pub two_reads : (x : ℕ) → x < 65536 → u16_at (bytes_of 2 x) 0 ≡ x
unfolding u16_at byte_at bytes_of
two_reads x h = omega arith

pub four_reads : (x : ℕ) → x < 4294967296 → u32_at (bytes_of 4 x) 0 ≡ x
unfolding u32_at u16_at byte_at bytes_of
four_reads x h = omega arith

-- Every byte is below 256.
abbrev pub Small : Bytes → Type 0
Small s = (k : ℕ) → byte_at s k < 256

pub small_nil : Small []
unfolding byte_at
small_nil k = omega arith

pub small_cons : (b : ℕ) (s : Bytes) → b < 256 → Small s → Small (b ∷ s)
unfolding byte_at
small_cons b s h g zero = h
small_cons b s h g (suc k) = g k

pub small_tail : (b : ℕ) (s : Bytes) → Small (b ∷ s) → Small s
unfolding byte_at
small_tail b s h k = h (suc k)

pub small_head : (b : ℕ) (s : Bytes) → Small (b ∷ s) → b < 256
unfolding byte_at
small_head b s h = h 0

pub small_app : (s t : Bytes) → Small s → Small t → Small (s ++ t)
small_app [] t h g = g
small_app (b ∷ s) t h g = small_cons b (s ++ t) (small_head b s h) (small_app s t (small_tail b s h) g)

pub small_number : (n x : ℕ) → Small (bytes_of n x)
unfolding bytes_of
small_number zero x = small_nil
small_number (suc n) x = small_cons (x % 256) (bytes_of n (x / 256)) (omega arith) (small_number n (x / 256))

pub small_zeros : (n : ℕ) → Small (replicate n 0)
small_zeros n k = omega (arith, zeros n k)

pub small_take : (n : ℕ) (s : Bytes) → Small s → Small (take n s)
small_take zero s h = small_nil
small_take (suc n) [] h = small_nil
small_take (suc n) (b ∷ s) h = small_cons b (take n s) (small_head b s h) (small_take n s (small_tail b s h))

pub small_drop : (n : ℕ) (s : Bytes) → Small s → Small (drop n s)
small_drop zero s h = h
small_drop (suc n) [] h = small_nil
small_drop (suc n) (b ∷ s) h = small_drop n s (small_tail b s h)
