-- A number written byte by byte: what is left to write after each.
-- Assumes nothing.
use mathlib.Core.Path.{◌≡◌, sym, ap, ◌∙◌}
use Prim.Native.Nat.{ℕ, suc, ◌+◌, ◌-◌, ◌/◌, ◌%◌, ◌<◌, ◌≤◌}
use native.Mathlib.Omega.{arith}
use lib.ListN.{set}
use Rattle.rules.specs.Bytes.{Bytes, bytes_of, write_at}

-- The lowest byte first, then the others from the next place on.
pub write_next : (s : Bytes) (i n x : ℕ) → write_at s i (bytes_of (suc n) x) ≡ write_at (set s i (x % 256)) (i + 1) (bytes_of n (x / 256))
unfolding bytes_of write_at
write_next s i n x = ap (λ (j : ℕ). write_at (set s i (x % 256)) j (bytes_of n (x / 256))) (let e : suc i ≡ i + 1 = omega arith in e)

-- One byte of a write at `at`, of which k of n bytes are done.
pub write_step : (s t : Bytes) (at k n x y : ℕ) → k < n → write_at t (at + k) (bytes_of (n - k) y) ≡ write_at s at (bytes_of n x)
    → write_at (set t (at + k) (y % 256)) (at + (k + 1)) (bytes_of (n - (k + 1)) (y / 256)) ≡ write_at s at (bytes_of n x)
write_step s t at k n x y h e =
    ap (λ (j : ℕ). write_at (set t (at + k) (y % 256)) j (bytes_of (n - (k + 1)) (y / 256))) (let q : at + (k + 1) ≡ (at + k) + 1 = omega arith in q)
    ∙ sym (write_next t (at + k) (n - (k + 1)) y)
    ∙ ap (λ (j : ℕ). write_at t (at + k) (bytes_of j y)) (let q : suc (n - (k + 1)) ≡ n - k = omega arith in q)
    ∙ e

-- At the start nothing is written, at the end everything.
pub write_starts : (s : Bytes) (at n x : ℕ) → write_at s (at + 0) (bytes_of (n - 0) x) ≡ write_at s at (bytes_of n x)
write_starts s at n x =
    ap (λ (j : ℕ). write_at s j (bytes_of (n - 0) x)) (let q : at + 0 ≡ at = omega arith in q)
    ∙ ap (λ (j : ℕ). write_at s at (bytes_of j x)) (let q : n - 0 ≡ n = omega arith in q)

pub write_ends : (s t : Bytes) (at k n x y : ℕ) → n ≤ k → write_at t (at + k) (bytes_of (n - k) y) ≡ write_at s at (bytes_of n x) → t ≡ write_at s at (bytes_of n x)
unfolding write_at bytes_of
write_ends s t at k n x y h e = ap (λ (j : ℕ). write_at t (at + k) (bytes_of j y)) (let q : 0 ≡ n - k = omega arith in q) ∙ e
