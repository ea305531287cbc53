-- Bytes: the numbers that they make are small, and what is written over them are bytes again.
-- Assumes nothing.
use mathlib.Core.List.{[], ◌∷◌, ◌++◌}
use Prim.Native.Nat.{ℕ, zero, suc, ◌+◌, ◌*◌, ◌%◌, ◌/◌, ◌<◌}
use native.Mathlib.Omega.{arith}
use lib.ListN.{set, replicate, take, drop}
use Rattle.rules.specs.Bytes.{Bytes, byte_at, u16_at, u32_at, u64_at, bytes_of, write_at}
use Rattle.rules.specs.Layout.{set_cell, set_time, input_length, input_at, cell_at}
use Rattle.promises.specs.Small.{Small}

-- Two bytes make a number below 2 to the 16th.
u16_small : (s : Bytes) (i : ℕ) → Small s → u16_at s i < 65536
unfolding u16_at
u16_small s i h = omega (arith, h.small i, h.small (i + 1))

-- Four bytes make a number below 2 to the 32nd.
pub u32_small : (s : Bytes) (i : ℕ) → Small s → u32_at s i < 4294967296
unfolding u32_at
u32_small s i h = omega (arith, u16_small s i h, u16_small s (i + 2) h)

-- Eight bytes make a number below 2 to the 64th.
pub u64_small : (s : Bytes) (i : ℕ) → Small s → u64_at s i < 18446744073709551616
unfolding u64_at
u64_small s i h = omega (arith, u32_small s i h, u32_small s (i + 4) h)

-- A list and its tail.
pub small_tail : (b : ℕ) (s : Bytes) → Small (b ∷ s) → Small s
unfolding byte_at
small_tail b s h = record { small = λ i. h.small (suc i) }

-- A byte before bytes.
pub small_cons : (b : ℕ) (s : Bytes) → b < 256 → Small s → Small (b ∷ s)
unfolding byte_at
small_cons b s l h = record { small = λ i. go i }
  where
    go : (i : ℕ) → byte_at (b ∷ s) i < 256
    go zero = l
    go (suc i) = h.small i

-- No bytes.
pub small_nil : Small []
unfolding byte_at
small_nil = record { small = λ i. go i }
  where
    go : (i : ℕ) → byte_at [] i < 256
    go zero = omega arith
    go (suc i) = omega arith

-- The first of bytes is a byte.
pub small_head : (b : ℕ) (s : Bytes) → Small (b ∷ s) → b < 256
unfolding byte_at
small_head b s h = h.small 0

-- One byte stored, and several written.
small_set : (s : Bytes) (i b : ℕ) → Small s → b < 256 → Small (set s i b)
small_set [] i b h l = h
small_set (x ∷ s) zero b h l = small_cons b s l (small_tail x s h)
small_set (x ∷ s) (suc i) b h l = small_cons x (set s i b) (small_head x s h) (small_set s i b (small_tail x s h) l)

-- Bytes written over bytes.
pub small_write : (bs s : Bytes) (i : ℕ) → Small s → Small bs → Small (write_at s i bs)
unfolding write_at
small_write [] s i h g = h
small_write (b ∷ bs) s i h g =
    small_write bs (set s i b) (suc i) (small_set s i b h (small_head b bs g)) (small_tail b bs g)

-- A number as so many bytes.
pub small_bytes : (k x : ℕ) → Small (bytes_of k x)
unfolding bytes_of
small_bytes zero x = small_nil
small_bytes (suc k) x = small_cons (x % 256) _ (omega arith) (small_bytes k (x / 256))

-- A cell stored.
pub small_set_cell : (st : Bytes) (k m : ℕ) → Small st → Small (set_cell st k m)
unfolding set_cell
small_set_cell st k m h = small_write (bytes_of 8 m) st (cell_at k) h (small_bytes 8 m)

-- The time stored.
pub small_set_time : (st : Bytes) (t : ℕ) → Small st → Small (set_time st t)
unfolding set_time
small_set_time st t h = small_write (bytes_of 4 t) st 0 h (small_bytes 4 t)

-- Lists put together and taken apart.
pub small_append : (s t : Bytes) → Small s → Small t → Small (s ++ t)
small_append [] t h g = g
small_append (b ∷ s) t h g = small_cons b (s ++ t) (small_head b s h) (small_append s t (small_tail b s h) g)

-- Zeros are bytes.
pub small_zeros : (n : ℕ) → Small (replicate n 0)
small_zeros zero = small_nil
small_zeros (suc n) = small_cons 0 _ (omega arith) (small_zeros n)

-- Bytes without the first of them.
pub small_drop : (n : ℕ) (s : Bytes) → Small s → Small (drop n s)
small_drop zero s h = h
small_drop (suc n) [] h = h
small_drop (suc n) (b ∷ s) h = small_drop n s (small_tail b s h)

-- The first of bytes.
pub small_take : (n : ℕ) (s : Bytes) → Small s → Small (take n s)
small_take zero s h = small_nil
small_take (suc n) [] h = small_nil
small_take (suc n) (b ∷ s) h = small_cons b _ (small_head b s h) (small_take n s (small_tail b s h))

-- One record of the records.
pub small_input : (recs : Bytes) (k : ℕ) → Small recs → Small (input_at recs k)
unfolding input_at
small_input recs k h = small_take input_length (drop (input_length * k) recs) (small_drop (input_length * k) recs h)
