-- The state's time: what was stored is read back, and the cells stay.
-- Assumes nothing.
use mathlib.Core.Path.{◌≡◌, refl, ap, ◌∙◌}
use Prim.Native.Nat.{ℕ, ◌+◌, ◌<◌, ◌≤◌}
use native.Mathlib.Omega.{arith}
use lib.ListN.{length}
use Rattle.rules.specs.Bytes.{Bytes, byte_at, u16_at, u32_at, bytes_of, write_at}
use Rattle.rules.specs.Layout.{cell, cell_at, last_time, set_time, sum_in}
use Rattle.rules.proofs.Cells.{length_write_at, beyond_write_at, in_write_at, u64_same}

-- A time is four bytes.
four : (t : ℕ) → length (bytes_of 4 t) ≡ 4
unfolding bytes_of
four t = refl

-- Four bytes and the number that they make.
u32_bytes : (t : ℕ) → t < 4294967296 → u32_at (bytes_of 4 t) 0 ≡ t
unfolding u32_at u16_at byte_at bytes_of
u32_bytes t h = omega arith

-- The time that was stored is read back.
pub time_same : (st : Bytes) (t : ℕ) → 4 ≤ length st → t < 4294967296 → last_time (set_time st t) ≡ t
unfolding last_time set_time u32_at u16_at
time_same st t l h =
    let e : (j : ℕ) → j < 4 → byte_at (write_at st 0 (bytes_of 4 t)) j ≡ byte_at (bytes_of 4 t) j
    = λ j g. ap (byte_at (write_at st 0 (bytes_of 4 t))) (let z : j ≡ 0 + j = omega arith in z)
    ∙ in_write_at (bytes_of 4 t) st 0 j (omega (arith, four t)) (omega (arith, four t)) in
    omega (arith, e 0 (omega arith), e 1 (omega arith), e 2 (omega arith), e 3 (omega arith), u32_bytes t h)

-- So does the sum of the program's checks.
pub sum_after : (st : Bytes) (t : ℕ) → sum_in (set_time st t) ≡ sum_in st
unfolding sum_in set_time u32_at u16_at
sum_after st t =
    let e : (j : ℕ) → 4 ≤ j → byte_at (write_at st 0 (bytes_of 4 t)) j ≡ byte_at st j
    = λ j g. beyond_write_at (bytes_of 4 t) st 0 j (omega (arith, four t)) in
    omega (arith, e 4 (omega arith), e 5 (omega arith), e 6 (omega arith), e 7 (omega arith))

-- Every cell stands behind the time.
after_time : (k a t : ℕ) → 0 + length (bytes_of 4 t) ≤ cell_at k + a
unfolding cell_at
after_time k a t = omega (arith, four t)

-- Storing the time leaves every cell.
pub cell_stays : (st : Bytes) (t k : ℕ) → cell (set_time st t) k ≡ cell st k
unfolding cell set_time
cell_stays st t k =
    u64_same (write_at st 0 (bytes_of 4 t)) st (cell_at k) (cell_at k) λ a g. beyond_write_at (bytes_of 4 t) st 0 (cell_at k + a) (after_time k a t)

-- Storing the time leaves the length.
pub length_set_time : (st : Bytes) (t : ℕ) → length (set_time st t) ≡ length st
unfolding set_time
length_set_time st t = length_write_at (bytes_of 4 t) st 0
