-- What a cell holds after a store, whatever number is stored.
-- Assumes nothing.
use mathlib.Core.Path.{◌≡◌, refl, ap, ◌∙◌}
use mathlib.Core.Bool.{false}
use Prim.Native.Nat.{ℕ, zero, suc, ◌+◌, ◌*◌, ◌/◌, ◌%◌, ◌<◌, ◌≤◌}
use native.Mathlib.Omega.{arith}
use mathlib.Core.List.{◌∷◌}
use lib.ListN.{length}
use lib.Dec.{eqb}
use borrow.Author.Tests.{ne_eqb}
use Rattle.rules.specs.Bytes.{Bytes, byte_at, u16_at, u32_at, u64_at, bytes_of, write_at}
use Rattle.rules.specs.Values.{unpacked, type_in, present_in, middle_in, word_in, value_from}
use Rattle.rules.specs.Layout.{cell, cell_at, set_cell}
use Rattle.rules.proofs.Cells.{in_write_at, u64_same}

-- Eight bytes of a number.
pub content : ℕ → ℕ
content m = u64_at (bytes_of 8 m) 0

eight : (n : ℕ) → length (bytes_of 8 n) ≡ 8
unfolding bytes_of
eight n = refl

inside : (k cells : ℕ) → k < cells → cell_at k + 8 ≤ cell_at cells
unfolding cell_at
inside k cells h = omega arith

-- A cell that was stored.
pub cell_stored : (st : Bytes) (k m cells : ℕ) → k < cells → length st ≡ cell_at cells → cell (set_cell st k m) k ≡ content m
unfolding cell set_cell content
cell_stored st k m cells h l =
    u64_same (write_at st (cell_at k) (bytes_of 8 m)) (bytes_of 8 m) (cell_at k) 0
    (λ j g.
    in_write_at (bytes_of 8 m) st (cell_at k) j (omega (arith, eight m)) (omega (arith, eight m, inside k cells h))
    ∙ ap (byte_at (bytes_of 8 m)) (let e : j ≡ 0 + j = omega arith in e))

-- Eight bytes make a number again.
content_small : (m : ℕ) → m < 18446744073709551616 → content m ≡ m
unfolding content u64_at u32_at u16_at byte_at bytes_of
content_small m h = omega arith

-- So many bytes up.
abbrev up : ℕ → ℕ → ℕ
up zero y = y
up (suc k) y = 256 * up k y

-- What is above so many bytes is not stored.
bytes_up : (k x y : ℕ) → bytes_of k (x + up k y) ≡ bytes_of k x
unfolding bytes_of
bytes_up zero x y = refl
bytes_up (suc k) x y =
    let z : ℕ = up k y in
    let head : (x + 256 * z) % 256 ≡ x % 256 = omega arith in
    let tail : (x + 256 * z) / 256 ≡ x / 256 + z = omega arith in
    λ i. head i ∷ (ap (bytes_of k) tail ∙ bytes_up k (x / 256) y) i

above : (x q : ℕ) → x + 18446744073709551616 * q ≡ x + up 8 q
above x q = omega arith

-- A plain value with a branch's number.
pub content_is : (t w b : ℕ) → t ≤ 3 → b < 65536
    → content (t + 256 + 4294967296 * w + 65536 * b) ≡ t + 256 + 4294967296 * (w % 4294967296) + 65536 * b
unfolding content
content_is t w b h g =
    let m : ℕ = t + 256 + 4294967296 * (w % 4294967296) + 65536 * b in
    let e : t + 256 + 4294967296 * w + 65536 * b ≡ m + 18446744073709551616 * (w / 4294967296) = omega arith in
    ap (λ (x : ℕ). u64_at (bytes_of 8 x) 0) (e ∙ above m (w / 4294967296)) ∙ ap (λ (bs : Bytes). u64_at bs 0) (bytes_up 8 m (w / 4294967296))
    ∙ content_small m (omega arith)

-- It is not clear,
pub branch_filled : (t w b : ℕ) → t ≤ 3 → b < 65536 → eqb (content (t + 256 + 4294967296 * w + 65536 * b)) 0 ≡ false
branch_filled t w b h g = ap (λ (x : ℕ). eqb x 0) (content_is t w b h g) ∙ ne_eqb (t + 256 + 4294967296 * (w % 4294967296) + 65536 * b) 0 (λ (z : t + 256 + 4294967296 * (w % 4294967296) + 65536 * b ≡ 0). omega arith)

-- names the branch,
pub branch_named : (t w b : ℕ) → t ≤ 3 → b < 65536 → middle_in (content (t + 256 + 4294967296 * w + 65536 * b)) ≡ b
unfolding middle_in
branch_named t w b h g = ap (λ (x : ℕ). x / 65536 % 65536) (content_is t w b h g) ∙ middle t (w % 4294967296) b h g
  where
    middle : (t w b : ℕ) → t ≤ 3 → b < 65536 → (t + 256 + 4294967296 * w + 65536 * b) / 65536 % 65536 ≡ b
    middle t w b h g = omega arith

-- and holds the value, whatever the branch.
pub branch_held : (t w b : ℕ) → t ≤ 3 → b < 65536
    → unpacked (content (t + 256 + 4294967296 * w + 65536 * b)) ≡ value_from t 1 (w % 4294967296)
unfolding unpacked type_in present_in word_in
branch_held t w b h g =
    ap unpacked (content_is t w b h g)
    ∙ (λ i. value_from (type t (w % 4294967296) b h i) (there t (w % 4294967296) b h i) (word t (w % 4294967296) b h g i))
  where
    type : (t w b : ℕ) → t ≤ 3 → (t + 256 + 4294967296 * w + 65536 * b) % 256 ≡ t
    type t w b h = omega arith

    there : (t w b : ℕ) → t ≤ 3 → (t + 256 + 4294967296 * w + 65536 * b) / 256 % 256 ≡ 1
    there t w b h = omega arith

    word : (t w b : ℕ) → t ≤ 3 → b < 65536 → (t + 256 + 4294967296 * w + 65536 * b) / 4294967296 ≡ w
    word t w b h g = omega arith
