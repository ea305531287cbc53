-- Records written as blocks are read back: each record where the layout has it, block numbers, count, check and length.
-- Assumes nothing.
use mathlib.Core.Path.{◌≡◌, refl, sym, ap, ◌∙◌}
use mathlib.Core.List.{List, [], ◌∷◌, ◌++◌}
use mathlib.Core.Bool.{Bool, true, false, not}
use Prim.Native.Nat.{ℕ, zero, suc, ◌+◌, ◌-◌, ◌*◌, ◌/◌, ◌%◌, ◌<◌, ◌≤◌}
use native.Mathlib.Decide.{dec_lt}
use native.Mathlib.Nat.{mul-le-mul}
use native.Mathlib.Omega.{arith}
use lib.ListN.{length, take, drop, replicate}
use Rattle.rules.specs.Bytes.{Bytes, byte_at, u16_at, u32_at, bytes_of}
use Rattle.rules.specs.Layout.{block_at, record_at, number_in, count_in, edition_in, check_in}
use Rattle.rules.specs.Format.{check_of, weighed}
use Rattle.written.specs.Table.{block_of, blocks_from}
use Rattle.written.proofs.ListLaws.{app_left, app_right, app_at, app_length, beyond, zeros, zeros_length, drop_byte, take_byte, take_most, two, four, drop_none, drops, drop_app, take_app, app_assoc, two_reads, four_reads, Small, small_nil, small_cons, small_tail, small_head, small_app, small_number, small_zeros, small_take, small_drop}

-- A block: head, records, zeros; and its check.
abbrev pub content : ℕ → ℕ → ℕ → Bytes → Bytes
content e₀ count j s = bytes_of 2 j ++ (count ∷ e₀ ∷ (s ++ replicate (504 - length s) 0))

pub content_length : (e₀ count j : ℕ) (s : Bytes) → length s ≤ 504 → length (content e₀ count j s) ≡ 508
content_length e₀ count j s h =
    let a : length (content e₀ count j s) ≡ length (bytes_of 2 j) + length (count ∷ e₀ ∷ (s ++ replicate (504 - length s) 0))
    = app_length (bytes_of 2 j) (count ∷ e₀ ∷ (s ++ replicate (504 - length s) 0)) in
    let c = app_length s (replicate (504 - length s) 0) in
    omega (arith, two j, zeros_length (504 - length s))

pub block_length : (e₀ count j : ℕ) (s : Bytes) → length s ≤ 504 → length (block_of e₀ count j s) ≡ 512
unfolding block_of
block_length e₀ count j s h =
    let a : length (block_of e₀ count j s) ≡ length (content e₀ count j s) + length (bytes_of 4 (check_of (content e₀ count j s)))
    = app_length (content e₀ count j s) (bytes_of 4 (check_of (content e₀ count j s))) in
    omega (arith, content_length e₀ count j s h, four (check_of (content e₀ count j s)))

-- The records stand from byte 4 on.
block_record : (e₀ count j : ℕ) (s : Bytes) (k : ℕ) → length s ≤ 504 → k < 504 → byte_at (block_of e₀ count j s) (4 + k) ≡ byte_at s k
unfolding block_of
block_record e₀ count j s k h l =
    app_left (content e₀ count j s) _ (4 + k) (omega (arith, content_length e₀ count j s h))
    ∙ app_at (bytes_of 2 j) (count ∷ e₀ ∷ (s ++ replicate (504 - length s) 0)) (4 + k) (2 + k) (omega (arith, two j))
    ∙ app_at (count ∷ e₀ ∷ []) (s ++ replicate (504 - length s) 0) (2 + k) k (omega arith)
    ∙ go (dec_lt k (length s))
  where
    go : Dec (k < length s) → byte_at (s ++ replicate (504 - length s) 0) k ≡ byte_at s k
    go (yes i) = app_left s _ k i
    go (no i) =
        app_at s (replicate (504 - length s) 0) k (k - length s) (omega arith) ∙ zeros (504 - length s) (k - length s) ∙ sym (beyond s k (omega arith))

-- Byte k of block b.
pub blocks_byte : (e₀ count left j : ℕ) (s : Bytes) (b k : ℕ) → b < left → k < 512
    → byte_at (blocks_from left e₀ count j s) (512 * b + k) ≡ byte_at (block_of e₀ count (j + b) (take 504 (drop (504 * b) s))) k
unfolding blocks_from
blocks_byte e₀ count zero j s b k h l = absurd (omega arith)
blocks_byte e₀ count (suc left) j s zero k h l =
    let e : j ≡ j + 0 = omega arith in
    let n : length (block_of e₀ count j (take 504 s)) ≡ 512 = block_length e₀ count j (take 504 s) (take_most 504 s) in
    ap (byte_at (block_of e₀ count j (take 504 s) ++ blocks_from left e₀ count (suc j) (drop 504 s))) (let z : 512 * 0 + k ≡ k = omega arith in z)
    ∙ app_left (block_of e₀ count j (take 504 s)) _ k (omega arith) ∙ ap (λ (x : ℕ). byte_at (block_of e₀ count x (take 504 s)) k) e
blocks_byte e₀ count (suc left) j s (suc b) k h l =
    let n : length (block_of e₀ count j (take 504 s)) ≡ 512 = block_length e₀ count j (take 504 s) (take_most 504 s) in
    app_at (block_of e₀ count j (take 504 s)) (blocks_from left e₀ count (suc j) (drop 504 s)) (512 * suc b + k) (512 * b + k) (omega arith)
    ∙ blocks_byte e₀ count left (suc j) (drop 504 s) b k (omega arith) l
    ∙ ap (λ (x : ℕ). byte_at (block_of e₀ count x (take 504 (drop (504 * b) (drop 504 s)))) k) (let z : suc j + b ≡ j + suc b = omega arith in z)
    ∙ ap (λ (x : Bytes). byte_at (block_of e₀ count (j + suc b) (take 504 x)) k) (drops (504 * b) 504 s ∙ ap (λ (x : ℕ). drop x s) (let z : 504 + 504 * b ≡ 504 * suc b = omega arith in z))

pub blocks_length : (e₀ count left j : ℕ) (s : Bytes) → length (blocks_from left e₀ count j s) ≡ 512 * left
unfolding blocks_from
blocks_length e₀ count zero j s = refl
blocks_length e₀ count (suc left) j s =
    let a = app_length (block_of e₀ count j (take 504 s)) (blocks_from left e₀ count (suc j) (drop 504 s)) in
    omega (arith, block_length e₀ count j (take 504 s) (take_most 504 s), blocks_length e₀ count left (suc j) (drop 504 s))

-- Byte i of record r is byte 12 r + i of the records.
pub record_byte : (e₀ count left : ℕ) (s : Bytes) (r i : ℕ) → r < 42 * left → i < 12 → byte_at (blocks_from left e₀ count 0 s) (record_at r + i) ≡ byte_at s (12 * r + i)
unfolding record_at block_at
record_byte e₀ count left s r i h l =
    let b : ℕ = r / 42 in
    let k : ℕ = 12 * (r % 42) + i in
    let lb : b < left = omega arith in
    let lk : k < 504 = omega arith in
    ap (byte_at (blocks_from left e₀ count 0 s)) (let z : 512 * b + 4 + 12 * (r % 42) + i ≡ 512 * b + (4 + k) = omega arith in z)
    ∙ blocks_byte e₀ count left 0 s b (4 + k) lb (omega arith)
    ∙ block_record e₀ count (0 + b) (take 504 (drop (504 * b) s)) k (take_most 504 (drop (504 * b) s)) lk
    ∙ take_byte 504 (drop (504 * b) s) k lk ∙ drop_byte (504 * b) s k
    ∙ ap (byte_at s) (let z : 504 * b + k ≡ 12 * r + i = omega arith in z)

-- The sum of a block's bytes fits its four.
pub weighed_small : (s : Bytes) (i : ℕ) → Small s → weighed i s ≤ length s * ((i + length s) * 255)
unfolding weighed
weighed_small [] i h = omega arith
weighed_small (b ∷ s) i h =
    let l = small_head b s h in
    let c : b ≤ 255 = omega arith in
    let z : suc i ≤ i + suc (length s) = omega arith in
    let m : suc i * b ≤ (i + suc (length s)) * 255 = mul-le-mul z c in
    let r = weighed_small s (suc i) (small_tail b s h) in
    omega arith

-- Block b begins the rest of the bytes.
pub record Cut (s t : Bytes) : Type 0 where
  pub rest : Bytes
  pub is : s ≡ t ++ rest

pub blocks_drop : (e₀ count left j : ℕ) (s : Bytes) (b : ℕ) → b < left
    → Cut (drop (512 * b) (blocks_from left e₀ count j s)) (block_of e₀ count (j + b) (take 504 (drop (504 * b) s)))
unfolding blocks_from
blocks_drop e₀ count zero j s b h = absurd (omega arith)
blocks_drop e₀ count (suc left) j s zero h =
    record {
      rest = blocks_from left e₀ count (suc j) (drop 504 s);
      is = ap (λ (x : ℕ). block_of e₀ count x (take 504 s) ++ blocks_from left e₀ count (suc j) (drop 504 s)) (let z : j ≡ j + 0 = omega arith in z);
    }
blocks_drop e₀ count (suc left) j s (suc b) h =
    let n : length (block_of e₀ count j (take 504 s)) ≡ 512 = block_length e₀ count j (take 504 s) (take_most 504 s) in
    let c = blocks_drop e₀ count left (suc j) (drop 504 s) b (omega arith) in
    record {
      rest = c.rest;
      is =
          ap (λ (x : ℕ). drop x (block_of e₀ count j (take 504 s) ++ blocks_from left e₀ count (suc j) (drop 504 s)))
          (let z : 512 * suc b ≡ length (block_of e₀ count j (take 504 s)) + 512 * b = omega arith in z)
          ∙ sym (drops (512 * b) (length (block_of e₀ count j (take 504 s))) (block_of e₀ count j (take 504 s) ++ blocks_from left e₀ count (suc j) (drop 504 s)))
          ∙ ap (drop (512 * b)) (drop_app (block_of e₀ count j (take 504 s)) (blocks_from left e₀ count (suc j) (drop 504 s)))
          ∙ c.is
          ∙ ap (λ (x : ℕ). block_of e₀ count x (take 504 (drop (504 * b) (drop 504 s))) ++ c.rest) (let z : suc j + b ≡ j + suc b = omega arith in z)
          ∙ ap (λ (x : Bytes). block_of e₀ count (j + suc b) (take 504 x) ++ c.rest)
          (drops (504 * b) 504 s ∙ ap (λ (x : ℕ). drop x s) (let z : 504 + 504 * b ≡ 504 * suc b = omega arith in z));
    }

-- The first 508 bytes of block b.
pub blocks_content : (e₀ count left j : ℕ) (s : Bytes) (b : ℕ) → b < left
    → take 508 (drop (512 * b) (blocks_from left e₀ count j s)) ≡ content e₀ count (j + b) (take 504 (drop (504 * b) s))
unfolding block_of
blocks_content e₀ count left j s b h =
    let c = blocks_drop e₀ count left j s b h in
    let x = content e₀ count (j + b) (take 504 (drop (504 * b) s)) in
    let n : length x ≡ 508 = content_length e₀ count (j + b) (take 504 (drop (504 * b) s)) (take_most 504 (drop (504 * b) s)) in
    ap (take 508) (c.is ∙ app_assoc x (bytes_of 4 (check_of x)) c.rest)
    ∙ ap (λ (k : ℕ). take k (x ++ (bytes_of 4 (check_of x) ++ c.rest))) (sym n) ∙ take_app x (bytes_of 4 (check_of x) ++ c.rest)

-- Number, count and edition, check.
block_byte0 : (e₀ count j : ℕ) (s : Bytes) → byte_at (block_of e₀ count j s) 0 ≡ j % 256
unfolding block_of byte_at bytes_of
block_byte0 e₀ count j s = refl

block_byte1 : (e₀ count j : ℕ) (s : Bytes) → byte_at (block_of e₀ count j s) 1 ≡ j / 256 % 256
unfolding block_of byte_at bytes_of
block_byte1 e₀ count j s = refl

block_byte2 : (e₀ count j : ℕ) (s : Bytes) → byte_at (block_of e₀ count j s) 2 ≡ count
unfolding block_of byte_at bytes_of
block_byte2 e₀ count j s = refl

block_byte3 : (e₀ count j : ℕ) (s : Bytes) → byte_at (block_of e₀ count j s) 3 ≡ e₀
unfolding block_of byte_at bytes_of
block_byte3 e₀ count j s = refl

pub number_reads : (e₀ count left : ℕ) (s : Bytes) (b : ℕ) → b < left → b < 65536 → number_in (blocks_from left e₀ count 0 s) b ≡ b
unfolding number_in block_at u16_at
number_reads e₀ count left s b h g =
    let x = ap (byte_at (blocks_from left e₀ count 0 s)) (let z : 512 * b ≡ 512 * b + 0 = omega arith in z) ∙ blocks_byte e₀ count left 0 s b 0 h (omega arith) ∙ block_byte0 e₀ count (0 + b) _ in
    let y = blocks_byte e₀ count left 0 s b 1 h (omega arith) ∙ block_byte1 e₀ count (0 + b) _ in
    omega (arith, x, y)

pub count_reads : (e₀ count left : ℕ) (s : Bytes) (b : ℕ) → b < left → count_in (blocks_from left e₀ count 0 s) b ≡ count
unfolding count_in block_at
count_reads e₀ count left s b h = blocks_byte e₀ count left 0 s b 2 h (omega arith) ∙ block_byte2 e₀ count (0 + b) _

pub edition_reads : (e₀ count left : ℕ) (s : Bytes) (b : ℕ) → b < left → edition_in (blocks_from left e₀ count 0 s) b ≡ e₀
unfolding edition_in block_at
edition_reads e₀ count left s b h = blocks_byte e₀ count left 0 s b 3 h (omega arith) ∙ block_byte3 e₀ count (0 + b) _

-- The check stands behind the content.
check_byte : (e₀ count left : ℕ) (s : Bytes) (b i : ℕ) → b < left → i < 4
    → byte_at (blocks_from left e₀ count 0 s) (512 * b + (508 + i))
    ≡ byte_at (bytes_of 4 (check_of (content e₀ count b (take 504 (drop (504 * b) s))))) i
unfolding block_of
check_byte e₀ count left s b i h l =
    let x = content e₀ count b (take 504 (drop (504 * b) s)) in
    let n : length x ≡ 508 = content_length e₀ count b (take 504 (drop (504 * b) s)) (take_most 504 (drop (504 * b) s)) in
    blocks_byte e₀ count left 0 s b (508 + i) h (omega arith)
    ∙ ap (λ (k : ℕ). byte_at (block_of e₀ count k (take 504 (drop (504 * b) s))) (508 + i)) (let z : 0 + b ≡ b = omega arith in z)
    ∙ app_at x (bytes_of 4 (check_of x)) (508 + i) i (omega arith)

content_small : (e₀ count j : ℕ) (s : Bytes) → e₀ < 256 → count < 256 → Small s → Small (content e₀ count j s)
content_small e₀ count j s h g l =
    small_app (bytes_of 2 j) _ (small_number 2 j)
    (small_cons count _ g (small_cons e₀ _ h (small_app s _ l (small_zeros (504 - length s)))))

pub check_reads : (e₀ count left : ℕ) (s : Bytes) (b : ℕ) → b < left → e₀ < 256 → count < 256 → Small s
    → check_in (blocks_from left e₀ count 0 s) b ≡ check_of (take 508 (drop (block_at b) (blocks_from left e₀ count 0 s)))
unfolding check_in block_at u32_at u16_at check_of
check_reads e₀ count left s b h g l m =
    let t : Bytes = take 504 (drop (504 * b) s) in
    let x : Bytes = content e₀ count b t in
    let q : Bytes = blocks_from left e₀ count 0 s in
    let n : length x ≡ 508 = content_length e₀ count b t (take_most 504 (drop (504 * b) s)) in
    let most = weighed_small x 0 (content_small e₀ count b t g l (small_take 504 _ (small_drop (504 * b) s m))) in
    let most' : weighed 0 x ≤ 508 * ((0 + 508) * 255) = rw n at most in
    let r = four_reads (check_of x) (omega arith) in
    let c0 = ap (byte_at q) (let z : 512 * b + 508 ≡ 512 * b + (508 + 0) = omega arith in z) ∙ check_byte e₀ count left s b 0 h (omega arith) in
    let c1 = ap (byte_at q) (let z : 512 * b + 508 + 1 ≡ 512 * b + (508 + 1) = omega arith in z) ∙ check_byte e₀ count left s b 1 h (omega arith) in
    let c2 = ap (byte_at q) (let z : 512 * b + 508 + 2 ≡ 512 * b + (508 + 2) = omega arith in z) ∙ check_byte e₀ count left s b 2 h (omega arith) in
    let c3 = ap (byte_at q) (let z : 512 * b + 508 + 2 + 1 ≡ 512 * b + (508 + 3) = omega arith in z) ∙ check_byte e₀ count left s b 3 h (omega arith) in
    let f = ap check_of (blocks_content e₀ count left 0 s b h ∙ ap (λ (k : ℕ). content e₀ count k t) (let z : 0 + b ≡ b = omega arith in z)) in
    (λ i. c0 i + 256 * c1 i + 65536 * (c2 i + 256 * c3 i)) ∙ r ∙ sym f
