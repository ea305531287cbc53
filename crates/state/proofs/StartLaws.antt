-- The start state: zeros, the header over them, and then every cell put to start.
-- Assumes nothing.
use mathlib.Core.Path.{◌≡◌, refl, sym, ap, ◌∙◌}
use mathlib.Core.List.{List, [], ◌∷◌, ◌++◌, append-nil}
use Prim.Native.Nat.{ℕ, suc, ◌+◌, ◌-◌, ◌*◌, ◌/◌, ◌%◌, ◌≤◌}
use native.Mathlib.Omega.{arith}
use native.Mathlib.Nat.{add-mul-mod_self_left}
use lib.ListN.{length, set, drop, replicate, length-replicate, replicate-append-replicate}
use lib.Seq.{sets, sets-eq, drop_at, drop-length}
use Rattle.rules.specs.Bytes.{Bytes, bytes_of, write_at}
use Rattle.rules.specs.Layout.{nodes, cells, cell_at, checks_of, header_length, state_length, start_header}
use Rattle.rules.specs.Reset.{reset_s, start_state}
use Rattle.rules.specs.Tree.{signal_at, root}
use Rattle.rules.specs.Kinds.{is_signal}
use Rattle.rules.specs.Shaped.{NodeOf}
use Rattle.cells.specs.Indexed.{Indexed}
use Rattle.state.specs.Stated.{Stated}

-- Bytes written one after the other are a run of stores.
write_sets : (bs s : Bytes) (i : ℕ) → write_at s i bs ≡ sets s i bs
unfolding write_at
write_sets [] s i = refl
write_sets (b ∷ bs) s i = write_sets bs (set s i b) (suc i)

-- Over zeros from the first on they stand in front of the others.
pub write_front : (bs : Bytes) (n : ℕ) → write_at (replicate (length bs + n) 0) 0 bs ≡ bs ++ replicate n 0
write_front bs n =
    write_sets bs (replicate (length bs + n) 0) 0
    ∙ sets-eq bs (replicate (length bs + n) 0) 0 (omega (arith, length-replicate {A = ℕ} (length bs + n) 0))
    ∙ ap (λ (k : ℕ). bs ++ drop k (replicate (length bs + n) 0)) (let e : 0 + length bs ≡ length bs = omega arith in e)
    ∙ ap (λ (l : Bytes). bs ++ drop (length bs) l) (sym (replicate-append-replicate (length bs) n 0))
    ∙ ap (λ (l : Bytes). bs ++ l) (drop_at (replicate (length bs) 0) (replicate n 0) (length bs) (length-replicate (length bs) 0))

-- Two lists written one after the other.
pub write_both : (bs cs s : Bytes) (i : ℕ) → write_at s i (bs ++ cs) ≡ write_at (write_at s i bs) (i + length bs) cs
unfolding write_at
write_both [] cs s i = ap (λ (j : ℕ). write_at s j cs) (let e : i ≡ i + 0 = omega arith in e)
write_both (b ∷ bs) cs s i =
    write_both bs cs (set s i b) (suc i)
    ∙ ap (λ (j : ℕ). write_at (write_at (set s i b) (suc i) bs) j cs) (let e : suc i + length bs ≡ i + suc (length bs) = omega arith in e)

-- The time and the sum are the header; of the sum only 4 bytes are written.
-- What is left of a number's low bytes without the first of them.
low_two : (x : ℕ) → x % 65536 / 256 ≡ x / 256 % 256
low_two x =
    let z : ℕ = x % 256 + 256 * (x / 256 % 256) in
    let e : x ≡ z + 65536 * (x / 256 / 256) = omega arith in
    let g : z % 65536 ≡ z = omega arith in
    let h : x % 65536 ≡ z = ap (λ (k : ℕ). k % 65536) e ∙ add-mul-mod_self_left z 65536 (x / 256 / 256) ∙ g in
    omega (arith, h)

low_three : (x : ℕ) → x % 16777216 / 256 ≡ x / 256 % 65536
low_three x =
    let z : ℕ = x % 256 + 256 * (x / 256 % 65536) in
    let e : x ≡ z + 16777216 * (x / 256 / 65536) = omega arith in
    let g : z % 16777216 ≡ z = omega arith in
    let h : x % 16777216 ≡ z = ap (λ (k : ℕ). k % 16777216) e ∙ add-mul-mod_self_left z 16777216 (x / 256 / 65536) ∙ g in
    omega (arith, h)

low_four : (x : ℕ) → x % 4294967296 / 256 ≡ x / 256 % 16777216
low_four x =
    let z : ℕ = x % 256 + 256 * (x / 256 % 16777216) in
    let e : x ≡ z + 4294967296 * (x / 256 / 16777216) = omega arith in
    let g : z % 4294967296 ≡ z = omega arith in
    let h : x % 4294967296 ≡ z = ap (λ (k : ℕ). k % 4294967296) e ∙ add-mul-mod_self_left z 4294967296 (x / 256 / 16777216) ∙ g in
    omega (arith, h)

one_byte : (x : ℕ) → bytes_of 1 (x % 256) ≡ bytes_of 1 x
unfolding bytes_of
one_byte x = ap (λ (b : ℕ). b ∷ []) (let e : x % 256 % 256 ≡ x % 256 = omega arith in e)

two_bytes : (x : ℕ) → bytes_of 2 (x % 65536) ≡ bytes_of 2 x
unfolding bytes_of
two_bytes x =
    let e : x % 65536 % 256 ≡ x % 256 = omega arith in
    let f = low_two x in
    let g : bytes_of 1 (x % 65536 / 256) ≡ bytes_of 1 (x / 256) = ap (bytes_of 1) f ∙ one_byte (x / 256) in
    λ i. e i ∷ g i

three_bytes : (x : ℕ) → bytes_of 3 (x % 16777216) ≡ bytes_of 3 x
unfolding bytes_of
three_bytes x =
    let e : x % 16777216 % 256 ≡ x % 256 = omega arith in
    let f = low_three x in
    let g : bytes_of 2 (x % 16777216 / 256) ≡ bytes_of 2 (x / 256) = ap (bytes_of 2) f ∙ two_bytes (x / 256) in
    λ i. e i ∷ g i

four_bytes : (x : ℕ) → bytes_of 4 (x % 4294967296) ≡ bytes_of 4 x
unfolding bytes_of
four_bytes x =
    let e : x % 4294967296 % 256 ≡ x % 256 = omega arith in
    let f = low_four x in
    let g : bytes_of 3 (x % 4294967296 / 256) ≡ bytes_of 3 (x / 256) = ap (bytes_of 3) f ∙ three_bytes (x / 256) in
    λ i. e i ∷ g i

pub header_is : (p st : Bytes) {x : ℕ} → x ≡ checks_of p % 4294967296
    → write_at (write_at st 0 (bytes_of 4 4294967295)) 4 (bytes_of 4 x) ≡ write_at st 0 (start_header p)
unfolding start_header bytes_of
header_is p st {x} e =
    ap (λ (bs : Bytes). write_at (write_at st 0 (bytes_of 4 4294967295)) 4 bs) (ap (bytes_of 4) e ∙ four_bytes (checks_of p))
    ∙ ap (λ (j : ℕ). write_at (write_at st 0 (bytes_of 4 4294967295)) j (bytes_of 4 (checks_of p))) (let z : 4 ≡ 0 + length (bytes_of 4 4294967295) = refl in z)
    ∙ sym (write_both (bytes_of 4 4294967295) (bytes_of 4 (checks_of p)) st 0)

-- The header and the cells are the whole state.
whole : (p : Bytes) → state_length p ≡ length (start_header p) + 8 * cells p
unfolding state_length cell_at start_header bytes_of
whole p = refl

-- A state of the right length has room for the header.
pub headed : (p : Bytes) (size : ℕ) → size ≡ state_length p → header_length ≤ size
unfolding state_length cell_at
headed p size e = omega arith

-- The root, in a state of the right length.
pub rooted : (p : Bytes) (index : List ℕ) (size count : ℕ) → NodeOf is_signal p (nodes p - 1) → Indexed p index → count ≡ nodes p → size ≡ state_length p
    → Stated is_signal p index size (count - 1)
rooted p index size count w i c e = record { node = rw c w; indexed = i; enough = omega arith }

pub start_is : (p : Bytes) (size : ℕ) → size ≡ state_length p
    → reset_s (signal_at p (nodes p - 1)) (write_at (replicate size 0) 0 (start_header p)) ≡ start_state p
unfolding start_state root
start_is p size e =
    ap (λ (k : ℕ). reset_s (signal_at p (nodes p - 1)) (write_at (replicate k 0) 0 (start_header p))) (e ∙ whole p)
    ∙ ap (reset_s (signal_at p (nodes p - 1))) (write_front (start_header p) (8 * cells p))

-- A list that is filled to its end.
pub filled : (d st : Bytes) (k : ℕ) → k ≤ length d → length d ≤ k → st ≡ replicate k 0 ++ drop k d → st ≡ replicate (length d) 0
filled d st k h g e =
    e ∙ ap (λ (j : ℕ). replicate j 0 ++ drop j d) (let q : k ≡ length d = omega arith in q)
    ∙ ap (λ (l : Bytes). replicate (length d) 0 ++ l) (drop-length d)
    ∙ append-nil (replicate (length d) 0)
