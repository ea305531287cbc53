-- A block written: head, records, check; and the records of a block as the bytes that `blocks_from` takes, filled up with zeros.
-- Assumes nothing.
use mathlib.Core.Path.{◌≡◌, refl, sym, ap, ◌∙◌}
use mathlib.Core.List.{List, [], ◌∷◌, ◌++◌}
use Prim.Native.Nat.{ℕ, zero, suc, ◌+◌, ◌-◌, ◌*◌, ◌/◌, ◌≤◌, ◌<◌}
use native.Mathlib.Omega.{arith}
use lib.ListN.{length, set, take, drop, replicate, length-set}
use Rattle.rules.specs.Bytes.{Bytes, write_at, bytes_of}
use Rattle.rules.specs.Format.{check_of}
use Rattle.rules.specs.declared.Node.{Node}
use Rattle.written.specs.Table.{row_bytes, rows_bytes, block_of, blocks_from, blocks_for}
use Rattle.written.proofs.ListLaws.{app_length, app_assoc, two, drops, drop_app, drop_none, take_most}
use Rattle.written.proofs.Rows.{row_length}
use Rattle.written.proofs.Blocks.{block_length}
use Rattle.tidy.specs.Record.{zero_row, row_from, rows_from}
use Rattle.tidy.proofs.RowLaws.{write_more}

pub none_after : (l : Bytes) → l ++ [] ≡ l
none_after [] = refl
none_after (x ∷ l) = ap (λ (m : Bytes). x ∷ m) (none_after l)

-- What was written stands there.
shift : (c : Bytes) (y : ℕ) (room : Bytes) (at : ℕ) → write_at (y ∷ room) (suc at) c ≡ y ∷ write_at room at c
unfolding write_at
shift [] y room at = refl
shift (x ∷ c) y room at = shift c y (set room at x) (suc at)

pub in_front : (c room : Bytes) → length c ≤ length room → take (length c) (write_at room 0 c) ≡ c
unfolding write_at
in_front [] room h = refl
in_front (x ∷ c) [] h = absurd (omega arith)
in_front (x ∷ c) (y ∷ room) h = ap (take (suc (length c))) (shift c x room 0) ∙ ap (λ (l : Bytes). x ∷ l) (in_front c room (omega arith))

pub written_there : (c room : Bytes) (at : ℕ) → at + length c ≤ length room → take (length c) (drop at (write_at room at c)) ≡ c
written_there c room zero h = in_front c room (omega arith)
written_there c [] (suc at) h = absurd (omega arith)
written_there c (y ∷ room) (suc at) h =
    ap (λ (l : Bytes). take (length c) (drop (suc at) l)) (shift c y room at) ∙ written_there c room at (omega arith)

-- Bytes of so many records.
rows_long : (left : ℕ) (ns : List Node) (k : ℕ) → length (rows_from left ns k) ≡ 12 * left
unfolding rows_from
rows_long zero ns k = refl
rows_long (suc left) ns k = omega (arith, app_length (row_bytes (row_from ns k)) (rows_from left ns (suc k)), row_length (row_from ns k), rows_long left ns (suc k))

-- A block: head, records, check.
module _ (room : Bytes) (j blocks₀ e₀ : ℕ) (ns : List Node) (fits : 512 * j + 512 ≤ length room) where
  abbrev at : ℕ
  at = 512 * j

  abbrev s : Bytes
  s = rows_from 42 ns (42 * j)

  abbrev content : Bytes
  content = bytes_of 2 j ++ (blocks₀ ∷ e₀ ∷ s)

  content_long : length content ≡ 508
  content_long = omega (arith, app_length (bytes_of 2 j) (blocks₀ ∷ e₀ ∷ s), two j, rows_long 42 ns (42 * j))

  block_is : block_of e₀ blocks₀ j s ≡ content ++ bytes_of 4 (check_of content)
  unfolding block_of
  block_is =
      let z : s ++ replicate (504 - length s) 0 ≡ s
      = ap (λ (n : ℕ). s ++ replicate n 0) (let y : 504 - length s ≡ 0 = omega (arith, rows_long 42 ns (42 * j)) in y) ∙ none_after s in
      ap (λ (t : Bytes). (bytes_of 2 j ++ (blocks₀ ∷ e₀ ∷ t)) ++ bytes_of 4 (check_of (bytes_of 2 j ++ (blocks₀ ∷ e₀ ∷ t)))) z

  pub block_written : (r₁ r₃ r₄ : Bytes) (sum : ℕ) → r₁ ≡ write_at room at (bytes_of 2 j) → r₃ ≡ write_at (set (set r₁ (at + 2) blocks₀) (at + 3) e₀) (at + 4) s
      → sum ≡ check_of (take 508 (drop at r₃)) → r₄ ≡ write_at r₃ (at + 508) (bytes_of 4 sum) → r₄ ≡ write_at room at (block_of e₀ blocks₀ j s)
  unfolding write_at
  block_written r₁ r₃ r₄ sum e₁ e₃ es e₄ =
      let z₃ : at + 3 ≡ suc (at + 2) = omega arith in
      let z₄ : at + 4 ≡ suc (suc (at + 2)) = omega arith in
      let q₃ : r₃ ≡ write_at room at content
      = e₃ ∙ (λ i. write_at (set (set (e₁ i) (at + 2) blocks₀) (z₃ i) e₀) (z₄ i) s)
      ∙ write_more (bytes_of 2 j) (blocks₀ ∷ e₀ ∷ s) room at (at + 2) (omega (arith, two j)) in
      let c : take 508 (drop at r₃) ≡ content
      = (λ i. take (sym content_long i) (drop at (q₃ i))) ∙ written_there content room at (omega (arith, content_long)) in
      e₄ ∙ (λ i. write_at (q₃ i) (at + 508) (bytes_of 4 ((es ∙ ap check_of c) i)))
      ∙ write_more content (bytes_of 4 (check_of content)) room at (at + 508) (omega (arith, content_long))
      ∙ ap (write_at room at) (sym block_is)

-- So many records, filled up with zeros, are so many bytes of all records.
abbrev filled : ℕ → Bytes → Bytes
filled m x = take m x ++ replicate (m - length (take m x)) 0

padded : ℕ → List Node → Bytes
padded zero ms = []
padded (suc m) [] = row_bytes zero_row ++ padded m []
padded (suc m) (n ∷ ms) = row_bytes n ++ padded m ms

take_none : (k : ℕ) → take {A = ℕ} k [] ≡ []
take_none zero = refl
take_none (suc k) = refl

take_past : (xs ys : Bytes) (k j : ℕ) → j ≡ length xs + k → take j (xs ++ ys) ≡ xs ++ take k ys
take_past [] ys k j e = ap (λ (m : ℕ). take m ys) (let z : j ≡ k = omega arith in z)
take_past (x ∷ xs) ys k j e =
    ap (λ (m : ℕ). take m (x ∷ (xs ++ ys))) (let z : j ≡ suc (length xs + k) = omega arith in z)
    ∙ ap (λ (l : Bytes). x ∷ l) (take_past xs ys k (length xs + k) refl)

zeros_row : (k : ℕ) → row_bytes zero_row ++ replicate k 0 ≡ replicate (12 + k) 0
unfolding row_bytes zero_row bytes_of
zeros_row k = ap (λ (n : ℕ). replicate n 0) (let z : suc (suc (suc (suc (suc (suc (suc (suc (suc (suc (suc (suc k))))))))))) ≡ 12 + k = omega arith in z)

filled_none : (m : ℕ) → filled m [] ≡ replicate m 0
filled_none m = ap (λ (l : Bytes). l ++ replicate (m - length l) 0) (take_none m) ∙ ap (λ (k : ℕ). replicate k 0) (let z : m - 0 ≡ m = omega arith in z)

padded_is : (m : ℕ) (ms : List Node) → padded m ms ≡ filled (12 * m) (rows_bytes ms)
unfolding padded rows_bytes
padded_is zero ms = refl
padded_is (suc m) [] =
    ap (λ (l : Bytes). row_bytes zero_row ++ l) (padded_is m [] ∙ filled_none (12 * m)) ∙ zeros_row (12 * m)
    ∙ ap (λ (n : ℕ). replicate n 0) (let z : 12 + 12 * m ≡ 12 * suc m = omega arith in z) ∙ sym (filled_none (12 * suc m))
padded_is (suc m) (n ∷ ms) =
    let x : Bytes = row_bytes n in
    let t : Bytes = take (12 * m) (rows_bytes ms) in
    let e : take (12 * suc m) (x ++ rows_bytes ms) ≡ x ++ t = take_past x (rows_bytes ms) (12 * m) (12 * suc m) (omega (arith, row_length n)) in
    let z : 12 * m - length t ≡ 12 * suc m - length (x ++ t) = omega (arith, app_length x t, row_length n) in
    ap (λ (l : Bytes). x ++ l) (padded_is m ms)
    ∙ sym (app_assoc x t (replicate (12 * m - length t) 0))
    ∙ ap (λ (k : ℕ). (x ++ t) ++ replicate k 0) z
    ∙ ap (λ (l : Bytes). l ++ replicate (12 * suc m - length l) 0) (sym e)

drop_nothing : (k : ℕ) → drop {A = Node} k [] ≡ []
drop_nothing zero = refl
drop_nothing (suc k) = refl

padded_next : (m : ℕ) (ns : List Node) (k : ℕ) → row_bytes (row_from ns k) ++ padded m (drop (suc k) ns) ≡ padded (suc m) (drop k ns)
unfolding padded row_from
padded_next m [] k = (λ i. row_bytes zero_row ++ padded m (drop_nothing (suc k) i)) ∙ ap (padded (suc m)) (sym (drop_nothing k))
padded_next m (n ∷ ns) zero = refl
padded_next m (n ∷ ns) (suc k) = padded_next m ns k

rows_padded : (m : ℕ) (ns : List Node) (k : ℕ) → rows_from m ns k ≡ padded m (drop k ns)
unfolding rows_from padded
rows_padded zero ns k = refl
rows_padded (suc m) ns k = ap (λ (l : Bytes). row_bytes (row_from ns k) ++ l) (rows_padded m ns (suc k)) ∙ padded_next m ns k

drop_rows : (ns : List Node) (k : ℕ) → rows_bytes (drop k ns) ≡ drop (12 * k) (rows_bytes ns)
unfolding rows_bytes
drop_rows [] k = ap rows_bytes (drop_nothing k) ∙ sym (drop_none (12 * k))
drop_rows (n ∷ ns) zero = refl
drop_rows (n ∷ ns) (suc k) =
    drop_rows ns k ∙ sym (ap (drop (12 * k)) (drop_app (row_bytes n) (rows_bytes ns)))
    ∙ drops (12 * k) (length (row_bytes n)) (row_bytes n ++ rows_bytes ns)
    ∙ ap (λ (j : ℕ). drop j (row_bytes n ++ rows_bytes ns)) (let z : length (row_bytes n) + 12 * k ≡ 12 * suc k = omega (arith, row_length n) in z)

-- A block's records by their number are those that `blocks_from` takes.
block_taken : (e₀ count j : ℕ) (ns : List Node) → block_of e₀ count j (rows_from 42 ns (42 * j)) ≡ block_of e₀ count j (take 504 (drop (504 * j) (rows_bytes ns)))
unfolding block_of
block_taken e₀ count j ns =
    let s : Bytes = rows_from 42 ns (42 * j) in
    let z : s ++ replicate (504 - length s) 0 ≡ filled 504 (drop (504 * j) (rows_bytes ns))
    = ap (λ (n : ℕ). s ++ replicate n 0) (let y : 504 - length s ≡ 0 = omega (arith, rows_long 42 ns (42 * j)) in y) ∙ none_after s
    ∙ rows_padded 42 ns (42 * j) ∙ padded_is 42 (drop (42 * j) ns) ∙ ap (filled 504) (drop_rows ns (42 * j))
    ∙ ap (λ (k : ℕ). filled 504 (drop k (rows_bytes ns))) (let y : 12 * (42 * j) ≡ 504 * j = omega arith in y) in
    ap (λ (t : Bytes). (bytes_of 2 j ++ (count ∷ e₀ ∷ t)) ++ bytes_of 4 (check_of (bytes_of 2 j ++ (count ∷ e₀ ∷ t)))) z

-- One block more.
blocks_suc : (left e₀ count j : ℕ) (s : Bytes) → blocks_from (suc left) e₀ count j s ≡ block_of e₀ count j (take 504 s) ++ blocks_from left e₀ count (suc j) (drop 504 s)
unfolding blocks_from
blocks_suc left e₀ count j s = refl

pub blocks_step : (room room₁ : Bytes) (e₀ count j : ℕ) (ns : List Node) → j < count → room₁ ≡ write_at room (512 * j) (block_of e₀ count j (rows_from 42 ns (42 * j)))
    → write_at room₁ (512 * (j + 1)) (blocks_from (count - (j + 1)) e₀ count (j + 1) (drop (504 * (j + 1)) (rows_bytes ns)))
    ≡ write_at room (512 * j) (blocks_from (count - j) e₀ count j (drop (504 * j) (rows_bytes ns)))
blocks_step room room₁ e₀ count j ns h e =
    let S : Bytes = rows_bytes ns in
    let b : Bytes = block_of e₀ count j (take 504 (drop (504 * j) S)) in
    let rest : Bytes = blocks_from (count - (j + 1)) e₀ count (j + 1) (drop (504 * (j + 1)) S) in
    let z : suc j ≡ j + 1 = omega arith in
    let d : drop 504 (drop (504 * j) S) ≡ drop (504 * (j + 1)) S
    = drops 504 (504 * j) S ∙ ap (λ (k : ℕ). drop k S) (let y : 504 * j + 504 ≡ 504 * (j + 1) = omega arith in y) in
    ap (λ (l : Bytes). write_at l (512 * (j + 1)) rest) (e ∙ ap (write_at room (512 * j)) (block_taken e₀ count j ns))
    ∙ write_more b rest room (512 * j) (512 * (j + 1)) (omega (arith, block_length e₀ count j (take 504 (drop (504 * j) S)) (take_most 504 (drop (504 * j) S))))
    ∙ (λ i. write_at room (512 * j) (b ++ blocks_from (count - (j + 1)) e₀ count (sym z i) (sym d i)))
    ∙ sym (ap (λ (m : ℕ). write_at room (512 * j) (blocks_from m e₀ count j (drop (504 * j) S))) (let y : count - j ≡ suc (count - (j + 1)) = omega arith in y)
    ∙ ap (write_at room (512 * j)) (blocks_suc (count - (j + 1)) e₀ count j (drop (504 * j) S)))

pub blocks_start : (room : Bytes) (e₀ count : ℕ) (ns : List Node)
    → write_at room (512 * 0) (blocks_from (count - 0) e₀ count 0 (drop (504 * 0) (rows_bytes ns))) ≡ write_at room 0 (blocks_from count e₀ count 0 (rows_bytes ns))
blocks_start room e₀ count ns = ap (λ (m : ℕ). write_at room 0 (blocks_from m e₀ count 0 (rows_bytes ns))) (let z : count - 0 ≡ count = omega arith in z)

pub blocks_end : (room : Bytes) (e₀ count j : ℕ) (s : Bytes) → count ≤ j → write_at room (512 * j) (blocks_from (count - j) e₀ count j s) ≡ room
unfolding blocks_from write_at
blocks_end room e₀ count j s h = ap (λ (m : ℕ). write_at room (512 * j) (blocks_from m e₀ count j s)) (let z : count - j ≡ 0 = omega arith in z)
