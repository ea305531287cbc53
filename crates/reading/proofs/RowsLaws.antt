-- The reader's rows are those that the blocks are made of.
-- Assumes nothing.
use mathlib.Core.Path.{◌≡◌, refl, sym, ap, ap₂, ◌∙◌}
use mathlib.Core.List.{List, [], ◌∷◌, ◌++◌}
use Prim.Native.Nat.{ℕ, zero, suc, ◌+◌, ◌*◌, ◌%◌, ◌<◌}
use native.Mathlib.Omega.{arith}
use lib.ListN.{length, get_or}
use Rattle.rules.specs.Bytes.{Bytes}
use Rattle.texts.specs.Rows.{Row}
use Rattle.labels.specs.Noted.{named_by}
use Rattle.reader.specs.Held.{entry, row_at}
use Rattle.reader.specs.Held.{rows_in as rowsHeld, places_in as placesHeld}
use Rattle.sealing.specs.Scratch.{count_in, column_of, name_in, row_in, start_in, rows_of, starts_of, rows_in, starts_in}

-- A row.
module _ (text : Bytes) (s : List ℕ) (j : ℕ) where
  name_is : (k m : ℕ) → m ≡ k + 1 → named_by text (column_of s j k) (column_of s j m) ≡ name_in text s j k
  unfolding name_in
  name_is k m e = ap (λ (i : ℕ). named_by text (column_of s j k) (get_or s i 0)) (let z : 13 * j + 14 + m ≡ 13 * j + 14 + k + 1 = omega arith in z)

  row_is : row_at text s j ≡ row_in text s j
  unfolding row_at row_in entry
  row_is = λ i. record {
    kind = column_of s j 0 % 256;
    type = column_of s j 1 % 256;
    a = column_of s j 2;
    b = column_of s j 3;
    c = column_of s j 4;
    word = column_of s j 5 % 4294967296;
    binds = name_is 6 7 (omega arith) i;
    label = name_is 8 9 (omega arith) i;
    uses = name_is 10 11 (omega arith) i;
  }

-- One row more, behind the others.
rows_more : (text : Bytes) (s : List ℕ) (n j : ℕ) → rows_of text s (suc n) j ≡ rows_of text s n j ++ row_in text s (j + n) ∷ []
unfolding rows_of
rows_more text s zero j = ap (λ (m : ℕ). row_in text s m ∷ []) (let z : j ≡ j + 0 = omega arith in z)
rows_more text s (suc n) j =
    ap (λ (l : List Row). row_in text s j ∷ l) (rows_more text s n (j + 1)
    ∙ ap (λ (m : ℕ). rows_of text s n (j + 1) ++ row_in text s m ∷ []) (let z : (j + 1) + n ≡ j + suc n = omega arith in z))

starts_more : (s : List ℕ) (n j : ℕ) → starts_of s (suc n) j ≡ starts_of s n j ++ start_in s (j + n) ∷ []
unfolding starts_of
starts_more s zero j = ap (λ (m : ℕ). start_in s m ∷ []) (let z : j ≡ j + 0 = omega arith in z)
starts_more s (suc n) j =
    ap (λ (l : List ℕ). start_in s j ∷ l) (starts_more s n (j + 1)
    ∙ ap (λ (m : ℕ). starts_of s n (j + 1) ++ start_in s m ∷ []) (let z : (j + 1) + n ≡ j + suc n = omega arith in z))

held_rows : (text : Bytes) (s : List ℕ) (n : ℕ) → rowsHeld text s n ≡ rows_of text s n 0
unfolding rowsHeld rows_of
held_rows text s zero = refl
held_rows text s (suc n) =
    ap₂ (λ (l : List Row) (r : Row). l ++ r ∷ []) (held_rows text s n) (row_is text s n ∙ ap (row_in text s) (let z : n ≡ 0 + n = omega arith in z))
    ∙ sym (rows_more text s n 0)

held_starts : (s : List ℕ) (n : ℕ) → placesHeld s n ≡ starts_of s n 0
unfolding placesHeld starts_of start_in entry
held_starts s zero = refl
held_starts s (suc n) =
    ap₂ (λ (l : List ℕ) (r : ℕ). l ++ r ∷ []) (held_starts s n) (ap (λ (m : ℕ). start_in s m) (let z : n ≡ 0 + n = omega arith in z))
    ∙ sym (starts_more s n 0)

pub rows_held : (text : Bytes) (s : List ℕ) → rowsHeld text s (count_in s) ≡ rows_in text s
unfolding rows_in
rows_held text s = held_rows text s (count_in s)

pub starts_held : (s : List ℕ) → placesHeld s (count_in s) ≡ starts_in s
unfolding starts_in
starts_held s = held_starts s (count_in s)

-- Where the nodes begin, by number.
start_at : (s : List ℕ) (n j d k : ℕ) → k < n → get_or (starts_of s n j) k d ≡ start_in s (j + k)
unfolding starts_of
start_at s zero j d k h = absurd (omega arith)
start_at s (suc n) j d zero h = ap (start_in s) (let z : j ≡ j + 0 = omega arith in z)
start_at s (suc n) j d (suc k) h = start_at s n (j + 1) d k (omega arith) ∙ ap (start_in s) (let z : (j + 1) + k ≡ j + suc k = omega arith in z)

starts_long : (s : List ℕ) (n j : ℕ) → length (starts_of s n j) ≡ n
unfolding starts_of
starts_long s zero j = refl
starts_long s (suc n) j = ap suc (starts_long s n (j + 1))

pub starts_count : (s : List ℕ) → length (starts_in s) ≡ count_in s
unfolding starts_in
starts_count s = starts_long s (count_in s) 0

pub start_is : (s : List ℕ) (d k : ℕ) → k < count_in s → get_or (starts_in s) k d ≡ get_or s (13 * k + 26) 0
unfolding starts_in start_in
start_is s d k h = start_at s (count_in s) 0 d k h ∙ ap (λ (m : ℕ). get_or s m 0) (let z : 13 * (0 + k) + 14 + 12 ≡ 13 * k + 26 = omega arith in z)
