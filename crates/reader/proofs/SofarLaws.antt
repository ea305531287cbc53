-- What is so far, as the scratch holds it, after a note is written or a row is put behind the others.
-- Assumes nothing.
use mathlib.Core.Path.{◌≡◌, refl, ap, ◌∙◌}
use mathlib.Core.List.{List, [], ◌∷◌, ◌++◌}
use Prim.Native.Nat.{ℕ, zero, suc, ◌+◌, ◌*◌, ◌%◌, ◌≤◌, ◌<◌}
use native.Mathlib.Omega.{arith}
use lib.ListN.{length, get_or, set, length-set}
use lib.Seq.{get_or-set_other}
use Rattle.rules.specs.Bytes.{Bytes}
use Rattle.texts.specs.Rows.{Row}
use Rattle.labels.specs.Noted.{named_by}
use Rattle.phrases.specs.Gave.{Past, with_names}
use Rattle.reader.specs.Held.{Same, entry, row_at, rows_in, places_in, past_in, sofar_in}

-- Rows of the same entries are the same rows.
row_same : (text : Bytes) (xs ys : List ℕ) (j : ℕ) → ((c : ℕ) → c < 13 → entry xs j c ≡ entry ys j c) → row_at text xs j ≡ row_at text ys j
unfolding row_at
row_same text xs ys j e =
    λ i. record {
      kind = e 0 (omega arith) i % 256;
      type = e 1 (omega arith) i % 256;
      a = e 2 (omega arith) i;
      b = e 3 (omega arith) i;
      c = e 4 (omega arith) i;
      word = e 5 (omega arith) i % 4294967296;
      binds = named_by text (e 6 (omega arith) i) (e 7 (omega arith) i);
      label = named_by text (e 8 (omega arith) i) (e 9 (omega arith) i);
      uses = named_by text (e 10 (omega arith) i) (e 11 (omega arith) i);
    }

entry_same : (xs ys : List ℕ) (n : ℕ) → ((i : ℕ) → 14 ≤ i → i < 13 * suc n + 14 → get_or xs i 0 ≡ get_or ys i 0) → (c : ℕ) → c < 13 → entry xs n c ≡ entry ys n c
unfolding entry
entry_same xs ys n e c l = e (13 * n + 14 + c) (omega arith) (omega arith)

pub rows_same : (text : Bytes) (xs ys : List ℕ) (n : ℕ) → ((i : ℕ) → 14 ≤ i → i < 13 * n + 14 → get_or xs i 0 ≡ get_or ys i 0) → rows_in text xs n ≡ rows_in text ys n
unfolding rows_in
rows_same text xs ys zero e = refl
rows_same text xs ys (suc n) e =
    λ i. rows_same text xs ys n (λ j l m. e j l (omega arith)) i ++ row_same text xs ys n (entry_same xs ys n e) i ∷ []

pub places_same : (xs ys : List ℕ) (n : ℕ) → ((i : ℕ) → 14 ≤ i → i < 13 * n + 14 → get_or xs i 0 ≡ get_or ys i 0) → places_in xs n ≡ places_in ys n
unfolding places_in
places_same xs ys zero e = refl
places_same xs ys (suc n) e = λ i. places_same xs ys n (λ j l m. e j l (omega arith)) i ++ entry_same xs ys n e 12 (omega arith) i ∷ []

-- As many rows as there are.
pub rows_many : (text : Bytes) (xs : List ℕ) (n : ℕ) → length (rows_in text xs n) ≡ n
unfolding rows_in
rows_many text xs zero = refl
rows_many text xs (suc n) = one_more (rows_in text xs n) (row_at text xs n) ∙ ap suc (rows_many text xs n)
  where
    one_more : (rs : List Row) (r : Row) → length (rs ++ r ∷ []) ≡ suc (length rs)
    one_more [] r = refl
    one_more (s ∷ rs) r = ap suc (one_more rs r)

-- A note changes no row and no count.
module _ (xs : List ℕ) (j v : ℕ) (low : 1 < j) (high : j < 14) where
  pub note_other : (i : ℕ) → (i ≡ j → ⊥) → get_or (set xs j v) i 0 ≡ get_or xs i 0
  note_other i d = get_or-set_other xs j i v 0 d

  note_rows : (i : ℕ) → 14 ≤ i → get_or (set xs j v) i 0 ≡ get_or xs i 0
  note_rows i l = note_other i (λ e. absurd (omega (arith, e)))

  pub note_begun : get_or (set xs j v) 0 0 ≡ get_or xs 0 0
  note_begun = note_other 0 (λ e. absurd (omega (arith, e)))

  pub note_count : get_or (set xs j v) 1 0 ≡ get_or xs 1 0
  note_count = note_other 1 (λ e. absurd (omega (arith, e)))

  note_past : (text : Bytes) → past_in text (set xs j v) ≡ past_in text xs
  unfolding past_in
  note_past text =
      λ i. record {
        begun = note_begun i;
        rows = (ap (rows_in text (set xs j v)) note_count ∙ rows_same text (set xs j v) xs (get_or xs 1 0) (λ k l m. note_rows k l)) i;
        places = (ap (places_in (set xs j v)) note_count ∙ places_same (set xs j v) xs (get_or xs 1 0) (λ k l m. note_rows k l)) i;
      }

  pub note_sofar : (text : Bytes) (names : List ℕ) → sofar_in text (set xs j v) names ≡ sofar_in text xs names
  unfolding sofar_in
  note_sofar text names = ap (λ (p : Past). with_names p text names) (note_past text)

  pub note_same : Same xs (set xs j v)
  note_same = record { long = length-set xs j v; begun = note_begun; rows = note_count }
