-- A form's row is put behind the others: what is so far then has it.
-- Assumes nothing.
use mathlib.Core.Path.{◌≡◌, refl, sym, ap, ◌∙◌}
use mathlib.Core.List.{List, [], ◌∷◌, ◌++◌}
use Prim.Native.Nat.{ℕ, suc, ◌+◌, ◌*◌, ◌%◌, ◌≤◌, ◌<◌}
use native.Mathlib.Omega.{arith}
use lib.ListN.{length, get_or, set, length-set}
use lib.Seq.{get_or-set_same, get_or-set_other}
use Rattle.rules.specs.Bytes.{Bytes, byte_at, write_at}
use Rattle.rules.proofs.Cells.{length_write_at, before_write_at, beyond_write_at, in_write_at}
use Rattle.texts.specs.Tokens.{from}
use Rattle.texts.specs.Rows.{Row, got}
use Rattle.texts.specs.Reader.{ends}
use Rattle.labels.specs.Noted.{named_by}
use Rattle.phrases.specs.Gave.{with_names, number}
use Rattle.reader.specs.Held.{entry, row_at, rows_in, places_in, past_in, sofar_in, gave_in, numbers_in, names_put, appended}
use Rattle.reader.proofs.RowLaws.{numbers_count, names_count}
use Rattle.reader.proofs.SofarLaws.{rows_same, places_same, rows_many}

-- The row of thirteen numbers.
unfoldable pub row_of : Bytes → ℕ → ℕ → ℕ → ℕ → ℕ → ℕ → ℕ → ℕ → ℕ → ℕ → ℕ → ℕ → Row
row_of text k ty a b c word p q r s u v =
    record { kind = k; type = ty; a = a; b = b; c = c; word = word; binds = named_by text p q; label = named_by text r s; uses = named_by text u v }

module _ (text : Bytes) (xs : List ℕ) (n p q r s k ty a b c word u v place : ℕ) where
  abbrev names₁ : List ℕ
  names₁ = p ∷ q ∷ r ∷ s ∷ []

  abbrev numbers₁ : List ℕ
  numbers₁ = k ∷ ty ∷ a ∷ b ∷ c ∷ word ∷ []

  abbrev rest₁ : List ℕ
  rest₁ = u ∷ v ∷ place ∷ []

  abbrev by : ℕ → ℕ → List ℕ
  by m o = set (set (write_at (write_at (write_at xs (13 * n + 20) names₁) (13 * m + 14) numbers₁) (13 * o + 24) rest₁) 1 (o + 1)) 3 m

  abbrev laid : List ℕ
  laid = by n n

  module _ (long : length xs ≡ 13118) (room : n < 1008) where
    long_names : length (write_at xs (13 * n + 20) names₁) ≡ 13118
    long_names = length_write_at names₁ xs (13 * n + 20) ∙ long

    long_numbers : length (write_at (write_at xs (13 * n + 20) names₁) (13 * n + 14) numbers₁) ≡ 13118
    long_numbers = length_write_at numbers₁ (write_at xs (13 * n + 20) names₁) (13 * n + 14) ∙ long_names

    long_rest : length (write_at (write_at (write_at xs (13 * n + 20) names₁) (13 * n + 14) numbers₁) (13 * n + 24) rest₁) ≡ 13118
    long_rest = length_write_at rest₁ (write_at (write_at xs (13 * n + 20) names₁) (13 * n + 14) numbers₁) (13 * n + 24) ∙ long_numbers

    pub laid_long : length laid ≡ 13118
    laid_long =
        length-set (set (write_at (write_at (write_at xs (13 * n + 20) names₁) (13 * n + 14) numbers₁) (13 * n + 24) rest₁) 1 (n + 1)) 3 n
        ∙ length-set (write_at (write_at (write_at xs (13 * n + 20) names₁) (13 * n + 14) numbers₁) (13 * n + 24) rest₁) 1 (n + 1) ∙ long_rest

    -- The notes are put in front of the rows.
    past_notes : (i : ℕ) → (i ≡ 1 → ⊥) → (i ≡ 3 → ⊥) → get_or laid i 0 ≡ get_or (write_at (write_at (write_at xs (13 * n + 20) names₁) (13 * n + 14) numbers₁) (13 * n + 24) rest₁) i 0
    past_notes i d e =
        get_or-set_other (set (write_at (write_at (write_at xs (13 * n + 20) names₁) (13 * n + 14) numbers₁) (13 * n + 24) rest₁) 1 (n + 1)) 3 i n 0 e
        ∙ get_or-set_other (write_at (write_at (write_at xs (13 * n + 20) names₁) (13 * n + 14) numbers₁) (13 * n + 24) rest₁) 1 i (n + 1) 0 d

    pub laid_below : (i : ℕ) → i < 13 * n + 14 → (i ≡ 1 → ⊥) → (i ≡ 3 → ⊥) → get_or laid i 0 ≡ get_or xs i 0
    unfolding byte_at
    laid_below i l d e =
        past_notes i d e
        ∙ before_write_at rest₁ (write_at (write_at xs (13 * n + 20) names₁) (13 * n + 14) numbers₁) (13 * n + 24) i (omega (arith, l))
        ∙ before_write_at numbers₁ (write_at xs (13 * n + 20) names₁) (13 * n + 14) i l
        ∙ before_write_at names₁ xs (13 * n + 20) i (omega (arith, l))

    pub laid_count : get_or laid 1 0 ≡ n + 1
    laid_count =
        get_or-set_other (set (write_at (write_at (write_at xs (13 * n + 20) names₁) (13 * n + 14) numbers₁) (13 * n + 24) rest₁) 1 (n + 1)) 3 1 n 0 (λ e. absurd (omega (arith, e)))
        ∙ get_or-set_same (write_at (write_at (write_at xs (13 * n + 20) names₁) (13 * n + 14) numbers₁) (13 * n + 24) rest₁) 1 (n + 1) 0 (omega (arith, long_rest))

    pub laid_number : get_or laid 3 0 ≡ n
    laid_number =
        get_or-set_same (set (write_at (write_at (write_at xs (13 * n + 20) names₁) (13 * n + 14) numbers₁) (13 * n + 24) rest₁) 1 (n + 1)) 3 n 0
        (omega (arith, long_rest, length-set (write_at (write_at (write_at xs (13 * n + 20) names₁) (13 * n + 14) numbers₁) (13 * n + 24) rest₁) 1 (n + 1)))

    -- What was written is there.
    numbers_there : (j : ℕ) → j < 6 → entry laid n j ≡ get_or numbers₁ j 0
    unfolding byte_at entry
    numbers_there j l =
        let six : length numbers₁ ≡ 6 = refl in
        past_notes (13 * n + 14 + j) (λ e. absurd (omega (arith, e))) (λ e. absurd (omega (arith, e)))
        ∙ before_write_at rest₁ (write_at (write_at xs (13 * n + 20) names₁) (13 * n + 14) numbers₁) (13 * n + 24) (13 * n + 14 + j) (omega (arith, l))
        ∙ in_write_at numbers₁ (write_at xs (13 * n + 20) names₁) (13 * n + 14) j (omega (arith, l, six)) (omega (arith, six, long_names, room))

    names_there : (j : ℕ) → j < 4 → entry laid n (6 + j) ≡ get_or names₁ j 0
    unfolding byte_at entry
    names_there j l =
        let six : length numbers₁ ≡ 6 = refl in
        let four : length names₁ ≡ 4 = refl in
        let e : 13 * n + 14 + (6 + j) ≡ 13 * n + 20 + j = omega arith in
        ap (λ (i : ℕ). get_or laid i 0) e
        ∙ past_notes (13 * n + 20 + j) (λ e. absurd (omega (arith, e))) (λ e. absurd (omega (arith, e)))
        ∙ before_write_at rest₁ (write_at (write_at xs (13 * n + 20) names₁) (13 * n + 14) numbers₁) (13 * n + 24) (13 * n + 20 + j) (omega (arith, l))
        ∙ beyond_write_at numbers₁ (write_at xs (13 * n + 20) names₁) (13 * n + 14) (13 * n + 20 + j) (omega (arith, six))
        ∙ in_write_at names₁ xs (13 * n + 20) j (omega (arith, l, four)) (omega (arith, four, long, room))

    rest_there : (j : ℕ) → j < 3 → entry laid n (10 + j) ≡ get_or rest₁ j 0
    unfolding byte_at entry
    rest_there j l =
        let three : length rest₁ ≡ 3 = refl in
        let e : 13 * n + 14 + (10 + j) ≡ 13 * n + 24 + j = omega arith in
        ap (λ (i : ℕ). get_or laid i 0) e
        ∙ past_notes (13 * n + 24 + j) (λ e. absurd (omega (arith, e))) (λ e. absurd (omega (arith, e)))
        ∙ in_write_at rest₁ (write_at (write_at xs (13 * n + 20) names₁) (13 * n + 14) numbers₁) (13 * n + 24) j (omega (arith, l, three)) (omega (arith, three, long_numbers, room))

    below_rows : (i : ℕ) → 14 ≤ i → i < 13 * n + 14 → get_or laid i 0 ≡ get_or xs i 0
    below_rows i l m = laid_below i m (λ e. absurd (omega (arith, e, l))) (λ e. absurd (omega (arith, e, l)))

    module _ (kind_fits : k < 256) (type-fits : ty < 256) (word_fits : word < 4294967296) where
      the_row : row_at text laid n ≡ row_of text k ty a b c word p q r s u v
      unfolding row_at row_of
      the_row =
          let kind-stays : k % 256 ≡ k = omega (arith, kind_fits) in
          let type-stays : ty % 256 ≡ ty = omega (arith, type-fits) in
          let word-stays : word % 4294967296 ≡ word = omega (arith, word_fits) in
          λ i. record {
            kind = (ap (λ (m : ℕ). m % 256) (numbers_there 0 (omega arith)) ∙ kind-stays) i;
            type = (ap (λ (m : ℕ). m % 256) (numbers_there 1 (omega arith)) ∙ type-stays) i;
            a = numbers_there 2 (omega arith) i;
            b = numbers_there 3 (omega arith) i;
            c = numbers_there 4 (omega arith) i;
            word = (ap (λ (m : ℕ). m % 4294967296) (numbers_there 5 (omega arith)) ∙ word-stays) i;
            binds = named_by text (names_there 0 (omega arith) i) (names_there 1 (omega arith) i);
            label = named_by text (names_there 2 (omega arith) i) (names_there 3 (omega arith) i);
            uses = named_by text (rest_there 0 (omega arith) i) (rest_there 1 (omega arith) i);
          }

      one_more : n + 1 ≡ suc n
      one_more = omega arith

      the_rows : rows_in text laid (get_or laid 1 0) ≡ rows_in text xs n ++ row_of text k ty a b c word p q r s u v ∷ []
      unfolding rows_in
      the_rows = ap (rows_in text laid) (laid_count ∙ one_more) ∙ (λ i. rows_same text laid xs n below_rows i ++ the_row i ∷ [])

      the_places : places_in laid (get_or laid 1 0) ≡ places_in xs n ++ place ∷ []
      unfolding places_in
      the_places = ap (places_in laid) (laid_count ∙ one_more) ∙ (λ i. places_same laid xs n below_rows i ++ rest_there 2 (omega arith) i ∷ [])

      the_past : (is : n ≡ get_or xs 1 0) → past_in text laid
          ≡ record { begun = get_or xs 0 0; rows = rows_in text xs (get_or xs 1 0) ++ row_of text k ty a b c word p q r s u v ∷ []; places = places_in xs (get_or xs 1 0) ++ place ∷ [] }
      unfolding past_in
      the_past is =
          λ i. record {
            begun = laid_below 0 (omega arith) (λ e. absurd (omega (arith, e))) (λ e. absurd (omega (arith, e))) i;
            rows = (the_rows ∙ ap (λ (m : ℕ). rows_in text xs m ++ row_of text k ty a b c word p q r s u v ∷ []) is) i;
            places = (the_places ∙ ap (λ (m : ℕ). places_in xs m ++ place ∷ []) is) i;
          }

      -- The node ends.
      pub laid_ends : (is : n ≡ get_or xs 1 0) (names : List ℕ)
          → gave_in number text laid names 1 ≡ ends place (row_of text k ty a b c word p q r s u v) (from text (get_or xs 2 0)) (sofar_in text xs names)
      unfolding gave_in ends sofar_in past_in with_names
      laid_ends is names =
          λ i. got ((laid_number ∙ is ∙ sym (rows_many text xs (get_or xs 1 0))) i)
          (from text (laid_below 2 (omega arith) (λ e. absurd (omega (arith, e))) (λ e. absurd (omega (arith, e))) i))
          (with_names (the_past is i) text names)

-- So does what a form puts.
module _ (xs : List ℕ) (p q r s k ty a b c word u v place : ℕ) where
  pub put_laid : set (appended (numbers_in (names_put xs p q r s) k ty a b c word) u v place) 3 (get_or (names_put xs p q r s) 1 0)
      ≡ set (set (write_at (write_at (write_at xs (13 * get_or xs 1 0 + 20) (p ∷ q ∷ r ∷ s ∷ [])) (13 * get_or xs 1 0 + 14) (k ∷ ty ∷ a ∷ b ∷ c ∷ word ∷ [])) (13 * get_or xs 1 0 + 24) (u ∷ v ∷ place ∷ [])) 1 (get_or xs 1 0 + 1)) 3 (get_or xs 1 0)
  unfolding appended numbers_in names_put
  put_laid =
      let e : get_or (names_put xs p q r s) 1 0 ≡ get_or xs 1 0 = names_count xs p q r s in
      let f : get_or (numbers_in (names_put xs p q r s) k ty a b c word) 1 0 ≡ get_or xs 1 0
      = numbers_count (names_put xs p q r s) k ty a b c word ∙ e in
      λ i. set (set (write_at (write_at (write_at xs (13 * get_or xs 1 0 + 20) (p ∷ q ∷ r ∷ s ∷ [])) (13 * e i + 14) (k ∷ ty ∷ a ∷ b ∷ c ∷ word ∷ [])) (13 * f i + 24) (u ∷ v ∷ place ∷ [])) 1 (f i + 1)) 3 (e i)
