-- Rows written into the scratch, and the tests on fields.
-- Assumes nothing.
use mathlib.Core.Path.{◌≡◌, refl, sym, ap, subst, ◌∙◌}
use mathlib.Core.Bool.{false}
use mathlib.Core.List.{List, [], ◌∷◌}
use Prim.Native.Nat.{ℕ, suc, ◌+◌, ◌*◌, ◌≤◌, ◌<◌}
use native.Mathlib.Omega.{arith}
use lib.ListN.{length, get_or, set}
use borrow.Author.Tests.{lt-ltb, le-ltb, eq-eqb, ne_eqb}
use Rattle.rules.specs.Bytes.{Bytes, byte_at, write_at}
use Rattle.rules.proofs.Cells.{length_write_at, before_write_at}
use Rattle.texts.specs.Tokens.{token, from, part}
use Rattle.texts.specs.Spelled.{same}
use Rattle.texts.specs.Spelling.{close₀}
use Rattle.tokens.specs.Ahead.{Ahead}
use Rattle.std.specs.Prelude.{Option, Some, None}
use Rattle.tokens.specs.declared.Span.{Span}
use Rattle.phrases.proofs.StepLaws.{at_end, at_word}
use Rattle.texts.specs.declared.Unread.{Unread}
use Rattle.reader.specs.Held.{begun_in, numbers_in, names_put, appended, row_put, why_in, ends_list}

-- A node begins, or not.
module _ (xs : List ℕ) where
  pub begun_yes : get_or xs 0 0 < 1008 → set xs 0 (get_or xs 0 0 + 1) ≡ begun_in xs
  unfolding begun_in
  begun_yes l = rw (lt-ltb (get_or xs 0 0) 1008 l) refl

  pub begun_not : 1008 ≤ get_or xs 0 0 → xs ≡ begun_in xs
  unfolding begun_in
  begun_not l = rw (le-ltb (get_or xs 0 0) 1008 l) refl

-- Numbers stored one behind the other.
module _ (s : List ℕ) (i : ℕ) where
  one : i + 1 ≡ suc i
  one = omega arith

  two : i + 2 ≡ suc (suc i)
  two = omega arith

  three : i + 3 ≡ suc (suc (suc i))
  three = omega arith

  four : i + 4 ≡ suc (suc (suc (suc i)))
  four = omega arith

  five : i + 5 ≡ suc (suc (suc (suc (suc i))))
  five = omega arith

  pub stored_six : (a b c d e f : ℕ) → set (set (set (set (set (set s i a) (i + 1) b) (i + 2) c) (i + 3) d) (i + 4) e) (i + 5) f ≡ write_at s i (a ∷ b ∷ c ∷ d ∷ e ∷ f ∷ [])
  unfolding write_at
  stored_six a b c d e f = rw (one, two, three, four, five) refl

  pub stored_four : (a b c d : ℕ) → set (set (set (set s i a) (i + 1) b) (i + 2) c) (i + 3) d ≡ write_at s i (a ∷ b ∷ c ∷ d ∷ [])
  unfolding write_at
  stored_four a b c d = rw (one, two, three) refl

  pub stored_three : (a b c : ℕ) → set (set (set s i a) (i + 1) b) (i + 2) c ≡ write_at s i (a ∷ b ∷ c ∷ [])
  unfolding write_at
  stored_three a b c = rw (one, two) refl

-- What is stored from a row on leaves the count and the length.
module _ (xs : List ℕ) (kind ty a b c word : ℕ) where
  pub numbers_count : get_or (numbers_in xs kind ty a b c word) 1 0 ≡ get_or xs 1 0
  unfolding numbers_in byte_at
  numbers_count = before_write_at (kind ∷ ty ∷ a ∷ b ∷ c ∷ word ∷ []) xs (13 * get_or xs 1 0 + 14) 1 (omega arith)

  pub numbers_length : length (numbers_in xs kind ty a b c word) ≡ length xs
  unfolding numbers_in
  numbers_length = length_write_at (kind ∷ ty ∷ a ∷ b ∷ c ∷ word ∷ []) xs (13 * get_or xs 1 0 + 14)

module _ (xs : List ℕ) (p q r s : ℕ) where
  pub names_count : get_or (names_put xs p q r s) 1 0 ≡ get_or xs 1 0
  unfolding names_put byte_at
  names_count = before_write_at (p ∷ q ∷ r ∷ s ∷ []) xs (13 * get_or xs 1 0 + 20) 1 (omega arith)

  pub names_length : length (names_put xs p q r s) ≡ length xs
  unfolding names_put
  names_length = length_write_at (p ∷ q ∷ r ∷ s ∷ []) xs (13 * get_or xs 1 0 + 20)

joined_law : (xs : List ℕ) (i n kind ty a b c word p q r s u v z : ℕ)
    → set (write_at (write_at xs i (kind ∷ ty ∷ a ∷ b ∷ c ∷ word ∷ p ∷ q ∷ r ∷ s ∷ [])) (suc (suc (suc (suc (suc (suc (suc (suc (suc (suc i)))))))))) (u ∷ v ∷ z ∷ [])) 1 n
    ≡ set (write_at xs i (kind ∷ ty ∷ a ∷ b ∷ c ∷ word ∷ p ∷ q ∷ r ∷ s ∷ u ∷ v ∷ z ∷ [])) 1 n
unfolding write_at
joined_law xs i n kind ty a b c word p q r s u v z = refl

inner_join : (xs : List ℕ) (i : ℕ) (kind ty a b c word p q r s : ℕ)
    → write_at (write_at xs i (kind ∷ ty ∷ a ∷ b ∷ c ∷ word ∷ [])) (suc (suc (suc (suc (suc (suc i)))))) (p ∷ q ∷ r ∷ s ∷ []) ≡ write_at xs i (kind ∷ ty ∷ a ∷ b ∷ c ∷ word ∷ p ∷ q ∷ r ∷ s ∷ [])
unfolding write_at
inner_join xs i kind ty a b c word p q r s = refl

inner_law : (xs : List ℕ) (kind ty a b c word p q r s : ℕ) → 13 * get_or xs 1 0 + 20 ≡ suc (suc (suc (suc (suc (suc (13 * get_or xs 1 0 + 14))))))
    → names_put (numbers_in xs kind ty a b c word) p q r s ≡ write_at xs (13 * get_or xs 1 0 + 14) (kind ∷ ty ∷ a ∷ b ∷ c ∷ word ∷ p ∷ q ∷ r ∷ s ∷ [])
unfolding names_put numbers_in
inner_law xs kind ty a b c word p q r s e =
    ap (λ (n : ℕ). write_at (numbers_in xs kind ty a b c word) (13 * n + 20) (p ∷ q ∷ r ∷ s ∷ [])) (numbers_count xs kind ty a b c word)
    ∙ ap (λ (k : ℕ). write_at (numbers_in xs kind ty a b c word) k (p ∷ q ∷ r ∷ s ∷ [])) e
    ∙ inner_join xs (13 * get_or xs 1 0 + 14) kind ty a b c word p q r s

-- The three parts of a row are the row.
module _ (xs : List ℕ) (kind ty a b c word p q r s u v z : ℕ) where
  at_names : 13 * get_or xs 1 0 + 20 ≡ suc (suc (suc (suc (suc (suc (13 * get_or xs 1 0 + 14))))))
  at_names = omega arith

  at_rest : 13 * get_or xs 1 0 + 24 ≡ suc (suc (suc (suc (suc (suc (suc (suc (suc (suc (13 * get_or xs 1 0 + 14))))))))))
  at_rest = omega arith

  pub row_whole : appended (names_put (numbers_in xs kind ty a b c word) p q r s) u v z ≡ row_put xs kind ty a b c word p q r s u v z
  unfolding appended row_put
  row_whole =
      ap (λ (n : ℕ). set (write_at (names_put (numbers_in xs kind ty a b c word) p q r s) (13 * n + 24) (u ∷ v ∷ z ∷ [])) 1 (n + 1))
      (names_count (numbers_in xs kind ty a b c word) p q r s ∙ numbers_count xs kind ty a b c word)
      ∙ ap (λ (l : List ℕ). set (write_at l (13 * get_or xs 1 0 + 24) (u ∷ v ∷ z ∷ [])) 1 (get_or xs 1 0 + 1)) inner
      ∙ ap (λ (k : ℕ). set (write_at (write_at xs (13 * get_or xs 1 0 + 14) (kind ∷ ty ∷ a ∷ b ∷ c ∷ word ∷ p ∷ q ∷ r ∷ s ∷ [])) k (u ∷ v ∷ z ∷ [])) 1 (get_or xs 1 0 + 1)) at_rest
      ∙ refl_row
    where
      inner : names_put (numbers_in xs kind ty a b c word) p q r s ≡ write_at xs (13 * get_or xs 1 0 + 14) (kind ∷ ty ∷ a ∷ b ∷ c ∷ word ∷ p ∷ q ∷ r ∷ s ∷ [])
      inner = inner_law xs kind ty a b c word p q r s at_names

      refl_row : set (write_at (write_at xs (13 * get_or xs 1 0 + 14) (kind ∷ ty ∷ a ∷ b ∷ c ∷ word ∷ p ∷ q ∷ r ∷ s ∷ [])) (suc (suc (suc (suc (suc (suc (suc (suc (suc (suc (13 * get_or xs 1 0 + 14))))))))))) (u ∷ v ∷ z ∷ [])) 1 (get_or xs 1 0 + 1)
          ≡ set (write_at xs (13 * get_or xs 1 0 + 14) (kind ∷ ty ∷ a ∷ b ∷ c ∷ word ∷ p ∷ q ∷ r ∷ s ∷ u ∷ v ∷ z ∷ [])) 1 (get_or xs 1 0 + 1)
      refl_row = joined_law xs (13 * get_or xs 1 0 + 14) (get_or xs 1 0 + 1) kind ty a b c word p q r s u v z

-- Why a text is not read, by the scratch.
module _ (xs : List ℕ) where
  pub why_word : get_or xs 4 0 ≡ 0 → Unread.Word (get_or xs 5 0) ≡ why_in xs
  unfolding why_in
  why_word e = rw (eq-eqb (get_or xs 4 0) 0 e) refl

  pub why_name : (get_or xs 4 0 ≡ 0 → ⊥) → get_or xs 4 0 ≡ 1 → Unread.Name (get_or xs 5 0) ≡ why_in xs
  unfolding why_in
  why_name d e = rw (ne_eqb (get_or xs 4 0) 0 d, eq-eqb (get_or xs 4 0) 1 e) refl

  pub why_range : (get_or xs 4 0 ≡ 0 → ⊥) → (get_or xs 4 0 ≡ 1 → ⊥) → Unread.Range (get_or xs 5 0) ≡ why_in xs
  unfolding why_in
  why_range d e = rw (ne_eqb (get_or xs 4 0) 0 d, ne_eqb (get_or xs 4 0) 1 e) refl

-- A list ends before a closing parenthesis.
module _ (text : Bytes) (at : ℕ) (r : Option Span) (a : Ahead text at r) where
  pub list_none : r ≡ None → false ≡ ends_list (from text at)
  unfolding ends_list
  list_none e = rw (at_end text at r a e) refl

  pub list_some : (w : Span) → r ≡ Some w → same (part text w.first w.end) close₀ ≡ ends_list (from text at)
  unfolding ends_list token
  list_some w q = rw (at_word text at r a w q).3 refl

-- A row written in three parts.
module _ (xs xs₁ : List ℕ) (kind ty a b c word : ℕ) (e : xs₁ ≡ numbers_in xs kind ty a b c word) (long : length xs ≡ 13118) (room : get_or xs 1 0 < 1008) where
  pub after_numbers : (length xs₁ ≡ 13118) × (get_or xs₁ 1 0 < 1008)
  after_numbers = (
    ap length e ∙ numbers_length xs kind ty a b c word ∙ long,
    subst (λ (n : ℕ). n < 1008) (sym (ap (λ (l : List ℕ). get_or l 1 0) e ∙ numbers_count xs kind ty a b c word)) room,
  )

  module _ (xs₂ : List ℕ) (p q r s : ℕ) (f : xs₂ ≡ names_put xs₁ p q r s) where
    pub after_names : (length xs₂ ≡ 13118) × (get_or xs₂ 1 0 < 1008)
    after_names = (
      ap length f ∙ names_length xs₁ p q r s ∙ after_numbers.0,
      subst (λ (n : ℕ). n < 1008) (sym (ap (λ (l : List ℕ). get_or l 1 0) f ∙ names_count xs₁ p q r s)) after_numbers.1,
    )

    pub row_done : (n : ℕ) (xs₃ : List ℕ) (u v z : ℕ) → n ≡ get_or xs₂ 1 0 → xs₃ ≡ appended xs₂ u v z
        → (n ≡ get_or xs 1 0) × (xs₃ ≡ row_put xs kind ty a b c word p q r s u v z)
    row_done n xs₃ u v z g h = (
      g ∙ ap (λ (l : List ℕ). get_or l 1 0) f ∙ names_count xs₁ p q r s ∙ ap (λ (l : List ℕ). get_or l 1 0) e ∙ numbers_count xs kind ty a b c word,
      h ∙ ap (λ (l : List ℕ). appended l u v z) (f ∙ ap (λ (l : List ℕ). names_put l p q r s) e) ∙ row_whole xs kind ty a b c word p q r s u v z,
    )

pub append_stored : (s : List ℕ) (i n u v z : ℕ) → set (set (set (set s i u) (i + 1) v) (i + 2) z) 1 n ≡ set (write_at s i (u ∷ v ∷ z ∷ [])) 1 n
append_stored s i n u v z = ap (λ (l : List ℕ). set l 1 n) (stored_three s i u v z)
