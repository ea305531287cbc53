-- The list of the form's words, and which of them a word is.
-- Assumes nothing.
use Rattle.std.specs.Prelude.{Option, Some, None, ℕ}
use mathlib.Core.Path.{◌≡◌, refl, sym, ap, ◌∙◌}
use mathlib.Core.Bool.{Bool, true, false, not}
use mathlib.Core.List.{List, [], ◌∷◌}
use Prim.Native.Nat.{ℕ, zero, suc, ◌+◌, ◌-◌, ◌≤◌, ◌<◌}
use native.Mathlib.Omega.{arith}
use lib.Dec.{ltb, leb}
use lib.ListN.{length, get_or}
use borrow.Author.Tests.{ltb-true, ltb-false, lt-ltb, le-ltb}
use Rattle.rules.specs.Bytes.{Bytes, first, first_from, ◌and◌, ◌or◌}
use Rattle.texts.specs.Spelled.{spelled, same}
use Rattle.texts.specs.Spelling.{kind_word, type_word, true_word, false_word, some_word, none_word, edition_word, edition_named, is_kept, is_letter, are_name_bytes, is_name}
use Rattle.texts.proofs.Gives.{false≢true}
use Rattle.texts.proofs.KindTests.{all_below, passes}
use lib.ListN.{drop, take}
use Rattle.spell.specs.Vocabulary.{listed, counted}
use Rattle.spell.proofs.PartLaws.{and_false}

-- No word of the form is longer than 15 bytes.
pub short : (row : ℕ) → row < 44 → length (listed row) < 16
unfolding all_below listed kind_word type_word edition_word spelled
short row h = ltb-true (length (listed row)) 16 (passes (λ k. ltb (length (listed k)) 16) 44 refl row h)

pub any_default : (w : Bytes) (i : ℕ) → i < length w → (x y : ℕ) → get_or w i x ≡ get_or w i y
any_default [] i h x y = absurd (omega arith)
any_default (b ∷ w) zero h x y = refl
any_default (b ∷ w) (suc i) h x y = any_default w i (omega arith) x y

pub letter_is : (w : Bytes) (i : ℕ) → i < length w → get_or (counted w) (i + 1) 32 ≡ get_or w i 0
unfolding counted
letter_is w i h = ap (λ (k : ℕ). get_or (length w ∷ w) k 32) (let z : i + 1 ≡ suc i = omega arith in z) ∙ any_default w i h 32 0

-- The rows of the list are the words that the definitions name.
pub kind_row : (k : ℕ) → k < 30 → listed k ≡ kind_word k
unfolding listed
kind_row k h = rw (lt-ltb k 30 h) refl

pub type_row : (t : ℕ) → t < 8 → listed (t + 30) ≡ type_word t
unfolding listed
type_row t h =
    rw (le-ltb (t + 30) 30 (omega arith), lt-ltb (t + 30) 38 (omega arith)) (ap type_word (let z : t + 30 - 30 ≡ t = omega arith in z))

pub data Found : Option ℕ → Type 0 where
  found : (k : ℕ) → Found (Some k)

-- A search that finds nothing, and one that finds something.
module _ (test : ℕ → Bool) (count : ℕ) where
  none_from : (j : ℕ) (left : ℕ) → j + left ≡ count → ((k : ℕ) → k < count → test k ≡ false) → first_from test j left ≡ None
  unfolding first_from
  none_from j zero e h = refl
  none_from j (suc left) e h = rw (h j (omega arith), first_from) (none_from (suc j) left (omega arith) h)

  pub first_none : ((k : ℕ) → k < count → test k ≡ false) → first test count ≡ None
  unfolding first
  first_none h = none_from 0 count (omega arith) h

  some_from : (j left k : ℕ) → j ≤ k → k < j + left → test k ≡ true → Found (first_from test j left)
  unfolding first_from
  some_from j zero k l h e = absurd (omega arith)
  some_from j (suc left) k l h e =
      go (test j) refl (λ q. some_from (suc j) left k (above (λ d. false≢true (sym q ∙ ap test d ∙ e))) (omega arith) e)
    where
      above : (j ≡ k → ⊥) → suc j ≤ k
      above d = omega arith

      go : (b : Bool) → test j ≡ b → (test j ≡ false → Found (first_from test (suc j) left)) → Found (elim b [ true ↦ Some j | false ↦ first_from test (suc j) left ])
      go true q f = found j
      go false q f = f q

  pub first_some : (k : ℕ) → k < count → test k ≡ true → Found (first test count)
  unfolding first
  first_some k h e = some_from 0 count k (omega arith) (omega arith) e

-- The table of the rows: each 16 bytes long, spaces behind its word.
unfoldable pub spread : ℕ → Bytes → Bytes
spread zero w = []
spread (suc n) [] = 32 ∷ spread n []
spread (suc n) (b ∷ w) = b ∷ spread n w

unfoldable pub rows_from : ℕ → ℕ → List Bytes
rows_from j zero = []
rows_from j (suc n) = spread 16 (counted (listed j)) ∷ rows_from (suc j) n

spread_byte : (n : ℕ) (w : Bytes) (i : ℕ) → i < n → get_or (spread n w) i 0 ≡ get_or w i 32
unfolding spread
spread_byte zero w i h = absurd (omega arith)
spread_byte (suc n) [] zero h = refl
spread_byte (suc n) [] (suc i) h = spread_byte n [] i (omega arith)
spread_byte (suc n) (b ∷ w) zero h = refl
spread_byte (suc n) (b ∷ w) (suc i) h = spread_byte n w i (omega arith)

rows_at : (j n k : ℕ) (d : Bytes) → k < n → get_or (rows_from j n) k d ≡ spread 16 (counted (listed (j + k)))
unfolding rows_from
rows_at j zero k d h = absurd (omega arith)
rows_at j (suc n) zero d h = ap (λ (m : ℕ). spread 16 (counted (listed m))) (let z : j ≡ j + 0 = omega arith in z)
rows_at j (suc n) (suc k) d h =
    rows_at (suc j) n k d (omega arith) ∙ ap (λ (m : ℕ). spread 16 (counted (listed m))) (let z : suc j + k ≡ j + suc k = omega arith in z)

pub row_byte : (row i : ℕ) (d : Bytes) → row < 44 → i < 16 → get_or (get_or (rows_from 0 44) row d) i 0 ≡ get_or (counted (listed row)) i 32
row_byte row i d h k =
    ap (λ (w : Bytes). get_or w i 0) (rows_at 0 44 row d h ∙ ap (λ (m : ℕ). spread 16 (counted (listed m))) (let z : 0 + row ≡ row = omega arith in z))
    ∙ spread_byte 16 (counted (listed row)) i k

-- The word of a row, behind its length.
take_spread : (n : ℕ) (w : Bytes) → length w ≤ n → take (length w) (spread n w) ≡ w
unfolding spread
take_spread n [] h = refl
take_spread zero (b ∷ w) h = absurd (omega arith)
take_spread (suc n) (b ∷ w) h = ap (λ (v : Bytes). b ∷ v) (take_spread n w (omega arith))

word_within : (w : Bytes) → length w < 16 → take (length w + 1 - 1) (drop 1 (spread 16 (counted w))) ≡ w
unfolding spread counted
word_within w h = ap (λ (n : ℕ). take n (spread 15 w)) (let z : length w + 1 - 1 ≡ length w = omega arith in z) ∙ take_spread 15 w (omega arith)

pub row_word : (row n : ℕ) (d : Bytes) → row < 44 → n ≡ length (listed row) → take (n + 1 - 1) (drop 1 (get_or (rows_from 0 44) row d)) ≡ listed row
row_word row n d h e =
    ap (λ (k : ℕ). take (k + 1 - 1) (drop 1 (get_or (rows_from 0 44) row d))) e
    ∙ ap (λ (w : Bytes). take (length (listed row) + 1 - 1) (drop 1 w)) (rows_at 0 44 row d h ∙ ap (λ (m : ℕ). spread 16 (counted (listed m))) (let z : 0 + row ≡ row = omega arith in z))
    ∙ word_within (listed row) (short row h)

-- What a search tests: that a row may stand there, and that it is the word.
module _ (m x : Bool) (w v u : Bytes) (x_is : x ≡ same w v) (row : v ≡ u) where
  pub tested : m ≡ true → x ≡ true → (m and same w u) ≡ true
  unfolding ◌and◌
  tested e f = rw e (ap (same w) (sym row) ∙ sym x_is ∙ f)

  pub not_the_word : x ≡ false → (m and same w u) ≡ false
  not_the_word f = ap (λ (b : Bool). m and b) (ap (same w) (sym row) ∙ sym x_is ∙ f) ∙ and_false m

pub not_there : (m b : Bool) → m ≡ false → (m and b) ≡ false
unfolding ◌and◌
not_there m b e = rw e refl

-- Editions.
module _ (w : Bytes) where
  pub edition_one : same w (listed 42) ≡ true → edition_named w ≡ Some 0
  unfolding edition_named first first_from listed
  edition_one e = rw (e, first_from) refl

  pub edition_two : same w (listed 42) ≡ false → same w (listed 43) ≡ true → edition_named w ≡ Some 1
  unfolding edition_named first first_from listed
  edition_two d e = rw (d, e, first_from) refl

  pub edition_none : same w (listed 42) ≡ false → same w (listed 43) ≡ false → edition_named w ≡ None
  unfolding edition_named first first_from listed
  edition_none d e = rw (d, e, first_from) refl

or_left : (a b : Bool) → a ≡ true → (a or b) ≡ true
unfolding ◌or◌
or_left a b e = rw e refl

or_right : (a b : Bool) → b ≡ true → (a or b) ≡ true
unfolding ◌or◌
or_right true b e = refl
or_right false b e = e

-- Kept words: one of the list, or none.
module _ (w : Bytes) where
  others : Bool
  others = same w true_word or same w false_word or same w some_word or same w none_word or same w (edition_word 0) or same w (edition_word 1)

  late : (m : ℕ) → m < 6 → same w (listed (38 + m)) ≡ true → others ≡ true
  unfolding others listed
  late zero h e = or_left _ _ (or_left _ _ (or_left _ _ (or_left _ _ (or_left _ _ e))))
  late (suc zero) h e = or_left _ _ (or_left _ _ (or_left _ _ (or_left _ _ (or_right _ _ e))))
  late (suc (suc zero)) h e = or_left _ _ (or_left _ _ (or_left _ _ (or_right _ _ e)))
  late (suc (suc (suc zero))) h e = or_left _ _ (or_left _ _ (or_right _ _ e))
  late (suc (suc (suc (suc zero)))) h e = or_left _ _ (or_right _ _ e)
  late (suc (suc (suc (suc (suc zero))))) h e = or_right _ _ e
  late (suc (suc (suc (suc (suc (suc m)))))) h e = absurd (omega arith)

  kept : Option ℕ → Option ℕ → Bool
  kept (Some k) q = true
  kept None (Some t) = true
  kept None None = others

  kept_is : is_kept w ≡ kept (first (λ k. same w (kind_word k)) 30) (first (λ t. same w (type_word t)) 8)
  unfolding is_kept kept others
  kept_is = go (first (λ k. same w (kind_word k)) 30) (first (λ t. same w (type_word t)) 8)
    where
      go : (p q : Option ℕ)
          → elim p [ Some k ↦ true | None ↦ elim q [ Some t ↦ true | None ↦ others ] ] ≡ kept p q
      go (Some k) q = refl
      go None (Some t) = refl
      go None None = refl

  pub kept_none : ((j : ℕ) → j < 44 → same w (listed j) ≡ false) → is_kept w ≡ false
  unfolding kept others ◌or◌ listed
  kept_none h =
      kept_is
      ∙ ap (λ (p : Option ℕ). kept p (first (λ t. same w (type_word t)) 8)) (first_none (λ k. same w (kind_word k)) 30 (λ k l. ap (same w) (sym (kind_row k l)) ∙ h k (omega arith)))
      ∙ ap (kept None) (first_none (λ t. same w (type_word t)) 8 (λ t l. ap (same w) (sym (type_row t l)) ∙ h (t + 30) (omega arith)))
      ∙ rw (h 38 (omega arith), h 39 (omega arith), h 40 (omega arith), h 41 (omega arith), h 42 (omega arith), h 43 (omega arith)) refl

  by_kind : (p q : Option ℕ) → Found p → kept p q ≡ true
  unfolding kept
  by_kind _ q (found k) = refl

  by_type : (p q : Option ℕ) → Found q → kept p q ≡ true
  unfolding kept
  by_type (Some k) q f = refl
  by_type None _ (found t) = refl

  by_other : (p q : Option ℕ) → others ≡ true → kept p q ≡ true
  unfolding kept
  by_other (Some k) q e = refl
  by_other None (Some t) e = refl
  by_other None None e = e

  pub kept_by : (j : ℕ) → j < 44 → same w (listed j) ≡ true → is_kept w ≡ true
  kept_by j h e = kept_is ∙ go (ltb j 30) refl (ltb j 38) refl
    where
      go : (x : Bool) → ltb j 30 ≡ x → (y : Bool) → ltb j 38 ≡ y → kept (first (λ k. same w (kind_word k)) 30) (first (λ t. same w (type_word t)) 8) ≡ true
      go true q y r = by_kind _ _ (first_some (λ k. same w (kind_word k)) 30 j (ltb-true j 30 q) (ap (same w) (sym (kind_row j (ltb-true j 30 q))) ∙ e))
      go false q true r =
          let a : 30 ≤ j = ltb-false j 30 q in let b : j < 38 = ltb-true j 38 r in let l : j - 30 < 8 = omega arith in
          by_type _ _ (first_some (λ t. same w (type_word t)) 8 (j - 30) l
          (ap (same w) (sym (type_row (j - 30) l) ∙ ap listed (let z : j - 30 + 30 ≡ j = omega arith in z)) ∙ e))
      go false q false r =
          let a : 38 ≤ j = ltb-false j 38 r in
          by_other _ _ (late (j - 38) (omega arith) (ap (λ (k : ℕ). same w (listed k)) (let z : 38 + (j - 38) ≡ j = omega arith in z) ∙ e))

-- Names, by the tests one after the other.
pub name_parts : (w : Bytes) → 0 < length w → is_name w ≡ (is_letter (get_or w 0 0) and are_name_bytes (drop 1 w) and leb (length w) 31 and not (is_kept w))
unfolding is_name
name_parts [] h = absurd (omega arith)
name_parts (b ∷ w) h = refl

pub no_name : (w : Bytes) → length w ≤ 0 → is_name w ≡ false
unfolding is_name
no_name [] h = refl
no_name (b ∷ w) h = absurd (omega arith)
