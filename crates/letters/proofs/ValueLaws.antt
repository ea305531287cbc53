-- Values by their type, present byte and word.
-- Assumes nothing.
use mathlib.Core.Path.{◌≡◌, refl, sym, ap, ◌∙◌}
use mathlib.Core.Bool.{Bool, true, false}
use mathlib.Core.List.{List, [], ◌∷◌, ◌++◌}
use Prim.Native.Nat.{ℕ, ◌-◌}
use native.Mathlib.Omega.{arith}
use lib.Dec.{eqb}
use borrow.Author.Tests.{eq-eqb, ne_eqb}
use Rattle.rules.specs.Bytes.{Bytes}
use Rattle.rules.specs.Values.{is_plain}
use Rattle.texts.specs.Spelling.{open₀, close₀, type_word, unit_word, true_word, false_word, some_word, none_word}
use Rattle.texts.specs.Numerals.{signed_decimal}
use Rattle.texts.specs.Printer.{Piece, spaced, tight, plain_word, value_pieces}
use Rattle.spell.specs.Vocabulary.{listed}
use Rattle.letters.specs.Wrote.{spread, maybe_words}
use Rattle.letters.specs.declared.Sheet.{Sheet}
use Rattle.letters.specs.Puts.{Puts}
use Rattle.letters.proofs.PutsLaws.{puts_as, puts_then}

-- A plain value's word, by three tests.
module _ (t w : ℕ) where
  abbrev plain_by : Bool → Bool → Bool → Bytes
  plain_by x y z = elim x [ true ↦ signed_decimal w | false ↦ elim y [ true ↦ elim z [ true ↦ true_word | false ↦ false_word ] | false ↦ unit_word ] ]

  plain_by_lem : {x y z : Bool} → eqb t 3 ≡ x → eqb t 2 ≡ y → eqb w 1 ≡ z → plain_by x y z ≡ plain_word t w
  unfolding plain_word
  plain_by_lem e f g = sym (λ i. plain_by (e i) (f i) (g i))

  pub plain_int : t ≡ 3 → signed_decimal w ≡ plain_word t w
  plain_int e = plain_by_lem (eq-eqb t 3 e) refl refl

  pub plain_true : t ≡ 2 → w ≡ 1 → listed 38 ≡ plain_word t w
  unfolding listed
  plain_true e f = plain_by_lem (ne_eqb t 3 (λ z. omega arith)) (eq-eqb t 2 e) (eq-eqb w 1 f)

  pub plain_false : t ≡ 2 → (w ≡ 1 → ⊥) → listed 39 ≡ plain_word t w
  unfolding listed
  plain_false e f = plain_by_lem (ne_eqb t 3 (λ z. omega arith)) (eq-eqb t 2 e) (ne_eqb w 1 f)

  pub plain_unit : (t ≡ 3 → ⊥) → (t ≡ 2 → ⊥) → listed 31 ≡ plain_word t w
  unfolding listed type_word
  plain_unit e f = plain_by_lem (ne_eqb t 3 e) (ne_eqb t 2 f) refl

-- Some, none.
pub some_is : {s s₁ s₂ s₃ : Sheet} (t w : ℕ) (present : Bool) → present ≡ true → Puts s (listed 40) s₁ → Puts s₁ (32 ∷ []) s₂ → Puts s₂ (plain_word t w) s₃ → Puts s (maybe_words t present w) s₃
unfolding maybe_words listed
some_is t w present e x y z = puts_as (simp (mathlib.Core.List.append_assoc, e)) (puts_then (puts_then x y) z)

pub none_is : {s s₁ s₂ s₃ : Sheet} (t w : ℕ) (present : Bool) → present ≡ false → Puts s (listed 41) s₁ → Puts s₁ (32 ∷ []) s₂ → Puts s₂ (type_word t) s₃ → Puts s (maybe_words t present w) s₃
unfolding maybe_words listed
none_is t w present e x y z = puts_as (simp (mathlib.Core.List.append_assoc, e)) (puts_then (puts_then x y) z)

-- The pieces of a value.
none_after : (l : Bytes) → l ++ [] ≡ l
none_after [] = refl
none_after (y ∷ l) = ap (λ (m : Bytes). y ∷ m) (none_after l)

module _ (t b w : ℕ) where
  abbrev value_by : Bool → Bool → List Piece
  value_by x y =
      elim x [
        | true ↦ spaced (plain_word t w) ∷ []
        | false ↦
            elim y [
              | true ↦ spaced open₀ ∷ tight some_word ∷ spaced (plain_word (t - 4) w) ∷ tight close₀ ∷ []
              | false ↦ spaced open₀ ∷ tight none_word ∷ spaced (type_word (t - 4)) ∷ tight close₀ ∷ []
            ]
      ]

  value_by_lem : {x y : Bool} → is_plain t ≡ x → eqb b 1 ≡ y → spread (value_by x y) ≡ spread (value_pieces t b w)
  unfolding value_pieces
  value_by_lem e f = sym (λ i. spread (value_by (e i) (f i)))

  pub plain_pieces : is_plain t ≡ true → 32 ∷ plain_word t w ≡ spread (value_pieces t b w)
  unfolding spread spaced
  plain_pieces e = ap (λ (l : Bytes). 32 ∷ l) (sym (none_after (plain_word t w))) ∙ value_by_lem e refl

  maybe_pieces : is_plain t ≡ false → (x : Bool) → eqb b 1 ≡ x → 32 ∷ 40 ∷ (maybe_words (t - 4) x w ++ (41 ∷ [])) ≡ spread (value_pieces t b w)
  unfolding spread spaced tight maybe_words
  maybe_pieces e true f = (simp mathlib.Core.List.append_assoc) ∙ value_by_lem e f
  maybe_pieces e false f = (simp mathlib.Core.List.append_assoc) ∙ value_by_lem e f

pub plain_value : {s s₁ s₂ : Sheet} (t m w : ℕ) → is_plain t ≡ true → Puts s (32 ∷ []) s₁ → Puts s₁ (plain_word t w) s₂ → Puts s (spread (value_pieces t m w)) s₂
plain_value t m w e x y = puts_as (plain_pieces t m w e) (puts_then x y)

pub maybe_value : {s s₁ s₂ s₃ s₄ : Sheet} (t m w u : ℕ) (present : Bool) → is_plain t ≡ false → u ≡ t - 4 → present ≡ eqb m 1 → Puts s (32 ∷ []) s₁ → Puts s₁ (40 ∷ []) s₂
    → Puts s₂ (maybe_words u present w) s₃ → Puts s₃ (41 ∷ []) s₄ → Puts s (spread (value_pieces t m w)) s₄
maybe_value t m w u present e i p x y z v =
    puts_as ((λ j. 32 ∷ 40 ∷ (maybe_words (i j) (p j) w ++ (41 ∷ []))) ∙ maybe_pieces t m w e (eqb m 1) refl) (puts_then x (puts_then y (puts_then z v)))
