-- A text as words, each with the position of its first byte. A parenthesis is a word by itself.
-- Assumes nothing: these are definitions.
use Rattle.std.specs.Prelude.{ℕ, suc, ◌-◌, List, [], ◌∷◌, ◌++◌, Bool, true, false, not, eqb, take, drop}
use Rattle.rules.specs.Bytes.{Bytes, ◌and◌, ◌or◌}

-- White space: space, tab, line feed, carriage return. The last two end a line.
unfoldable pub ends_line : ℕ → Bool
ends_line b = eqb b 10 or eqb b 13

unfoldable pub is_white : ℕ → Bool
is_white b = eqb b 32 or eqb b 9 or ends_line b

-- A semicolon begins a comment, which goes to the end of its line.
unfoldable pub is_comment : ℕ → Bool
is_comment b = eqb b 59

-- The two parentheses.
unfoldable pub is_mark : ℕ → Bool
is_mark b = eqb b 40 or eqb b 41

-- Every other byte is part of a word.
unfoldable pub is_part : ℕ → Bool
is_part b = not (is_white b or is_comment b or is_mark b)

-- A word that is no parenthesis.
unfoldable pub are_parts : Bytes → Bool
are_parts [] = true
are_parts (b ∷ bs) = is_part b and are_parts bs

unfoldable pub is_plain_word : Bytes → Bool
is_plain_word [] = false
is_plain_word (b ∷ bs) = is_part b and are_parts bs

pub record Token : Type 0 where
  pub at : ℕ
  pub word : Bytes

unfoldable pub token : ℕ → Bytes → Token
token i w = record { at = i; word = w }

-- The words of what is left, from position i on: between words, in a comment, and in a word that began at a position.
unfoldable mutual
  pub between : ℕ → Bytes → List Token
  between i [] = []
  between i (b ∷ bs) =
      elim (is_white b) [
        | true ↦ between (suc i) bs
        | false ↦
            elim (is_comment b) [
              | true ↦ comment (suc i) bs
              | false ↦ elim (is_mark b) [ true ↦ token i (b ∷ []) ∷ between (suc i) bs | false ↦ inside i (b ∷ []) (suc i) bs ]
            ]
      ]

  pub comment : ℕ → Bytes → List Token
  comment i [] = []
  comment i (b ∷ bs) = elim (ends_line b) [ true ↦ between (suc i) bs | false ↦ comment (suc i) bs ]

  pub inside : ℕ → Bytes → ℕ → Bytes → List Token
  inside start w i [] = token start w ∷ []
  inside start w i (b ∷ bs) =
      elim (is_white b) [
        | true ↦ token start w ∷ between (suc i) bs
        | false ↦
            elim (is_comment b) [
              | true ↦ token start w ∷ comment (suc i) bs
              | false ↦
                  elim (is_mark b) [
                    | true ↦ token start w ∷ token i (b ∷ []) ∷ between (suc i) bs
                    | false ↦ inside start (w ++ b ∷ []) (suc i) bs
                  ]
            ]
      ]

unfoldable pub tokens : Bytes → List Token
tokens text = between 0 text

-- The words from a position on.
unfoldable pub from : Bytes → ℕ → List Token
from text at = between at (drop at text)

-- The bytes of a text from a position up to another.
unfoldable pub part : Bytes → ℕ → ℕ → Bytes
part text start end = take (end - start) (drop start text)
