-- Writing a text into a room from a place on, and where it ends. What does not fit the room is counted and not written.
-- Assumes nothing: these are definitions.
use Rattle.std.specs.Prelude.{ℕ, ◌+◌, ◌≤◌, ◌≡◌, List, [], ◌∷◌, ◌++◌, Bool, length, if◌then◌else◌}
use Rattle.rules.specs.Bytes.{Bytes, write_at}
use Rattle.texts.specs.Printer.{Piece, plain_word, longest_text}
use Rattle.texts.specs.Spelling.{type_word, some_word, none_word}

-- The bytes xs stand in the room from a place on, and the answer is the place behind them. (Places are counted up to the longest text.)
pub record Wrote (room : Bytes) (at : ℕ) (xs room' : Bytes) (r : ℕ) : Type 0 where
  pub done : at + length xs ≤ longest_text → (r ≡ at + length xs) × (room' ≡ write_at room at xs)

-- Pieces one after the other.
unfoldable pub spread : List Piece → Bytes
spread [] = []
spread (x ∷ xs) = x.before ++ (x.word ++ spread xs)

-- A maybe value's words behind its open parenthesis: some and the value, or none and the type that it is of.
unfoldable pub maybe_words : ℕ → Bool → ℕ → Bytes
maybe_words t present w = if present then some_word ++ (32 ∷ plain_word t w) else none_word ++ (32 ∷ type_word t)
