-- What the scanner says of the words ahead.
-- Assumes nothing: these are definitions.
use Rattle.std.specs.Prelude.{◌≡◌, [], ◌∷◌, ◌++◌, ℕ, ◌≤◌, ◌<◌, false, length, drop, get_or, Option, Some, None}
use Rattle.rules.specs.Bytes.{Bytes}
use Rattle.texts.specs.Tokens.{token, is_white, is_comment, inside, from, part}
use Rattle.tokens.specs.declared.Span.{Span}

-- A word that began at start, of which w has been seen, goes on from at up to r.
pub record RestOfWord (text : Bytes) (at r : ℕ) : Type 0 where
  pub rest : (start : ℕ) (w : Bytes) → inside start w at (drop at text) ≡ token start (w ++ part text at r) ∷ from text r

-- No white space and no comment begins at a position, if the text goes on there.
pub record Shown (text : Bytes) (i : ℕ) : Type 0 where
  pub no_white : is_white (get_or text i 0) ≡ false
  pub no_comment : is_comment (get_or text i 0) ≡ false

-- From i on and from r on the words are the same; at i, if r is i, something begins.
pub record Still (text : Bytes) (i r : ℕ) : Type 0 where
  pub words_same : from text i ≡ from text r
  pub moved : r ≡ i → Shown text i

pub record Blank (text : Bytes) (at r : ℕ) : Type 0 where
  pub words_same : from text at ≡ from text r
  pub shown : r < length text → Shown text r

-- The next word from a position on begins there or later, and ends later than it begins; behind it are the other words.
abbrev pub Ahead : Bytes → ℕ → Option Span → Type 0
Ahead text at (Some w) = (at ≤ w.first) × (w.first < w.end) × (w.end ≤ length text) × (from text at ≡ token w.first (part text w.first w.end) ∷ from text w.end)
Ahead text at None = from text at ≡ []
