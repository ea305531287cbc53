-- Numbers of 16 bits as bytes: two for each, the low one first. Assumes nothing: these are definitions.
use Rattle.std.specs.Prelude.{ℕ, ◌+◌, ◌*◌, ◌≤◌, ◌<◌, ◌/◌, ◌%◌, List, ◌≡◌, length, get_or}

-- Entry k of bytes: byte 2k is its low one, byte 2k + 1 its high one.
abbrev pub entry_at : List ℕ → ℕ → ℕ
entry_at bytes k = get_or bytes (2 * k) 0 + 256 * get_or bytes (2 * k + 1) 0

-- So many entries as a list of entries and a list of bytes both have.
pub record Fitting (entries bytes : List ℕ) (n : ℕ) : Type 0 where
  pub here : n ≤ length entries
  pub there : 2 * n ≤ length bytes
  pub most : n < length entries → length bytes < 2 * n + 2

-- A room after its first n entries were taken from bytes: the others are as before.
pub record Taken (bytes room after : List ℕ) (n : ℕ) : Type 0 where
  pub long : length after ≡ length room
  pub put : (k : ℕ) → k < n → get_or after k 0 ≡ entry_at bytes k
  pub left : (k : ℕ) → n ≤ k → get_or after k 0 ≡ get_or room k 0

-- Bytes after the first n entries of a room were put there: the others are as before.
pub record Given (room bytes after : List ℕ) (n : ℕ) : Type 0 where
  pub long : length after ≡ length bytes
  pub low : (k : ℕ) → k < n → get_or after (2 * k) 0 ≡ get_or room k 0 % 256
  pub high : (k : ℕ) → k < n → get_or after (2 * k + 1) 0 ≡ get_or room k 0 / 256
  pub left : (i : ℕ) → 2 * n ≤ i → get_or after i 0 ≡ get_or bytes i 0
