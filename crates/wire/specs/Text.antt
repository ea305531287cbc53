-- Numbers in decimal, and what it is to put text into a line. Assumes nothing.
use Rattle.std.specs.Prelude.{ℕ, zero, suc, ◌+◌, ◌/◌, ◌%◌, ◌≡◌, cond, List, [], ◌∷◌, ◌++◌, ltb, length, take}
use Rattle.io.specs.Digits.{last_digits, hex_digit_ascii}

-- how many decimal digits n has, where it has at most suc f
unfoldable pub places : ℕ → ℕ → ℕ
places zero n = 1
places (suc f) n = cond (ltb n 10) 1 (suc (places f (n / 10)))

-- n in decimal, with no zero in front, for n of at most 20 digits, as every u64 is
unfoldable pub decimal : ℕ → List ℕ
decimal n = last_digits 10 (places 19 n) n

-- a number in a line: its digits and the byte that ends it
unfoldable pub field : ℕ → ℕ → List ℕ
field n end = decimal n ++ (end ∷ [])

-- `text` stands in `after` from index at on, up to r, behind what stood before it in `before`
pub record Put (at : ℕ) (text before after : List ℕ) (r : ℕ) : Type 0 where
  pub place : r ≡ at + length text
  pub holds : take r after ≡ take at before ++ text

-- bytes as two hex digits each, the high one first
unfoldable pub hexes : List ℕ → List ℕ
hexes [] = []
hexes (b ∷ bs) = hex_digit_ascii (b / 16) ∷ hex_digit_ascii (b % 16) ∷ hexes bs
