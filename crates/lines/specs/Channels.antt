-- The line of the channels that a table names. Assumes nothing: these are definitions.
use Rattle.std.specs.Prelude.{ℕ, ◌/◌, ◌%◌, Bool, true, false, List, [], ◌∷◌, ◌++◌, eqb, if◌then◌else◌}

-- The bit that counts a power of two is 1.
unfoldable pub bit_on : ℕ → ℕ → Bool
bit_on bits power = eqb (bits / power % 2) 1

-- A channel that is named: a space and its digit.
unfoldable pub channel_word : Bool → ℕ → List ℕ
channel_word true digit = 32 ∷ digit ∷ []
channel_word false digit = []

-- The channels whose bits are 1, channel 0 first (48 is the digit 0).
unfoldable pub channel_words : ℕ → List ℕ
channel_words bits =
    channel_word (bit_on bits 1) 48 ++ channel_word (bit_on bits 2) 49 ++ channel_word (bit_on bits 4) 50 ++ channel_word (bit_on bits 8) 51
    ++ channel_word (bit_on bits 16) 52 ++ channel_word (bit_on bits 32) 53 ++ channel_word (bit_on bits 64) 54 ++ channel_word (bit_on bits 128) 55

-- The digits, or " none".
unfoldable pub some_or_none : ℕ → List ℕ
some_or_none bits = if eqb bits 0 then 32 ∷ 110 ∷ 111 ∷ 110 ∷ 101 ∷ [] else channel_words bits

-- The line: `channels 0 3 4`, or `channels none`.
unfoldable pub channels_line : ℕ → List ℕ
channels_line bits = (99 ∷ 104 ∷ 97 ∷ 110 ∷ 110 ∷ 101 ∷ 108 ∷ 115 ∷ []) ++ some_or_none bits ++ (10 ∷ [])
