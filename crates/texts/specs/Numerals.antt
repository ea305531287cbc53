-- Decimals, read and printed.
-- Assumes nothing: these are definitions.
use Rattle.std.specs.Prelude.{ℕ, zero, suc, ◌+◌, ◌-◌, ◌*◌, ◌/◌, ◌%◌, [], ◌∷◌, Bool, true, false, eqb, ltb, leb, if◌then◌else◌}
use Rattle.rules.specs.Bytes.{Bytes, ◌and◌}
use Rattle.texts.specs.Spelling.{is_digit}

-- Digits, one or more; zeros in front do not matter.
unfoldable pub are_digits : Bytes → Bool
are_digits [] = true
are_digits (b ∷ bs) = is_digit b and are_digits bs

unfoldable pub is_natural : Bytes → Bool
is_natural [] = false
is_natural (b ∷ bs) = are_digits (b ∷ bs)

unfoldable pub minus_sign : ℕ
minus_sign = 45

-- A number: digits, with a minus sign in front or without.
unfoldable pub is_negative : Bytes → Bool
is_negative [] = false
is_negative (b ∷ bs) = eqb b 45

unfoldable pub magnitude_of : Bytes → Bytes
magnitude_of [] = []
magnitude_of (b ∷ bs) = if eqb b 45 then bs else b ∷ bs

unfoldable pub is_number : Bytes → Bool
is_number w = is_natural (magnitude_of w)

unfoldable pub read_on : ℕ → Bytes → ℕ
read_on x [] = x
read_on x (b ∷ bs) = read_on (10 * x + (b - 48)) bs

unfoldable pub size_of : Bytes → ℕ
size_of w = read_on 0 (magnitude_of w)

-- In range: -2147483648 to 2147483647; and the word of it, two's complement. (-0 is 0.)
unfoldable pub in_range : Bytes → Bool
in_range w = leb (size_of w) (if is_negative w then 2147483648 else 2147483647)

unfoldable pub word_of : Bytes → ℕ
word_of w = if is_negative w then (4294967296 - size_of w) % 4294967296 else size_of w

-- A number in decimal, of at most so many digits more, before what follows.
unfoldable pub digits_f : ℕ → ℕ → Bytes → Bytes
digits_f zero n after = after
digits_f (suc f) n after = elim (ltb n 10) [ true ↦ (48 + n) ∷ after | false ↦ digits_f f (n / 10) ((48 + n % 10) ∷ after) ]

unfoldable pub decimal : ℕ → Bytes
decimal n = digits_f 10 n []

unfoldable pub signed_decimal : ℕ → Bytes
signed_decimal w = elim (ltb w 2147483648) [ true ↦ decimal w | false ↦ 45 ∷ decimal (4294967296 - w) ]
