-- The node that an argument names. Assumes nothing: these are definitions.
use Rattle.std.specs.Prelude.{ℕ, ◌+◌, ◌-◌, ◌*◌, List, [], ◌∷◌, ltb, if◌then◌else◌}

-- A number with one more digit (48 to 57) behind it; 65536 where that is no digit, or the number none of 16 bits.
unfoldable pub with_digit : ℕ → ℕ → ℕ
with_digit n b =
    if ltb b 48 then 65536
    else if ltb 57 b then 65536
    else if ltb 65535 (n * 10 + (b - 48)) then 65536
    else n * 10 + (b - 48)

-- The number that digits say behind one; what is none of 16 bits stays so.
unfoldable pub number_from : ℕ → List ℕ → ℕ
number_from n [] = n
number_from n (b ∷ bs) = if ltb 65535 (with_digit n b) then 65536 else number_from (with_digit n b) bs

-- The number that a text of at least one digit says; 65536 for no number of 16 bits.
unfoldable pub number_of : List ℕ → ℕ
number_of [] = 65536
number_of (b ∷ bs) = number_from 0 (b ∷ bs)
