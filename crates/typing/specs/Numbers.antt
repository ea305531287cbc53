-- What a node's typing answers as one number: in the low byte a type, or whether bodies agree, and above it the number of a place.
-- Assumes nothing: these are definitions.
use Rattle.std.specs.Prelude.{ℕ, ◌/◌, ◌%◌, Bool, eqb, Option}
use Rattle.rules.specs.Values.{type_in}
use Rattle.places.specs.Numbers.{place_in}

-- The smallest wrong place.
unfoldable pub place_below : ℕ → Option ℕ
place_below m = place_in (m / 256 % 4294967296)

-- Whether the bodies of a list have one type.
unfoldable pub same_in : ℕ → Bool
same_in m = eqb (type_in m) 1
