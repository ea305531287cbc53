-- A place where something is wrong, as a number.
-- Assumes nothing: these are definitions.
use Rattle.std.specs.Prelude.{ℕ, ltb, if◌then◌else◌, Option, Some, None}

-- A number below 65,535 is a place, and from there on none.
unfoldable pub place_in : ℕ → Option ℕ
place_in m = if ltb m 65535 then Some m else None
