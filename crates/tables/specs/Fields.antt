-- By which field a node holds another. Assumes nothing: these are definitions.
use Rattle.std.specs.Prelude.{ℕ, eqb, if◌then◌else◌}
use Rattle.rules.specs.Bytes.{Bytes}
use Rattle.rules.specs.Layout.{a_at, b_at, c_at}

-- The first of three fields that is m: 0 for a, 1 for b, 2 for c; 3 if none is.
unfoldable pub first_field : ℕ → ℕ → ℕ → ℕ → ℕ
first_field a b c m = if eqb a m then 0 else if eqb b m then 1 else if eqb c m then 2 else 3

-- The field of record n that holds m.
unfoldable pub held_by : Bytes → ℕ → ℕ → ℕ
held_by p n m = first_field (a_at p n) (b_at p n) (c_at p n) m
