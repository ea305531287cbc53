-- The valid values: a type, and a word that the type allows.
-- Assumes nothing: these are definitions.
use Rattle.std.specs.Prelude.{◌≡◌, ℕ, ◌-◌, ◌<◌, ◌≤◌}
use Rattle.rules.specs.Values.{unit_t, bool_t}
use Rattle.rules.specs.declared.Value.{Value}
use Rattle.rules.specs.declared.Value.TheVariants.{Plain, Absent, Present}

-- The words of a plain type: 32 bits; 0 for unit, 0 or 1 for bool.
abbrev pub WordOf : ℕ → ℕ → Type 0
WordOf t w = (w < 4294967296) × (t ≡ unit_t → w ≡ 0) × (t ≡ bool_t → w ≤ 1)

-- Types 1-3 are plain, and 5-7 are maybe of these.
abbrev pub ValidAs : Value → Type 0
ValidAs (Plain t w) = ((1 ≤ t) × (t ≤ 3)) × WordOf t w
ValidAs (Absent t) = (5 ≤ t) × (t ≤ 7)
ValidAs (Present t w) = ((5 ≤ t) × (t ≤ 7)) × WordOf (t - 4) w

pub record Valid (v : Value) : Type 0 where
  pub valid : ValidAs v
