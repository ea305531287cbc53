-- Lists whose members are bytes.
-- Assumes nothing: these are definitions.
use Rattle.std.specs.Prelude.{ℕ, ◌<◌}
use Rattle.rules.specs.Bytes.{Bytes, byte_at}

pub record Small (s : Bytes) : Type 0 where
  pub small : (i : ℕ) → byte_at s i < 256
