-- The outcome of an update in place: it stays, or an until jumps to a branch with a value, which its group catches; or stuck.
-- Assumes nothing: this is a definition.
use Rattle.std.specs.Prelude.{ℕ}
use Rattle.rules.specs.declared.Tally.{Tally}
use Rattle.rules.specs.declared.Value.{Value}

pub data Moved : Type 0 where
  Stay : (w : Tally) → Moved
  Jump : (target : ℕ) (v : Value) (w : Tally) → Moved
  Stuck : Moved
