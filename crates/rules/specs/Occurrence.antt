-- What the events of an until did, in list order up to the first present one: it took a branch with a value, or none was present; or stuck.
-- Assumes nothing: this is a definition.
use Rattle.std.specs.Prelude.{ℕ}
use Rattle.rules.specs.declared.Tally.{Tally}
use Rattle.rules.specs.declared.Value.{Value}

pub data Occurrence : Type 0 where
  Took : (target : ℕ) (v : Value) (w : Tally) → Occurrence
  Quiet : (w : Tally) → Occurrence
  Stuck : Occurrence
