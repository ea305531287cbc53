-- The outcome of an evaluation: a value with what was counted, or stuck.
-- Assumes nothing: this is a definition.
use Rattle.rules.specs.declared.Tally.{Tally}
use Rattle.rules.specs.declared.Value.{Value}

pub data Evaluated : Type 0 where
  Done : (v : Value) (w : Tally) → Evaluated
  Stuck : Evaluated
