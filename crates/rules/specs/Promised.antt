-- What each of the three calls promises: for every input, refusals too, the answer of the rules and the rules' content of all lent memory.
-- Assumes nothing: these are definitions.
use Rattle.std.specs.Prelude.{◌≡◌}
use Rattle.rules.specs.Verdicts.{CheckAnswer}
use Rattle.rules.specs.Bytes.{Bytes}
use Rattle.rules.specs.Calls.{StartOutcome, RunOutcome, check_call, start_call, run_call}

-- Check is lent a program to read.
pub record Checks (call : Bytes → CheckAnswer) : Type 0 where
  pub as_ruled : (p : Bytes) → call p ≡ check_call p

-- Start is lent a program to read and a state to write.
pub record Starts (call : Bytes → Bytes → StartOutcome) : Type 0 where
  pub as_ruled : (p st : Bytes) → call p st ≡ start_call p st

-- Run is lent a program and records to read, a state and an output room to write.
pub record Runs (call : Bytes → Bytes → Bytes → Bytes → RunOutcome) : Type 0 where
  pub as_ruled : (p st recs out : Bytes) → call p st recs out ≡ run_call p st recs out
