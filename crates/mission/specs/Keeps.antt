-- A check and a run that keep the demands, whatever bytes they are lent.
-- Assumes nothing: these are definitions.
use Rattle.rules.specs.Verdicts.{CheckAnswer}
use Rattle.rules.specs.Bytes.{Bytes}
use Rattle.rules.specs.Calls.{RunOutcome}
use Rattle.promises.specs.Small.{Small}
use Rattle.mission.specs.Mission.{CheckDemands, RunDemands}

-- Check takes a program to an answer.
pub record ChecksSo (call : Bytes → CheckAnswer) : Type 0 where
  pub meets : (p : Bytes) → Small p → CheckDemands p (call p)

-- Run takes what it is lent, lists of bytes, to an answer and the memory after.
pub record KeepsDemands (call : Bytes → Bytes → Bytes → Bytes → RunOutcome) : Type 0 where
  pub meets : (p st recs out : Bytes) → Small p → Small st → Small recs
      → RunDemands p st recs out (call p st recs out).answer (call p st recs out).state (call p st recs out).output
