-- Two programs that answer alike.
-- Assumes nothing: these are definitions.
use Rattle.std.specs.Prelude.{◌≡◌, ℕ, length}
use Rattle.rules.specs.Verdicts.{RunAnswer, finished_with, refused_after}
use Rattle.rules.specs.Bytes.{Bytes}
use Rattle.rules.specs.Reset.{start_state}
use Rattle.rules.specs.Calls.{RunOutcome, run_call}
use Rattle.rules.specs.declared.Refusal.{Refusal}
use Rattle.promises.specs.Small.{Small}

-- The same steps, or the same refusal; work and marks are not compared.
pub data SameAnswer : RunAnswer → RunAnswer → Type 0 where
  finished : {steps work work' mark mark' : ℕ} → SameAnswer (finished_with steps work mark) (finished_with steps work' mark')
  refused : {r : Refusal} {work work' mark mark' : ℕ} → SameAnswer (refused_after r work mark) (refused_after r work' mark')

pub record SameRun (o o' : RunOutcome) : Type 0 where
  pub answers : SameAnswer o.answer o'.answer
  pub outputs : o.output ≡ o'.output

-- From start, old and new answer every list of records with equal outputs and refusals after 8.
pub record AnswersAlike (p q : Bytes) : Type 0 where
  pub runs : (recs out : Bytes) → Small recs → SameRun (run_call p (start_state p) recs out) (run_call q (start_state q) recs out)
