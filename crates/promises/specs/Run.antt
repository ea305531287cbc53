-- A run, step by step.
-- Assumes nothing: these are definitions.
use Rattle.std.specs.Prelude.{◌≡◌, true, ℕ, zero, suc, ◌+◌, ◌*◌, ◌/◌, ◌%◌, ◌<◌, ◌≤◌, eqb, leb, length, Ok, Err}
use Rattle.rules.specs.Verdicts.{RunAnswer, Verdict, finished_with, refused_after}
use Rattle.rules.specs.Bytes.{Bytes, write_at, ◌and◌}
use Rattle.rules.specs.Values.{value_bytes}
use Rattle.rules.specs.Layout.{input_length, input_at}
use Rattle.rules.specs.Answers.{code_of, place_of}
use Rattle.rules.specs.WellFormed.{well_formed}
use Rattle.rules.specs.Bound.{bound}
use Rattle.rules.specs.Calls.{RunOutcome, lent_verdict, record_verdict, no_step, first_wrapped}
use Rattle.rules.specs.declared.Refusal.{Refusal}
use Rattle.promises.specs.Small.{Small}
use Rattle.promises.specs.Step.{StepMade}

-- From so many records left, steps done, work, first wrapped step, state and output to an outcome: it finishes; or the next record is refused; or
-- its step is made and the run goes on.
pub data RunMade (p recs : Bytes) (o : RunOutcome) : ℕ → ℕ → ℕ → ℕ → Bytes → Bytes → Type 0 where
  finished : {done work mark : ℕ} {st out : Bytes} → o ≡ record { answer = finished_with done work mark; state = st; output = out }
      → RunMade p recs o zero done work mark st out
  refused : {left done work mark : ℕ} {st out : Bytes} (r : Refusal) → record_verdict done st (input_at recs done) ≡ Err r
      → o ≡ record { answer = refused_after r work mark; state = st; output = out } → RunMade p recs o (suc left) done work mark st out
  stepped : {left done work mark : ℕ} {st out : Bytes} → record_verdict done st (input_at recs done) ≡ Ok tt
      → (m : StepMade p (input_at recs done) st)
      → RunMade p recs o left (suc done) (work + m.tally.work) (first_wrapped mark done m.tally) m.state (write_at out (8 * done) (value_bytes m.output))
      → RunMade p recs o (suc left) done work mark st out

-- An answer after so many steps and so much work, with so many records left: all of them are done, or one of those left is refused (codes
-- 12 and 13, at the number of steps done); and each step works at most the bound.
abbrev pub AnswersRun : Bytes → ℕ → ℕ → ℕ → RunAnswer → Type 0
AnswersRun p left done work (Ok end) = (end.steps ≡ done + left) × (end.work ≤ work + left * bound p)
AnswersRun p left done work (Err stop) =
    ((12 ≤ code_of stop.why) × (code_of stop.why ≤ 13)) × ((done ≤ place_of stop.why) × (place_of stop.why < done + left)) × (stop.work ≤ work + left * bound p)

pub record RunEnds (p : Bytes) (left done work : ℕ) (o : RunOutcome) : Type 0 where
  pub well : well_formed p o.state ≡ true
  pub bytes : Small o.state
  pub answers : AnswersRun p left done work o.answer

-- The work of the steps done, in either answer.
unfoldable pub work_in : RunAnswer → ℕ
work_in (Ok end) = end.work
work_in (Err stop) = stop.work

-- A run's codes 1-11, in their order: it has 0 to 4,096 records of 40 bytes.
unfoldable pub run_verdict : Bytes → Bytes → Bytes → Bytes → Verdict
run_verdict p st recs out = lent_verdict p st recs out (eqb (length recs % input_length) 0 and leb (length recs / input_length) 4096)

-- A run's call: the verdict on what it is lent refuses the length of records or output (10, 11), the run is refused so, and nothing is changed; or
-- that verdict is fine, and it is a run of all its records, at most 4,096.
pub data RunAnswers (p st recs out : Bytes) (o : RunOutcome) : Type 0 where
  lengths : (r : Refusal) → run_verdict p st recs out ≡ Err r → 10 ≤ code_of r → code_of r ≤ 11
      → o ≡ record { answer = refused_after r 0 no_step; state = st; output = out } → RunAnswers p st recs out o
  ran : run_verdict p st recs out ≡ Ok tt → length recs / input_length ≤ 4096 → RunMade p recs o (length recs / input_length) 0 0 no_step st out
      → RunAnswers p st recs out o
