-- What an accepted program promises (demand 3): it starts, and it goes on answering.
-- Assumes nothing: these are definitions.
use Rattle.std.specs.Prelude.{◌≡◌, true, ◌+◌, ◌*◌, ◌≤◌, length, Ok}
use Rattle.rules.specs.Bytes.{Bytes}
use Rattle.rules.specs.Layout.{nodes, state_length, time_in}
use Rattle.rules.specs.Reset.{start_state}
use Rattle.rules.specs.WellFormed.{well_formed, last_moment}
use Rattle.rules.specs.Bound.{bound}
use Rattle.rules.specs.Calls.{start_call, run_call}
use Rattle.promises.specs.Small.{Small}
use Rattle.promises.specs.Step.{StepMade}
use Rattle.promises.specs.Run.{RunAnswers, work_in}

-- A state as it is lent and left: bytes, and well-formed.
pub record State (p st : Bytes) : Type 0 where
  pub bytes : Small st
  pub well : well_formed p st ≡ true

-- The bound is at most N times N + 1. Start makes a state. From every state each record with a time has its step: a valid value of the root's
-- type, a state again, and work of at most the bound. So a run refuses nothing but the lengths and the records, and leaves a state; and its
-- total never passes 4,294,967,295.
pub record GoesOn (p : Bytes) : Type 0 where
  pub bounded : bound p ≤ nodes p * (nodes p + 1)
  pub starts : (st : Bytes) → length st ≡ state_length p → start_call p st ≡ record { answer = Ok tt; state = start_state p }
  pub started : State p (start_state p)
  pub makes : (st rec : Bytes) → State p st → Small rec → time_in rec ≤ last_moment → StepMade p rec st
  pub runs : (st recs out : Bytes) → State p st → Small recs → RunAnswers p st recs out (run_call p st recs out)
  pub run_leaves : (st recs out : Bytes) → State p st → Small recs → State p (run_call p st recs out).state
  pub totals : (st recs out : Bytes) → State p st → Small recs → work_in (run_call p st recs out).answer ≤ 4294967295
