-- What a watched run leaves.
-- Assumes nothing: these are definitions.
use Rattle.std.specs.Prelude.{◌≡◌, Result}
use Rattle.rules.specs.Verdicts.{RunAnswer}
use Rattle.rules.specs.Bytes.{Bytes}
use Rattle.watched.specs.Watch.{WatchOutcome}
use Rattle.watched.specs.declared.ListFault.{ListFault}

-- The answer, state, output and second room of an outcome.
pub record LeavesAll (o : WatchOutcome) (answer : Result RunAnswer ListFault) (st out room : Bytes) : Type 0 where
  pub answer_is : answer ≡ o.answer
  pub state_is : st ≡ o.state
  pub output_is : out ≡ o.output
  pub room_is : room ≡ o.room
