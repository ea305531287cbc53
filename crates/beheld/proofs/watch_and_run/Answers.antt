use Rattle.beheld.proofs.Joined.{plain_demand}
use Rattle.beheld.proofs.watch_and_run.Goals as goal

pub returns : goal.returns
returns c = plain_demand _ _ _ _ _ _ _ _ (record { answer_is = c.watched-watched.ensures.0; state_is = c.watched-watched.ensures.1; output_is = c.watched-watched.ensures.2; room_is = c.watched-watched.ensures.3 }) c.run-ran.ensures.0 c.run-ran.ensures.1 c.run-ran.ensures.2
