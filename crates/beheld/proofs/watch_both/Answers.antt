use Rattle.beheld.proofs.Joined.{loose_demand}
use Rattle.beheld.proofs.watch_both.Goals as goal

pub returns : goal.returns
returns c = loose_demand _ _ _ _ _ _ _ _ _ _ (record { answer_is = c.watched-one.ensures.0; state_is = c.watched-one.ensures.1; output_is = c.watched-one.ensures.2; room_is = c.watched-one.ensures.3 }) (record { answer_is = c.watched-other.ensures.0; state_is = c.watched-other.ensures.1; output_is = c.watched-other.ensures.2; room_is = c.watched-other.ensures.3 })
