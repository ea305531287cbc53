use Rattle.beheld.proofs.Joined.{says_demand}
use Rattle.beheld.proofs.watch.Goals as goal

pub returns : goal.returns
returns c = let e = c.watched.ensures in
    says_demand _ _ _ _ _ _ (record { answer_is = e.0; state_is = e.1; output_is = e.2; room_is = e.3 })
