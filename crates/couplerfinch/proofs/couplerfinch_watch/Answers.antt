use Rattle.couplerfinch.proofs.Telling.{told_as}
use Rattle.couplerfinch.specs.Room.{watched_code, watched_room}
use Rattle.couplerfinch.proofs.couplerfinch_watch.Goals as goal

pub returns : goal.returns
returns c = let seen = c.watched.ensures in let told = told_as watched_code watched_room seen.0 c.put_watched.ensures in (told.0, told.1, seen.1, seen.2, seen.3)
