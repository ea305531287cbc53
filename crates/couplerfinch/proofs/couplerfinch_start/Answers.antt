use Rattle.couplerfinch.specs.Room.{started_code, started_room}
use Rattle.couplerfinch.proofs.Telling.{told_as}
use Rattle.couplerfinch.proofs.couplerfinch_start.Goals as goal

pub returns : goal.returns
returns c = let started = c.start.ensures in let told = told_as started_code started_room started.0 c.put_started.ensures in (told.0, told.1, started.1)
