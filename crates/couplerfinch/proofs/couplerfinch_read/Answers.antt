use Rattle.couplerfinch.specs.Room.{read_code, read_room}
use Rattle.couplerfinch.proofs.Telling.{told_as}
use Rattle.couplerfinch.proofs.couplerfinch_read.Goals as goal

pub returns : goal.returns
returns c = let found = c.read.ensures in let told = told_as read_code read_room found.0 c.put_read.ensures in (told.0, told.1, found.1)
