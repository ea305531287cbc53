use Rattle.couplerfinch.specs.Room.{tidied_code, tidied_room}
use Rattle.couplerfinch.proofs.Telling.{told_as}
use Rattle.couplerfinch.proofs.couplerfinch_tidy.Goals as goal

pub returns : goal.returns
returns c = let found = c.tidy.ensures in let told = told_as tidied_code tidied_room found.0 c.put_tidied.ensures in (told.0, told.1, found.1)
