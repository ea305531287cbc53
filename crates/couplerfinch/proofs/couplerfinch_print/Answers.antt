use Rattle.couplerfinch.specs.Room.{printed_code, printed_room}
use Rattle.couplerfinch.proofs.Telling.{told_as}
use Rattle.couplerfinch.proofs.couplerfinch_print.Goals as goal

pub returns : goal.returns
returns c = let found = c.print.ensures in let told = told_as printed_code printed_room found.0 c.put_printed.ensures in (told.0, told.1, found.1)
