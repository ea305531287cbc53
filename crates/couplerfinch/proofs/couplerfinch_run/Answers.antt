use Rattle.couplerfinch.specs.Room.{ran_code, ran_room}
use Rattle.couplerfinch.proofs.Telling.{told_as}
use Rattle.couplerfinch.proofs.couplerfinch_run.Goals as goal

pub returns : goal.returns
returns c = let ran = c.run.ensures in let told = told_as ran_code ran_room ran.0 c.put_ran.ensures in (told.0, told.1, ran.1, ran.2)
