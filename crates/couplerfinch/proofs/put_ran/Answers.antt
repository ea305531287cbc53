use Rattle.couplerfinch.specs.Room.{ran_code, ran_done, ran_room}
use Rattle.couplerfinch.proofs.Telling.{told_as, stopped_room}
use mathlib.Core.Path.{sym, refl}
use Rattle.couplerfinch.proofs.put_ran.Goals as goal

pub returns-in-Ok : goal.returns-in-Ok
returns-in-Ok c = told_as ran_code ran_room (sym c.in-Ok.is) (refl, refl)

pub returns-in-Err : goal.returns-in-Err
returns-in-Err c = told_as ran_code ran_room (sym c.in-Err.is) (stopped_room c.in-Err.stop.why c.in-Err.stop.work c.in-Err.stop.wrapped ran_done c.code_of.ensures c.place_of.ensures c.put_stopped.ensures)
