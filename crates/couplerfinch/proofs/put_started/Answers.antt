use Rattle.couplerfinch.specs.Room.{started_code, started_done, started_room}
use Rattle.couplerfinch.proofs.Telling.{told_as, refused_room_lem}
use mathlib.Core.Path.{sym, refl}
use Rattle.couplerfinch.proofs.put_started.Goals as goal

pub returns-in-Ok : goal.returns-in-Ok
returns-in-Ok c = told_as started_code started_room (sym c.in-Ok.is) (refl, refl)

pub returns-in-Err : goal.returns-in-Err
returns-in-Err c = told_as started_code started_room (sym c.in-Err.is) (refused_room_lem c.in-Err.r 0 started_done c.code_of.ensures c.place_of.ensures c.put_refused.ensures)
