use Rattle.couplerfinch.specs.Room.{checked_code, checked_done, checked_room}
use Rattle.couplerfinch.proofs.Telling.{told_as, refused_room_lem}
use mathlib.Core.Path.{sym, refl}
use Rattle.couplerfinch.proofs.put_checked.Goals as goal

pub returns-in-Ok : goal.returns-in-Ok
returns-in-Ok c = told_as checked_code checked_room (sym c.in-Ok.is) (refl, refl)

pub returns-in-Err : goal.returns-in-Err
returns-in-Err c = told_as checked_code checked_room (sym c.in-Err.is) (refused_room_lem c.in-Err.r 0 checked_done c.code_of.ensures c.place_of.ensures c.put_refused.ensures)
