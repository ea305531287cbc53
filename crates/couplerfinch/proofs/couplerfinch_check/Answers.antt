use Rattle.couplerfinch.specs.Room.{checked_code, checked_room}
use Rattle.couplerfinch.proofs.Telling.{told_as}
use Rattle.couplerfinch.proofs.couplerfinch_check.Goals as goal

pub returns : goal.returns
returns c = told_as checked_code checked_room c.check.ensures c.put_checked.ensures
