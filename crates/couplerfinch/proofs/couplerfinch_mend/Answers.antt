use Rattle.couplerfinch.proofs.Telling.{told_as}
use Rattle.couplerfinch.specs.Room.{mended_code, mended_room}
use Rattle.couplerfinch.proofs.couplerfinch_mend.Goals as goal

pub returns : goal.returns
returns c = let found = c.mend.ensures in let told = told_as mended_code mended_room found.0 c.put_mended.ensures in (told.0, told.1, found.1, found.2)
