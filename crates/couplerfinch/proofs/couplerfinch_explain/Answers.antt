use Rattle.couplerfinch.specs.Room.{explained_code, explained_room}
use Rattle.couplerfinch.proofs.Telling.{told_as}
use Rattle.couplerfinch.proofs.couplerfinch_explain.Goals as goal

pub returns : goal.returns
returns c = let found = c.explain.ensures in let told = told_as explained_code explained_room found.0 c.put_explained.ensures in (told.0, told.1, found.1)
