use Rattle.couplerfinch.proofs.Telling.{told_as}
use Rattle.couplerfinch.specs.Room.{paired_code, paired_room}
use Rattle.couplerfinch.proofs.couplerfinch_paired.Goals as goal

pub returns : goal.returns
returns c = told_as paired_code paired_room c.paired.ensures c.put_paired.ensures
