use Rattle.mission.proofs.Demands.{check_demands}
use Rattle.demands.proofs.check.Goals as goal

pub returns : goal.returns
returns c = check_demands _ c.check.ensures
