use Rattle.scope.proofs.DoorLaws.{limit_one, limit_two}
use Rattle.scope.proofs.within.Goals as goal

pub returns-then-p-eq0 : goal.returns-then-p-eq0
returns-then-p-eq0 c = limit_one _ _ _ c.if-p-eq0.true

pub returns : goal.returns
returns c = limit_two _ _ _ c.if-p-eq0.false
