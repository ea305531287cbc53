use mathlib.Core.Path.{refl}
use Rattle.watchrun.proofs.TurnLaws.{goes_on}
use Rattle.watchrun.proofs.step.Goals as goal

pub returns-in_ok-put-in-Step-clause-counted : goal.returns-in_ok-put-in-Step-clause-counted
returns-in_ok-put-in-Step-clause-counted g c = λ _. goes_on _ _ c.args.run.now.steps c.args.run.now.total _ c.in-Step.ensures.turned refl
