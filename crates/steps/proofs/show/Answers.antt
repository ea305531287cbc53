use Rattle.steps.proofs.StepLaws.{some, eval_ready, told, root_small, displayed_root}
use native.Mathlib.Omega.{arith}
use mathlib.Core.Path.{refl}
use Rattle.steps.proofs.show.Goals as goal

pub overflow_sub-count : goal.overflow_sub-count
overflow_sub-count c = omega (arith, some c.requires.0)

pub evaluated-outcome-requires : goal.evaluated-outcome-requires
evaluated-outcome-requires c = (eval_ready c.requires.0 _ refl, c.requires.2)

pub display-requires : goal.display-requires
display-requires c = (c.evaluated-outcome.ensures.1, root_small c.requires.0 _ _ c.evaluated-outcome.ensures.0, c.requires.1)

pub returns : goal.returns
returns c = (displayed_root c.requires.0 _ _ c.evaluated-outcome.ensures.0 c.display.ensures, c.evaluated-outcome.ensures.2, told c.requires.0 _ _ c.evaluated-outcome.ensures.3)
