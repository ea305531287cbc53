use mathlib.Core.Path.{refl}
use native.Mathlib.Omega.{arith}
use Rattle.steps.proofs.StepLaws.{some, eval_ready, told, root_small, displayed_root}
use Rattle.peek.proofs.PeekLaws.{row_shown}
use Rattle.peek.proofs.show_listed.Goals as goal

pub overflow_sub-count : goal.overflow_sub-count
overflow_sub-count c = omega (arith, some c.requires.0)

pub noted-outcome-requires : goal.noted-outcome-requires
noted-outcome-requires c = (eval_ready c.requires.0 _ refl, omega (arith, c.requires.2, c.room-1.given), c.requires.3)

pub display-requires : goal.display-requires
display-requires c = (c.noted-outcome.ensures.1, root_small c.requires.0 _ _ c.noted-outcome.ensures.0, c.requires.1)

pub returns : goal.returns
returns c = let a = c.args in
    (displayed_root c.requires.0 _ _ c.noted-outcome.ensures.0 c.display.ensures, c.noted-outcome.ensures.2, row_shown c.requires.0 _ _ a.list.now a.row a.room.now c.put.ensures c.noted-outcome.ensures.3, told c.requires.0 _ _ c.noted-outcome.ensures.4)
