use native.Mathlib.Omega.{arith}
use Rattle.rules.specs.Work.{moved, ruleᵘ, afterᵘ, one_rule}
use Rattle.moves.proofs.NumberLaws.{moved_stuck, more_fits, more_moved}
use Rattle.moves.proofs.ruled.Goals as goal

pub returns-then-r-eq0 : goal.returns-then-r-eq0
unfolding moved ruleᵘ afterᵘ
returns-then-r-eq0 c = λ st. rw (c.if-r-eq0.true, moved_stuck)

pub overflow_add-result : goal.overflow_add-result
overflow_add-result c = omega (arith, more_fits c.args.r 1 (omega (arith, c.requires)) (omega arith))

pub returns : goal.returns
unfolding ruleᵘ one_rule
returns c = λ st. more_moved c.args.r 1 (omega (arith, c.requires)) (omega arith) st
