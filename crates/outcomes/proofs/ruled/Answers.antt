use Rattle.outcomes.proofs.Counted.{more_fits, room_for, rule_stuck, rule_gives}
use native.Mathlib.Omega.{arith}
use Rattle.outcomes.proofs.ruled.Goals as goal

pub returns-then-r-eq0 : goal.returns-then-r-eq0
returns-then-r-eq0 c = rule_stuck c.args.r c.if-r-eq0.true

pub overflow_add-result : goal.overflow_add-result
overflow_add-result c = omega (arith, more_fits c.args.r 1 (room_for c.args.r c.if-r-eq0.false 1 (omega (arith, c.requires.1))) (omega arith))

pub returns : goal.returns
returns c = rule_gives c.args.r c.if-r-eq0.false c.requires.0 c.requires.1
