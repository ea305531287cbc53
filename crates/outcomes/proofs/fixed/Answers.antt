use Rattle.outcomes.proofs.Counted.{value_fits_lem, value_rule}
use native.Mathlib.Omega.{arith}
use Rattle.outcomes.proofs.fixed.Goals as goal

pub overflow_add-result : goal.overflow_add-result
overflow_add-result c = omega (arith, value_fits_lem c.args.m 1 c.requires (omega arith) (omega (arith, c.ranges.m)))

pub returns : goal.returns
returns c = value_rule c.args.m c.requires
