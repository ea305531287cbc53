use Rattle.outcomes.proofs.Numbers.{exact_value}
use Rattle.outcomes.proofs.Counted.{value_fits_lem, held_gives}
use Rattle.rules.specs.Values.{packed, unpacked}
use native.Mathlib.Omega.{arith}
use Rattle.outcomes.proofs.held.Goals as goal

pub overflow_add-result : goal.overflow_add-result
overflow_add-result c = omega (arith, value_fits_lem (packed (unpacked c.args.m)) 1 (exact_value c.args.m) (omega arith) (omega (arith, c.exactly.ensures)), c.exactly.ensures)

pub returns : goal.returns
returns c = held_gives c.args.m c.exactly.ensures
