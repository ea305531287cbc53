use Rattle.outcomes.proofs.Numbers.{proper_value}
use Rattle.outcomes.proofs.Counted.{value_fits_lem, outcome_gives}
use Rattle.rules.specs.Values.{packed}
use native.Mathlib.Omega.{arith}
use Rattle.outcomes.proofs.outcome.Goals as goal

pub overflow_add-result : goal.overflow_add-result
overflow_add-result c = omega (arith, value_fits_lem (packed c.args.v) c.args.count (proper_value c.args.v c.requires.0) c.requires.2 (omega (arith, c.pack.ensures)), c.pack.ensures)

pub returns : goal.returns
returns c = outcome_gives c.args.v c.args.count c.pack.ensures c.requires.0 c.requires.1 c.requires.2
