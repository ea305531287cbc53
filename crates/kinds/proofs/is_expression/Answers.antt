use Rattle.std.proofs.lemmas.Bool.Decides.{nat_tests}
use native.Mathlib.Omega.{arith}
use Rattle.rules.specs.Bytes.{◌and◌}
use Rattle.rules.specs.Kinds.{is_expression}
use Rattle.kinds.proofs.is_expression.Goals as goal

pub returns-in-16-to-29 : goal.returns-in-16-to-29
unfolding is_expression ◌and◌
returns-in-16-to-29 c = grind (arith, nat_tests)

pub returns-in_default : goal.returns-in_default
unfolding is_expression ◌and◌
returns-in_default c = grind (arith, nat_tests)

pub returns-in_default-2 : goal.returns-in_default-2
unfolding is_expression ◌and◌
returns-in_default-2 c = grind (arith, nat_tests)
