use Rattle.std.proofs.lemmas.Bool.Decides.{nat_tests}
use native.Mathlib.Omega.{arith}
use Rattle.rules.specs.Bytes.{◌and◌}
use Rattle.rules.specs.Kinds.{is_signal}
use Rattle.kinds.proofs.is_signal.Goals as goal

pub returns-in-1-to-8 : goal.returns-in-1-to-8
unfolding is_signal ◌and◌
returns-in-1-to-8 c = grind (arith, nat_tests)

pub returns-in_default : goal.returns-in_default
unfolding is_signal ◌and◌
returns-in_default c = grind (arith, nat_tests)

pub returns-in_default-2 : goal.returns-in_default-2
unfolding is_signal ◌and◌
returns-in_default-2 c = grind (arith, nat_tests)
