use Rattle.std.proofs.lemmas.Bool.Decides.{nat_tests}
use native.Mathlib.Omega.{arith}
use Rattle.rules.specs.Bytes.{◌and◌}
use Rattle.rules.specs.Values.{is_maybe}
use Rattle.values.proofs.is_maybe.Goals as goal

pub returns-in_default : goal.returns-in_default
unfolding is_maybe ◌and◌
returns-in_default c = grind (arith, nat_tests)

pub returns-in_default-2 : goal.returns-in_default-2
unfolding is_maybe ◌and◌
returns-in_default-2 c = grind (arith, nat_tests)

pub returns-in-5-to-7 : goal.returns-in-5-to-7
unfolding is_maybe ◌and◌
returns-in-5-to-7 c = grind (arith, nat_tests)
