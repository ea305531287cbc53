use Rattle.std.proofs.lemmas.Bool.Decides.{nat_tests}
use native.Mathlib.Omega.{arith}
use Rattle.rules.specs.Bytes.{◌and◌}
use Rattle.rules.specs.Values.{is_plain}
use Rattle.values.proofs.is_plain.Goals as goal

pub returns-in_default : goal.returns-in_default
unfolding is_plain ◌and◌
returns-in_default c = grind (arith, nat_tests)

pub returns-in_default-2 : goal.returns-in_default-2
unfolding is_plain ◌and◌
returns-in_default-2 c = grind (arith, nat_tests)

pub returns-in-1-to-3 : goal.returns-in-1-to-3
unfolding is_plain ◌and◌
returns-in-1-to-3 c = grind (arith, nat_tests)
