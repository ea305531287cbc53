use Rattle.std.proofs.lemmas.Bool.Decides.{nat_tests}
use native.Mathlib.Omega.{arith}
use Rattle.rules.specs.Bytes.{◌or◌}
use Rattle.rules.specs.Layout.{has_cell}
use Rattle.cells.proofs.has_cell.Goals as goal

pub returns-in_default : goal.returns-in_default
unfolding has_cell ◌or◌
returns-in_default c = grind (arith, nat_tests)

pub returns-in_default-2 : goal.returns-in_default-2
unfolding has_cell ◌or◌
returns-in_default-2 c = grind (arith, nat_tests)

pub returns-in-4 : goal.returns-in-4
unfolding has_cell ◌or◌
returns-in-4 c = grind (arith, nat_tests)

pub returns-in-4-2 : goal.returns-in-4-2
unfolding has_cell ◌or◌
returns-in-4-2 c = grind (arith, nat_tests)
