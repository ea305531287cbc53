use Rattle.outcomes.proofs.Counted.{value_fits_lem}
use Rattle.rules.specs.Layout.{hold_branch}
use native.Mathlib.Omega.{arith}
use Rattle.moves.proofs.hold_branch.Goals as goal

pub overflow_add-v : goal.overflow_add-v
overflow_add-v c = omega (arith, c.number.ensures, value_fits_lem c.args.v c.args.which c.requires.2 c.requires.1 (omega arith))

pub set_cell-requires : goal.set_cell-requires
set_cell-requires c = rw c.number_of.ensures c.requires.0.room

pub returns : goal.returns
unfolding hold_branch
returns c = rw (c.set_cell.ensures, c.number_of.ensures, c.number.ensures, c.requires.2)
