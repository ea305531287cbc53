use Rattle.moves.specs.Outcomes.{count_in}
use Rattle.moves.proofs.NumberLaws.{stays_same, stays_none}
use native.Mathlib.Omega.{arith}
use Rattle.moves.proofs.stay.Goals as goal

pub returns-then-r-lt1048576 : goal.returns-then-r-lt1048576
returns-then-r-lt1048576 c = (stays_same c.args.r (omega arith), omega arith)

pub returns-else-r-lt1048576 : goal.returns-else-r-lt1048576
unfolding count_in
returns-else-r-lt1048576 c = (stays_none c.args.r (omega arith), omega arith)
