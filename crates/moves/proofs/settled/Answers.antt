use Rattle.moves.proofs.NumberLaws.{moved_stuck, settled_stays, settled_jumps}
use Rattle.moves.specs.Outcomes.{calm_of}
use native.Mathlib.Omega.{arith}
use Rattle.moves.proofs.settled.Goals as goal

pub returns-then-r-eq0 : goal.returns-then-r-eq0
unfolding calm_of
returns-then-r-eq0 c = rw (c.if-r-eq0.true, moved_stuck)

pub returns-then-r-lt1048576 : goal.returns-then-r-lt1048576
returns-then-r-lt1048576 c = settled_stays c.args.r (omega arith) (omega arith)

pub returns : goal.returns
returns c = settled_jumps c.args.r (omega arith)
