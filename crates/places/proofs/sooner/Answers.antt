-- The smaller number is returned, and it is the smaller of the two places.
use native.Mathlib.Omega.{arith}
use Rattle.places.proofs.NumberLaws.{smaller_sooner}
use Rattle.places.proofs.sooner.Goals as goal

pub returns-then-x-y : goal.returns-then-x-y
returns-then-x-y c = (smaller_sooner c.args.x c.args.y c.if-x-y.true).0

pub returns-else-x-y : goal.returns-else-x-y
returns-else-x-y c = (smaller_sooner c.args.y c.args.x (omega (arith, c.if-x-y.false))).1
