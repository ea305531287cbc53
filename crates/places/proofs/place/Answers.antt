use mathlib.Core.Path.{sym}
use native.Mathlib.Omega.{arith}
use Rattle.places.proofs.NumberLaws.{placed, unplaced}
use Rattle.places.proofs.place.Goals as goal

pub returns-then-m-lt-NOWHERE : goal.returns-then-m-lt-NOWHERE
returns-then-m-lt-NOWHERE c = sym (placed c.args.m c.if-m-lt-NOWHERE.true)

pub returns-else-m-lt-NOWHERE : goal.returns-else-m-lt-NOWHERE
returns-else-m-lt-NOWHERE c = sym (unplaced c.args.m (omega (arith, c.if-m-lt-NOWHERE.false)))
