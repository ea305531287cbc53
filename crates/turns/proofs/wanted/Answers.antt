use mathlib.Core.Path.{refl}
use native.Mathlib.Omega.{arith}
use borrow.Author.Tests.{lt-ltb, le-ltb}
use Rattle.turns.specs.Decided.{wanted}
use Rattle.turns.proofs.wanted.Goals as goal

pub returns-then-steps-lt-MOST_RECORDS : goal.returns-then-steps-lt-MOST_RECORDS
unfolding wanted
returns-then-steps-lt-MOST_RECORDS c = rw (lt-ltb c.args.steps 4096 (omega (arith, c.if-steps-lt-MOST_RECORDS.true))) (refl, omega arith)

pub returns : goal.returns
unfolding wanted
returns c = rw (le-ltb c.args.steps 4096 (omega (arith, c.if-steps-lt-MOST_RECORDS.false))) (refl, omega arith)
