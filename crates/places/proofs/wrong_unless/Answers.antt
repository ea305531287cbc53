use Rattle.rules.specs.Places.{wrong_unless}
use Rattle.places.specs.Numbers.{place_in}
use Rattle.places.proofs.NumberLaws.{placed}
use native.Mathlib.Omega.{arith}
use Rattle.places.proofs.wrong_unless.Goals as goal

pub returns-then-right : goal.returns-then-right
unfolding wrong_unless place_in
returns-then-right c = rw c.if-right.true

pub returns-else-right : goal.returns-else-right
unfolding wrong_unless
returns-else-right c = rw c.if-right.false (placed c.args.n (omega (arith, c.requires)))
