use Rattle.rules.specs.Places.{wrong_if}
use Rattle.places.specs.Numbers.{place_in}
use Rattle.places.proofs.NumberLaws.{placed}
use native.Mathlib.Omega.{arith}
use Rattle.places.proofs.wrong_if.Goals as goal

pub returns-then-wrong : goal.returns-then-wrong
unfolding wrong_if
returns-then-wrong c = rw c.if-wrong.true (placed c.args.n (omega (arith, c.requires)))

pub returns-else-wrong : goal.returns-else-wrong
unfolding wrong_if place_in
returns-else-wrong c = rw c.if-wrong.false
