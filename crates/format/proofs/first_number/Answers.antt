use Prim.Native.Nat.{◌-◌}
use native.Mathlib.Omega.{arith}
use Rattle.rules.specs.Layout.{blocks, records}
use Rattle.rules.specs.Format.{number_wrong}
use Rattle.rules.proofs.First.{first_starts}
use Rattle.format.proofs.SearchLaws.{found, passed, none_left}
use Rattle.format.proofs.SumLaws.{most_bytes}
use Rattle.format.proofs.first_number.Goals as goal

pub loop-j-init : goal.loop-j-init
loop-j-init c = first_starts _ _

pub number_wrong-requires : goal.number_wrong-requires
unfolding blocks records
number_wrong-requires c = omega arith

pub overflow_cast-result : goal.overflow_cast-result
overflow_cast-result c = omega (arith, most_bytes _ c.requires)

pub returns-then-number_wrong : goal.returns-then-number_wrong
unfolding blocks records
returns-then-number_wrong c = found _ _ _ c.loop-j.invariant _ (omega arith) c.number_wrong.ensures c.if-number_wrong.true

pub loop-j-preserved : goal.loop-j-preserved
loop-j-preserved c = passed _ _ _ c.loop-j.invariant _ (omega arith) c.number_wrong.ensures c.if-number_wrong.false

pub returns : goal.returns
unfolding blocks records
returns c = none_left _ _ _ c.loop-j.invariant (omega arith)
