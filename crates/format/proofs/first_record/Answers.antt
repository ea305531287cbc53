use Prim.Native.Nat.{◌-◌}
use native.Mathlib.Omega.{arith}
use Rattle.rules.specs.Layout.{blocks, records}
use Rattle.rules.specs.Format.{record_wrong}
use Rattle.rules.proofs.First.{first_starts}
use Rattle.format.proofs.SearchLaws.{found, passed, none_left}
use Rattle.format.proofs.SumLaws.{most_bytes}
use Rattle.format.proofs.first_record.Goals as goal

pub overflow_mul-count : goal.overflow_mul-count
overflow_mul-count c = omega arith

pub loop-r-init : goal.loop-r-init
loop-r-init c = first_starts _ _

pub record_wrong-requires : goal.record_wrong-requires
unfolding blocks records
record_wrong-requires c = omega (arith, most_bytes _ c.requires)

pub overflow_cast-result : goal.overflow_cast-result
overflow_cast-result c = omega (arith, most_bytes _ c.requires)

pub returns-then-record_wrong : goal.returns-then-record_wrong
unfolding blocks records
returns-then-record_wrong c = found _ _ _ c.loop-r.invariant _ (omega arith) c.record_wrong.ensures c.if-record_wrong.true

pub loop-r-preserved : goal.loop-r-preserved
loop-r-preserved c = passed _ _ _ c.loop-r.invariant _ (omega arith) c.record_wrong.ensures c.if-record_wrong.false

pub returns : goal.returns
unfolding blocks records
returns c = none_left _ _ _ c.loop-r.invariant (omega arith)
