use Rattle.rules.specs.Layout.{blocks, records}
use native.Mathlib.Omega.{arith}
use Rattle.format.proofs.RecordLaws.{end_place}
use Rattle.format.proofs.may_end.Goals as goal

pub overflow_sub-result : goal.overflow_sub-result
unfolding records blocks
overflow_sub-result c = omega (arith, c.requires)

pub returns : goal.returns
unfolding blocks
returns c = end_place c.args.p.now c.args.r c.requires
