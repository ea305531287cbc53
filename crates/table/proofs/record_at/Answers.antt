use Rattle.rules.specs.Layout.{records, blocks, record_at, block_at}
use native.Mathlib.Omega.{arith}
use Rattle.table.proofs.record_at.Goals as goal

pub overflow_mul-result : goal.overflow_mul-result
unfolding records blocks
overflow_mul-result c = omega arith

pub overflow_add-result : goal.overflow_add-result
unfolding records blocks
overflow_add-result c = omega arith

pub overflow_add-result-2 : goal.overflow_add-result-2
unfolding records blocks
overflow_add-result-2 c = omega arith

pub returns : goal.returns
unfolding records blocks record_at block_at
returns c = omega arith
