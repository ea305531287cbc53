use Rattle.rules.specs.Format.{sum_wrong}
use Rattle.rules.specs.Layout.{blocks, block_at, check_in}
use native.Mathlib.Omega.{arith}
use Rattle.format.proofs.sum_wrong.Goals as goal

pub overflow_mul-at : goal.overflow_mul-at
unfolding blocks
overflow_mul-at c = omega arith

pub overflow_add-at : goal.overflow_add-at
unfolding blocks
overflow_add-at c = omega arith

pub u32_at-requires : goal.u32_at-requires
unfolding blocks
u32_at-requires c = omega arith

pub check_sum-requires : goal.check_sum-requires
unfolding blocks
check_sum-requires c = omega arith

pub returns : goal.returns
unfolding sum_wrong check_in block_at
returns c = cc
