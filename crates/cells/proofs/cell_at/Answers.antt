use native.Mathlib.Omega.{arith}
use Rattle.rules.specs.Layout.{cell_at}
use Rattle.cells.proofs.cell_at.Goals as goal

pub overflow_mul-result : goal.overflow_mul-result
unfolding cell_at
overflow_mul-result c = omega arith

pub overflow_add-result : goal.overflow_add-result
unfolding cell_at
overflow_add-result c = omega arith

pub returns : goal.returns
unfolding cell_at
returns c = omega arith
