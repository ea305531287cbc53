use Rattle.tidy.proofs.RowLaws.{rows_step, rows_start, rows_end}
use Prim.Native.Nat.{◌-◌}
use mathlib.Core.Path.{refl, sym, ◌∙◌}
use native.Mathlib.Omega.{arith}
use Rattle.tidy.proofs.put_rows.Goals as goal

pub loop-r-init : goal.loop-r-init
loop-r-init c = (refl, rows_start _ _ _ _)

pub overflow_add-first : goal.overflow_add-first
overflow_add-first c = omega (arith, c.requires.4)

pub row_at-n-requires : goal.row_at-n-requires
row_at-n-requires c = (c.requires.0, c.requires.1, c.requires.2)

pub overflow_mul-r : goal.overflow_mul-r
overflow_mul-r c = omega arith

pub overflow_add-at : goal.overflow_add-at
overflow_add-at c = omega (arith, c.requires.3)

pub put_row-requires : goal.put_row-requires
put_row-requires c = omega (arith, c.requires.3, c.loop-r.invariant.0)

pub loop-r-preserved : goal.loop-r-preserved
loop-r-preserved c = (c.put_row.auto.room ∙ c.loop-r.invariant.0, rows_step _ _ _ _ _ _ _ (omega arith) c.put_row.ensures c.row_at-n.ensures ∙ c.loop-r.invariant.1)

pub shape_of-room : goal.shape_of-room
shape_of-room c = c.loop-r.invariant.0

pub returns : goal.returns
returns c = sym (rows_end _ _ _ _ _ (omega arith)) ∙ c.loop-r.invariant.1
