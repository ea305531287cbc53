use Rattle.tidy.proofs.RowLaws.{rows_step, rows_start, rows_end}
use native.Mathlib.Omega.{arith}
use mathlib.Core.Path.{refl, sym, ◌∙◌}
use Rattle.sealing.proofs.put_rows.Goals as goal

pub loop-r-init : goal.loop-r-init
loop-r-init c = (refl, rows_start _ _ _ _)

pub put_row-requires : goal.put_row-requires
put_row-requires c = omega (arith, c.loop-r-test.true, c.requires.1, c.loop-r.invariant.0)

pub loop-r-preserved : goal.loop-r-preserved
loop-r-preserved c = (c.put_row.auto.room ∙ c.loop-r.invariant.0, rows_step _ _ _ _ _ _ _ c.loop-r-test.true c.put_row.ensures c.record_at-n.ensures ∙ c.loop-r.invariant.1)

pub shape_of-room : goal.shape_of-room
shape_of-room c = c.loop-r.invariant.0

pub returns : goal.returns
returns c = sym (rows_end _ _ _ _ _ c.loop-r-test.false) ∙ c.loop-r.invariant.1
