use Rattle.cells.proofs.Rows.{filling, filled, whole}
use native.Mathlib.Omega.{arith}
use mathlib.Core.Path.{◌≡◌, ◌∙◌}
use Rattle.cells.proofs.index_rows.Goals as goal

pub loop-i-init : goal.loop-i-init
loop-i-init c = filling _ _

pub put_row-requires : goal.put_row-requires
put_row-requires c = (c.requires.0, omega (arith, c.requires.1), omega (arith, c.requires.2, c.loop-i.invariant.long))

pub loop-i-preserved : goal.loop-i-preserved
loop-i-preserved c = filled _ _ _ _ _ (omega (arith, c.requires.0.small, c.requires.1)) c.put_row.ensures c.loop-i.invariant

pub shape_of-index : goal.shape_of-index
shape_of-index c = c.loop-i.invariant.long

pub returns : goal.returns
returns c = let e : c.loop-i.i ≡ c.args.count = omega arith in whole _ _ _ _ c.requires.0 (e ∙ c.requires.1) c.requires.2 c.requires.3 c.requires.4 c.loop-i.invariant
