use native.Mathlib.Omega.{arith}
use Rattle.cells.proofs.value_by.Goals as goal

pub returns : goal.returns
returns c = let r = c.requires.0.rows c.args.i c.requires.2 in omega (arith, c.column.ensures.0, c.column-2.ensures.0, c.column-3.ensures.0, c.column-4.ensures.0, r.value_is)
