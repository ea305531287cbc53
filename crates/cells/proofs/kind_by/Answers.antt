use mathlib.Core.Path.{◌∙◌}
use native.Mathlib.Omega.{arith}
use Rattle.cells.proofs.kind_by.Goals as goal

pub overflow_cast-result : goal.overflow_cast-result
overflow_cast-result c = let r = c.requires.0.rows c.args.i c.requires.2 in omega (arith, c.column.ensures.0, r.kind_is, r.small.0)

pub returns : goal.returns
returns c = let r = c.requires.0.rows c.args.i c.requires.2 in c.column.ensures.0 ∙ r.kind_is
