use mathlib.Core.Path.{◌≡◌}
use Rattle.rules.specs.Layout.{cells_before}
use Rattle.cells.proofs.count_cells.Given as goal

abbrev pub invariant-loop-i : goal.invariant-loop-i
invariant-loop-i l = l.seen ≡ cells_before l.p l.i
