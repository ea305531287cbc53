use Rattle.cells.proofs.Numbered.{Below}
use Rattle.rules.specs.Layout.{cells_before}
use lib.ListN.{length}
use mathlib.Core.Path.{◌≡◌}
use Rattle.cells.proofs.index_cells.Given as goal

abbrev pub invariant-loop-i : goal.invariant-loop-i
invariant-loop-i l = (l.seen ≡ cells_before l.p l.i) × (length l.index ≡ length l.initial.index) × Below l.p l.index l.i
