use Rattle.cells.specs.Indexed.{SignalsKept, ListedFrom}
use lib.ListN.{length}
use mathlib.Core.Path.{◌≡◌}
use Rattle.cells.proofs.index_branches.Given as goal

abbrev pub invariant-loop-i : goal.invariant-loop-i
invariant-loop-i l = (length l.index ≡ length l.initial.index) × ListedFrom l.i l.p l.index × SignalsKept l.p l.initial.index l.index
