use Rattle.cells.proofs.Rows.{Filling}
use Rattle.cells.proofs.index_rows.Given as goal

abbrev pub invariant-loop-i : goal.invariant-loop-i
invariant-loop-i l = Filling l.p l.i l.initial.index l.index
