use Prim.Native.Nat.{◌+◌, ◌*◌, ◌≤◌}
use Rattle.lines.specs.Pen.{Puts}
use Rattle.lines.specs.Shown.{row_words}
use Rattle.lines.proofs.pen.Pen.row_words.Given as goal

abbrev pub invariant-loop-j : goal.invariant-loop-j
invariant-loop-j l = record { puts : Puts l.initial.self (row_words l.row l.j) l.self; below : l.self.at ≤ l.initial.self.at + 17 * l.j }
