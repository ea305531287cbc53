use Rattle.sealing.specs.Scratch.{count_in}
use Rattle.sealing.specs.Found.{found_from, found_in}
use Rattle.labels.specs.Noted.{named_by}
use Prim.Native.Nat.{◌-◌}
use mathlib.Core.Path.{◌≡◌}
use Rattle.sealing.proofs.row_named.Given as goal

abbrev pub invariant-loop-j : goal.invariant-loop-j
invariant-loop-j l = found_in (named_by l.text l.start l.end) l.text l.rows l.column ≡ found_from (named_by l.text l.start l.end) l.text l.rows l.column (count_in l.rows - l.j) l.j
