use Rattle.tidy.specs.Record.{new_rows, rows_from}
use Rattle.rules.specs.Bytes.{write_at}
use lib.ListN.{length, take}
use Prim.Native.Nat.{◌+◌, ◌*◌, ◌-◌}
use mathlib.Core.Path.{◌≡◌}
use Rattle.tidy.proofs.put_rows.Given as goal

abbrev pub invariant-loop-r : goal.invariant-loop-r
invariant-loop-r l = (length l.room ≡ length l.initial.room) × (write_at l.room (l.at + 12 * l.r) (rows_from (42 - l.r) (new_rows l.p l.new (take l.count l.order)) (l.first + l.r)) ≡ write_at l.initial.room l.at (rows_from 42 (new_rows l.p l.new (take l.count l.order)) l.first))
