use Rattle.sealing.specs.Found.{records_in}
use Rattle.tidy.specs.Record.{rows_from}
use Rattle.rules.specs.Bytes.{write_at}
use lib.ListN.{length}
use Prim.Native.Nat.{◌+◌, ◌*◌, ◌-◌}
use mathlib.Core.Path.{◌≡◌}
use Rattle.sealing.proofs.put_rows.Given as goal

abbrev pub invariant-loop-r : goal.invariant-loop-r
invariant-loop-r l = (length l.room ≡ length l.initial.room) × (write_at l.room (l.at + 12 * l.r) (rows_from (42 - l.r) (records_in l.text l.rows) (l.first + l.r)) ≡ write_at l.initial.room l.at (rows_from 42 (records_in l.text l.rows) l.first))
