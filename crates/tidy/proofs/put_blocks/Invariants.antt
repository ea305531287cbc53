use Rattle.tidy.specs.Record.{new_rows}
use Rattle.written.specs.Table.{rows_bytes, blocks_from}
use Rattle.rules.specs.Layout.{edition}
use Rattle.rules.specs.Bytes.{write_at}
use lib.ListN.{length, take, drop}
use Prim.Native.Nat.{◌*◌, ◌-◌}
use mathlib.Core.Path.{◌≡◌}
use Rattle.tidy.proofs.put_blocks.Given as goal

abbrev pub invariant-loop-j : goal.invariant-loop-j
invariant-loop-j l = (length l.room ≡ length l.initial.room) × (write_at l.room (512 * l.j) (blocks_from (l.blocks - l.j) (edition l.p) l.blocks l.j (drop (504 * l.j) (rows_bytes (new_rows l.p l.new (take l.count l.order))))) ≡ write_at l.initial.room 0 (blocks_from l.blocks (edition l.p) l.blocks 0 (rows_bytes (new_rows l.p l.new (take l.count l.order)))))
