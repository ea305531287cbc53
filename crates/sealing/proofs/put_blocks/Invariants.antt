use Rattle.sealing.specs.Found.{records_in}
use Rattle.written.specs.Table.{rows_bytes, blocks_from}
use Rattle.rules.specs.Bytes.{write_at}
use lib.ListN.{length, drop}
use Prim.Native.Nat.{◌*◌, ◌-◌}
use mathlib.Core.Path.{◌≡◌}
use Rattle.sealing.proofs.put_blocks.Given as goal

abbrev pub invariant-loop-j : goal.invariant-loop-j
invariant-loop-j l = (length l.room ≡ length l.initial.room) × (write_at l.room (512 * l.j) (blocks_from (l.blocks - l.j) l.edition l.blocks l.j (drop (504 * l.j) (rows_bytes (records_in l.text l.rows)))) ≡ write_at l.initial.room 0 (blocks_from l.blocks l.edition l.blocks 0 (rows_bytes (records_in l.text l.rows))))
