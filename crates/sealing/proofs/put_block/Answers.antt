use Rattle.sealing.proofs.RecordLaws.{edition_kept}
use Rattle.tidy.proofs.RowLaws.{sets_long}
use Rattle.tidy.proofs.BlockLaws.{block_written}
use lib.ListN.{length-set}
use native.Mathlib.Omega.{arith}
use Prim.Native.Nat.{◌+◌, ◌*◌}
use mathlib.Core.Path.{◌∙◌}
use Rattle.sealing.proofs.put_block.Goals as goal

pub bounds-room-at-2 : goal.bounds-room-at-2
bounds-room-at-2 c = let e = length-set c.put.new.s (512 * c.args.j + 2) c.args.blocks in omega (arith, e, c.put.auto.s, c.requires.2)

pub put_rows-requires : goal.put_rows-requires
put_rows-requires c = let e = sets_long c.put.new.s (512 * c.args.j + 2) (512 * c.args.j + 3) c.args.blocks c.byte_of.result in (c.requires.0, omega (arith, e, c.put.auto.s, c.requires.2), omega (arith, c.requires.4))

pub check_sum-sum-requires : goal.check_sum-sum-requires
check_sum-sum-requires c = let e = sets_long c.put.new.s (512 * c.args.j + 2) (512 * c.args.j + 3) c.args.blocks c.byte_of.result in omega (arith, e, c.put.auto.s, c.put_rows.auto.room, c.requires.2)

pub put32-requires : goal.put32-requires
put32-requires c = let e = sets_long c.put.new.s (512 * c.args.j + 2) (512 * c.args.j + 3) c.args.blocks c.byte_of.result in omega (arith, e, c.put.auto.s, c.put_rows.auto.room, c.requires.2)

pub shape_of-room : goal.shape_of-room
shape_of-room c = let e = sets_long c.put.new.s (512 * c.args.j + 2) (512 * c.args.j + 3) c.args.blocks c.byte_of.result in c.put32.auto.s ∙ c.put_rows.auto.room ∙ e ∙ c.put.auto.s

pub returns : goal.returns
returns c = edition_kept _ _ _ _ _ (block_written c.args.room.now c.args.j c.args.blocks c.byte_of.result _ c.requires.2 _ _ _ _ c.put.ensures c.put_rows.ensures c.check_sum-sum.ensures c.put32.ensures) c.byte_of.ensures c.requires.1
