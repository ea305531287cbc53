use Rattle.tidy.proofs.BlockLaws.{block_written}
use Rattle.tidy.proofs.RowLaws.{sets_long}
use Rattle.rules.specs.Bytes.{byte_at}
use Rattle.rules.specs.Layout.{edition, edition_in, block_at}
use lib.ListN.{get_or, length-set}
use Prim.Native.Nat.{◌+◌, ◌*◌}
use mathlib.Core.Path.{◌∙◌}
use native.Mathlib.Omega.{arith}
use Rattle.tidy.proofs.put_block.Goals as goal

pub bounds-room-at-2 : goal.bounds-room-at-2
bounds-room-at-2 c = let e = length-set c.put.new.s (512 * c.args.j + 2) c.args.blocks in omega (arith, e, c.put.auto.s, c.requires.4)

pub put_rows-requires : goal.put_rows-requires
put_rows-requires c = let e = sets_long c.put.new.s (512 * c.args.j + 2) (512 * c.args.j + 3) c.args.blocks (get_or c.args.p.now 3 0) in (c.requires.0, c.requires.2, c.requires.3, omega (arith, e, c.put.auto.s, c.requires.4), omega (arith, c.requires.6))

pub check_sum-sum-requires : goal.check_sum-sum-requires
check_sum-sum-requires c = let e = sets_long c.put.new.s (512 * c.args.j + 2) (512 * c.args.j + 3) c.args.blocks (get_or c.args.p.now 3 0) in omega (arith, e, c.put.auto.s, c.put_rows.auto.room, c.requires.4)

pub put32-requires : goal.put32-requires
put32-requires c = let e = sets_long c.put.new.s (512 * c.args.j + 2) (512 * c.args.j + 3) c.args.blocks (get_or c.args.p.now 3 0) in omega (arith, e, c.put.auto.s, c.put_rows.auto.room, c.requires.4)

pub shape_of-room : goal.shape_of-room
shape_of-room c = let e = sets_long c.put.new.s (512 * c.args.j + 2) (512 * c.args.j + 3) c.args.blocks (get_or c.args.p.now 3 0) in c.put32.auto.s ∙ c.put_rows.auto.room ∙ e ∙ c.put.auto.s

pub returns : goal.returns
unfolding edition edition_in block_at byte_at
returns c = block_written c.args.room.now c.args.j c.args.blocks (get_or c.args.p.now 3 0) _ c.requires.4 _ _ _ _ c.put.ensures c.put_rows.ensures c.check_sum-sum.ensures c.put32.ensures
