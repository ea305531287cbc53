use Rattle.tidy.proofs.RowLaws.{sets_long, row_written}
use lib.ListN.{length-set}
use Prim.Native.Nat.{◌+◌}
use mathlib.Core.Path.{◌∙◌}
use native.Mathlib.Omega.{arith}
use Rattle.tidy.proofs.put_row.Goals as goal

pub bounds-room-at-2 : goal.bounds-room-at-2
bounds-room-at-2 c = let e = length-set c.args.room.now c.args.at c.args.n.kind in omega (arith, e, c.requires)

pub put-requires : goal.put-requires
put-requires c = let e = sets_long c.args.room.now c.args.at (c.args.at + 1) c.args.n.kind c.args.n.ty in omega (arith, e, c.requires)

pub put-requires-2 : goal.put-requires-2
put-requires-2 c = let e = sets_long c.args.room.now c.args.at (c.args.at + 1) c.args.n.kind c.args.n.ty in omega (arith, e, c.put.auto.s, c.requires)

pub put-requires-3 : goal.put-requires-3
put-requires-3 c = let e = sets_long c.args.room.now c.args.at (c.args.at + 1) c.args.n.kind c.args.n.ty in omega (arith, e, c.put.auto.s, c.put-2.auto.s, c.requires)

pub put32-requires : goal.put32-requires
put32-requires c = let e = sets_long c.args.room.now c.args.at (c.args.at + 1) c.args.n.kind c.args.n.ty in omega (arith, e, c.put.auto.s, c.put-2.auto.s, c.put-3.auto.s, c.requires)

pub shape_of-room : goal.shape_of-room
shape_of-room c = let e = sets_long c.args.room.now c.args.at (c.args.at + 1) c.args.n.kind c.args.n.ty in c.put32.auto.s ∙ c.put-3.auto.s ∙ c.put-2.auto.s ∙ c.put.auto.s ∙ e

pub returns : goal.returns
returns c = row_written c.args.room.now _ _ _ _ c.args.at c.args.n c.put.ensures c.put-2.ensures c.put-3.ensures c.put32.ensures
