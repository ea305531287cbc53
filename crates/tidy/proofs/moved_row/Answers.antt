use Rattle.tidy.proofs.RowLaws.{row_moved}
use Rattle.tidy.proofs.moved_row.Goals as goal

pub returns : goal.returns
returns c = row_moved c.args.p.now c.args.new.now c.args.o _ c.node-n.ensures _ _ _ _ _ c.child_a.ensures c.either.ensures c.child_b.ensures c.child_c.ensures c.either-2.ensures _ _ _ c.moved.ensures c.moved-2.ensures c.moved-3.ensures
