use Rattle.shape.proofs.ChildLaws.{passed}
use Rattle.shape.proofs.children.Goals as goal

pub returns : goal.returns
returns c = passed c.node-n.ensures c.row_of-row.ensures _
    c.a_in.ensures c.b_in.ensures c.c_in.ensures
    c.one-a.ensures c.one-b.ensures c.one-c.ensures c.either.ensures c.either-2.ensures
