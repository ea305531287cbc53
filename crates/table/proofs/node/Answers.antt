use Rattle.table.proofs.AtPlace.{at_place}
use Rattle.table.proofs.node.Goals as goal

pub returns : goal.returns
returns c = at_place c.args.p.now c.args.i c.node_at-at.ensures.0 c.read.ensures
