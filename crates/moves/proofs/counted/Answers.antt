use Rattle.moves.proofs.NumberLaws.{counted_plain, counted_marked}
use Rattle.moves.proofs.counted.Goals as goal

pub returns-then-u : goal.returns-then-u
returns-then-u c = counted_marked c.args.u c.requires c.if-u.true

pub returns : goal.returns
returns c = counted_plain c.args.u c.requires c.if-u.false
