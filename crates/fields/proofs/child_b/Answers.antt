use Rattle.fields.proofs.ChildLaws.{in_b}
use Rattle.fields.proofs.child_b.Goals as goal

pub returns : goal.returns
returns c = cc (in_b c.args.k)
