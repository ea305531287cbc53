use Rattle.fields.proofs.ChildLaws.{in_a}
use Rattle.fields.proofs.child_a.Goals as goal

pub returns : goal.returns
returns c = cc (in_a c.args.k)
