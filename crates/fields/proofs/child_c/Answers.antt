use Rattle.fields.proofs.ChildLaws.{in_c}
use Rattle.fields.proofs.child_c.Goals as goal

pub returns : goal.returns
returns c = cc (in_c c.args.k)
