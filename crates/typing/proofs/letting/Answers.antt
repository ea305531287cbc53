use Rattle.typing.proofs.RuleLaws.{over_two, test_right}
use Rattle.typing.proofs.letting.Goals as goal

pub returns : goal.returns
returns c = over_two c.args.i (test_right c.args.t c.type_in-2.ensures) c.place_in-d_at.ensures c.place_in-b_at.ensures c.type_in.ensures c.under.ensures c.typed_at.ensures
