use Rattle.typing.proofs.RuleLaws.{over_two}
use Rattle.typing.proofs.grouping.Goals as goal

pub returns : goal.returns
returns c = over_two c.args.i c.same_in.ensures c.place_in-body_at.ensures c.place_in-brs_at.ensures c.type_in.ensures c.under.ensures c.typed_at.ensures
