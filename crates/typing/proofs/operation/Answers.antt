use Rattle.typing.proofs.RuleLaws.{over_two, tests_right}
use Rattle.typing.proofs.operation.Goals as goal

pub returns : goal.returns
returns c = over_two c.args.i (tests_right c.type_in.ensures c.operand_type-t.ensures c.type_in-2.ensures c.operand_type-t.ensures c.both-right.ensures) c.place_in-x_at.ensures c.place_in-y_at.ensures c.result_type.ensures c.under.ensures c.typed_at.ensures
