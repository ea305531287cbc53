use Rattle.typing.proofs.RuleLaws.{over_one, test_right}
use Rattle.typing.proofs.delayed.Goals as goal

pub returns : goal.returns
returns c = over_one c.args.i c.wrong_unless-here.ensures (test_right c.args.t c.type_in.ensures) c.place_in-x_at.ensures c.sooner.ensures c.type_in-2.ensures c.typed_at.ensures
