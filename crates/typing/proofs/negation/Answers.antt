use mathlib.Core.Path.{refl}
use Rattle.typing.proofs.RuleLaws.{over_one, test_right}
use Rattle.typing.proofs.negation.Goals as goal

pub returns : goal.returns
returns c = over_one c.args.i c.wrong_unless-here.ensures (test_right 2 c.type_in.ensures) c.place_in-x_at.ensures c.sooner.ensures refl c.typed_at.ensures
