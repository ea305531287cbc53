use mathlib.Core.Path.{refl}
use Rattle.typing.proofs.RuleLaws.{over_three, tests_right}
use Rattle.typing.proofs.choice.Goals as goal

pub returns : goal.returns
returns c = over_three c.args.i (tests_right c.type_in.ensures refl c.type_in-2.ensures c.type_in-3.ensures c.both-right.ensures) c.place_in-test_at.ensures c.place_in-x_at.ensures c.place_in-y_at.ensures c.sooner-arms.ensures c.type_in-4.ensures c.under.ensures c.typed_at.ensures
