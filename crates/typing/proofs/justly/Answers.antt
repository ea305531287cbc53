use mathlib.Core.Path.{ap, ◌∙◌}
use Rattle.typing.proofs.RuleLaws.{over_one}
use Rattle.rules.specs.Values.{is_plain}
use Rattle.rules.specs.Typing.{just_type}
use Rattle.typing.proofs.justly.Goals as goal

pub returns : goal.returns
returns c = over_one c.args.i c.wrong_unless-here.ensures (c.is_plain.ensures ∙ ap is_plain c.type_in.ensures) c.place_in-x_at.ensures c.sooner.ensures (c.just_type.ensures ∙ ap just_type c.type_in-2.ensures) c.typed_at.ensures
