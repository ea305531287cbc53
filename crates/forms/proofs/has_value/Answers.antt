use mathlib.Core.Path.{◌∙◌}
use Rattle.forms.proofs.KindLaws.{valued}
use Rattle.forms.proofs.has_value.Goals as goal

pub returns : goal.returns
returns c = c.either.ensures ∙ valued c.args.k
