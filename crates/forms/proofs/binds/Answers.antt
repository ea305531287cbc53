use mathlib.Core.Path.{◌∙◌}
use Rattle.rules.specs.Bytes.{◌or◌}
use Rattle.forms.proofs.KindLaws.{binding}
use Rattle.forms.proofs.binds.Goals as goal

pub returns : goal.returns
returns c = c.either-3.ensures ∙ (λ i. c.either.ensures i or c.either-2.ensures i) ∙ binding c.args.k
