use mathlib.Core.Path.{ap, ◌∙◌}
use lib.Dec.{eqb}
use lib.Pointwise.{pointwise}
use Rattle.spell.proofs.PartLaws.{same_pointwise}
use Rattle.spell.proofs.is_byte.Goals as goal

pub returns : goal.returns
returns c = c.eq.ensures ∙ ap (pointwise eqb c.args.word.now) c.as_slice.ensures ∙ same_pointwise _ _
