use mathlib.Core.Path.{sym, ◌∙◌}
use Rattle.texts.specs.Tokens.{part}
use Rattle.spell.specs.Vocabulary.{listed}
use Rattle.phrases.specs.Gave.{gave}
use Rattle.phrases.proofs.StepLaws as L
use Rattle.phrases.proofs.maybe_value.Goals as goal

pub returns-then-spells : goal.returns-then-spells
unfolding listed part
returns-then-spells c = λ so. c.some_value.ensures so ∙ L.maybe_some _ _ _ _ so (sym c.spells.ensures ∙ c.if-spells.true)

pub returns-then-spells-2 : goal.returns-then-spells-2
unfolding listed part
returns-then-spells-2 c = λ so. c.none_value.ensures so ∙ L.maybe_none _ _ _ _ so (sym c.spells.ensures ∙ c.if-spells.false) (sym c.spells-2.ensures ∙ c.if-spells-2.true)

pub returns : goal.returns
unfolding gave listed part
returns c = λ so. L.maybe_other _ _ _ _ so (sym c.spells.ensures ∙ c.if-spells.false) (sym c.spells-2.ensures ∙ c.if-spells-2.false)
