use mathlib.Core.Path.{sym, ◌∙◌}
use native.Mathlib.Omega.{arith}
use Rattle.texts.specs.Tokens.{part}
use Rattle.texts.specs.Spelling.{type_word}
use Rattle.texts.specs.Steps as S
use Rattle.spell.specs.Vocabulary.{listed}
use Rattle.phrases.specs.Gave.{gave}
use Rattle.phrases.proofs.StepLaws as L
use Rattle.phrases.proofs.plain_word.Goals as goal

pub returns-then-spells : goal.returns-then-spells
unfolding S.plain listed part
returns-then-spells c = (λ so. c.present_value.ensures.0 so _ ∙ L.plain_true _ _ _ _ so c.requires.no_number (sym c.spells.ensures ∙ c.if-spells.true), c.present_value.ensures.1 (omega arith))

pub returns-then-spells-2 : goal.returns-then-spells-2
unfolding S.plain listed part
returns-then-spells-2 c = (λ so. c.present_value-then-spells-2.ensures.0 so _ ∙ L.plain_false _ _ _ _ so c.requires.no_number (sym c.spells.ensures ∙ c.if-spells.false) (sym c.spells-2.ensures ∙ c.if-spells-2.true), c.present_value-then-spells-2.ensures.1 (omega arith))

pub returns-then-spells-3 : goal.returns-then-spells-3
unfolding S.plain listed type_word part
returns-then-spells-3 c = (λ so. c.present_value-then-spells-3.ensures.0 so _ ∙ L.plain_unit _ _ _ _ so c.requires.no_number (sym c.spells.ensures ∙ c.if-spells.false) (sym c.spells-2.ensures ∙ c.if-spells-2.false) (sym c.spells-3.ensures ∙ c.if-spells-3.true), c.present_value-then-spells-3.ensures.1 (omega arith))

pub returns : goal.returns
unfolding gave listed type_word part
returns c = (λ so. L.plain_none _ _ _ _ so c.requires.no_number (sym c.spells.ensures ∙ c.if-spells.false) (sym c.spells-2.ensures ∙ c.if-spells-2.false) (sym c.spells-3.ensures ∙ c.if-spells-3.false), tt)
