use mathlib.Core.Path.{sym, ap, ◌∙◌}
use native.Mathlib.Omega.{arith}
use Rattle.std.specs.Prelude.{Err}
use Rattle.texts.specs.Tokens.{part}
use Rattle.texts.specs.Steps as S
use Rattle.phrases.specs.Gave.{gave}
use Rattle.phrases.proofs.StepLaws as L
use Rattle.phrases.proofs.plain_value.Goals as goal

pub plain_word-requires-clause-no_number : goal.plain_word-requires-clause-no_number
unfolding part
plain_word-requires-clause-no_number c = L.number_other _ (sym c.number_of_word.ensures ∙ c.in-Err-Other.is ∙ ap Err c.in-Err-Other.field-0-is)

pub returns-in-Ok : goal.returns-in-Ok
unfolding S.plain part
returns-in-Ok c = (λ so. c.present_value.ensures.0 so _ ∙ L.plain_inside _ _ _ _ so _ (sym c.number_of_word.ensures ∙ c.in-Ok.is), c.present_value.ensures.1 (omega arith))

pub returns-in-Err-Outside : goal.returns-in-Err-Outside
unfolding gave part
returns-in-Err-Outside c = (λ so. L.plain_outside _ _ _ _ so (sym c.number_of_word.ensures ∙ c.in-Err-Outside.is ∙ ap Err c.in-Err-Outside.field-0-is), tt)
