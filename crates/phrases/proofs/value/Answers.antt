use mathlib.Core.Path.{sym, ◌∙◌}
use Rattle.texts.specs.Tokens.{token, part}
use Rattle.texts.specs.Steps as S
use Rattle.phrases.proofs.StepLaws as L
use Rattle.phrases.proofs.value.Goals as goal

pub returns-in_err-w : goal.returns-in_err-w
unfolding S.value
returns-in_err-w c = λ so. L.step_err _ _ _ _ _ (L.err_is _ _ c.from_residual.ensures.1) ∙ L.word_stop _ _ _ _ _ (c.next.ensures.0 so) _ _ c.in_err-w.was

pub returns-then-is_byte : goal.returns-then-is_byte
unfolding S.value token part
returns-then-is_byte c = λ so. c.maybe_from.ensures so ∙ L.value_opened _ _ _ _ so (sym c.is_byte.ensures ∙ c.if-is_byte.true) ∙ L.word_read _ _ _ _ _ (c.next.ensures.0 so) _ _ c.in_ok-w.was

pub returns : goal.returns
unfolding S.value token part
returns c = λ so. c.plain_value.ensures.0 so ∙ L.value_plain _ _ _ _ so (sym c.is_byte.ensures ∙ c.if-is_byte.false) ∙ L.word_read _ _ _ _ _ (c.next.ensures.0 so) _ _ c.in_ok-w.was
