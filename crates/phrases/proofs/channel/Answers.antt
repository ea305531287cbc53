use mathlib.Core.Path.{sym, ap, ◌∙◌}
use Rattle.std.specs.Prelude.{Err}
use Rattle.texts.specs.Tokens.{token, part}
use Rattle.texts.specs.Steps as S
use Rattle.phrases.specs.Gave.{gave}
use Rattle.phrases.proofs.StepLaws as L
use Rattle.phrases.proofs.channel.Goals as goal

pub returns-in_err-w : goal.returns-in_err-w
unfolding S.channel
returns-in_err-w c = λ so. L.step_err _ _ _ _ _ (L.err_is _ _ c.from_residual.ensures.1) ∙ L.word_stop _ _ _ _ _ (c.next.ensures.0 so) _ _ c.in_err-w.was

pub returns-then-n-lt8 : goal.returns-then-n-lt8
unfolding gave S.channel token part
returns-then-n-lt8 c = λ so. L.channel_inside _ _ _ so _ (sym c.number_of_word.ensures ∙ c.in-Ok.is) c.if-n-lt8.true ∙ L.word_read _ _ _ _ _ (c.next.ensures.0 so) _ _ c.in_ok-w.was

pub returns-in-Err-Other : goal.returns-in-Err-Other
unfolding gave S.channel token part
returns-in-Err-Other c = λ so. L.channel_other _ _ _ so (sym c.number_of_word.ensures ∙ c.in-Err-Other.is ∙ ap Err c.in-Err-Other.field-0-is) ∙ L.word_read _ _ _ _ _ (c.next.ensures.0 so) _ _ c.in_ok-w.was

pub returns-in-Err-Outside : goal.returns-in-Err-Outside
unfolding gave S.channel token part
returns-in-Err-Outside c = λ so. L.channel_outside _ _ _ so (sym c.number_of_word.ensures ∙ c.in-Err-Outside.is ∙ ap Err c.in-Err-Outside.field-0-is) ∙ L.word_read _ _ _ _ _ (c.next.ensures.0 so) _ _ c.in_ok-w.was

pub returns-else-n-lt8 : goal.returns-else-n-lt8
unfolding gave S.channel token part
returns-else-n-lt8 c = λ so. L.channel_above _ _ _ so _ (sym c.number_of_word.ensures ∙ c.in-Ok.is) c.if-n-lt8.false ∙ L.word_read _ _ _ _ _ (c.next.ensures.0 so) _ _ c.in_ok-w.was
