use mathlib.Core.Path.{◌∙◌}
use Rattle.rules.specs.Values.{maybe_of}
use Rattle.texts.specs.Tokens.{token}
use Rattle.phrases.specs.Gave.{written, some_value}
use Rattle.phrases.proofs.StepLaws as L
use Rattle.phrases.proofs.some_value.Goals as goal

pub returns-in_err-w : goal.returns-in_err-w
unfolding some_value
returns-in_err-w c = λ so. L.step_err _ _ _ _ _ (L.err_is _ _ c.from_residual.ensures.1) ∙ L.word_stop _ _ _ _ _ (c.next.ensures.0 so) _ _ c.in_err-w.was

pub returns-in_err-r : goal.returns-in_err-r
unfolding some_value token
returns-in_err-r c = λ so. L.step_err _ _ _ _ _ (L.err_is _ _ c.from_residual-in_err-r.ensures.1) ∙ L.step_stop _ _ _ _ _ (c.plain_value.ensures.0 so) _ _ c.in_err-r.was ∙ L.word_read _ _ _ _ _ (c.next.ensures.0 so) _ _ c.in_ok-w.was

pub returns : goal.returns
unfolding some_value token written maybe_of
returns c = λ so. c.closed.ensures so ∙ L.step_read _ _ _ _ _ (c.plain_value.ensures.0 so) _ _ c.in_ok-r.was ∙ L.word_read _ _ _ _ _ (c.next.ensures.0 so) _ _ c.in_ok-w.was
