use mathlib.Core.Path.{◌∙◌}
use Rattle.phrases.specs.Gave.{gave}
use Rattle.phrases.proofs.StepLaws as L
use Rattle.phrases.proofs.closed.Goals as goal

pub returns-in_err-w : goal.returns-in_err-w
returns-in_err-w c = λ so. L.step_err _ _ _ _ _ (L.err_is _ _ c.from_residual.ensures.1) ∙ L.word_stop _ _ _ _ _ (c.close.ensures so) _ _ c.in_err-w.was

pub returns : goal.returns
unfolding gave
returns c = λ so. L.word_read _ _ _ _ _ (c.close.ensures so) _ _ c.in_ok-w.was
