use mathlib.Core.Path.{◌∙◌}
use Rattle.texts.specs.Reader as R
use Rattle.phrases.specs.Gave.{written}
use Rattle.phrases.proofs.StepLaws as L
use Rattle.phrases.proofs.value_head.Goals as goal

pub returns-in_err-r : goal.returns-in_err-r
unfolding R.typed
returns-in_err-r c = λ so. L.step_err _ _ _ _ _ (L.err_is _ _ c.from_residual.ensures.1) ∙ L.step_stop _ _ _ _ _ (c.value.ensures so) _ _ c.in_err-r.was

pub returns : goal.returns
unfolding R.typed written
returns c = λ so. L.head_none _ _ _ _ _ _ so ∙ L.step_read _ _ _ _ _ (c.value.ensures so) _ _ c.in_ok-r.was
