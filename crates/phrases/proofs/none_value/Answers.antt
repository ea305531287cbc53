use mathlib.Core.Path.{◌∙◌}
use Rattle.rules.specs.Values.{maybe_of}
use Rattle.phrases.specs.Gave.{written, none_value}
use Rattle.phrases.proofs.StepLaws as L
use Rattle.phrases.proofs.none_value.Goals as goal

pub returns-in_err-t : goal.returns-in_err-t
unfolding none_value
returns-in_err-t c = λ so. L.step_err _ _ _ _ _ (L.err_is _ _ c.from_residual.ensures.1) ∙ L.step_stop _ _ _ _ _ (c.type_word.ensures.0 so ∙ L.type_plain _ _ so) _ _ c.in_err-t.was

pub returns : goal.returns
unfolding none_value written maybe_of
returns c = λ so. c.closed.ensures so ∙ L.step_read _ _ _ _ _ (c.type_word.ensures.0 so ∙ L.type_plain _ _ so) _ _ c.in_ok-t.was
