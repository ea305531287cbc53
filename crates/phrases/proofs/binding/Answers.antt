use mathlib.Core.Path.{◌∙◌}
use Rattle.texts.specs.Reader as R
use Rattle.phrases.proofs.StepLaws as L
use Rattle.phrases.proofs.binding.Goals as goal

pub returns-in_err-w : goal.returns-in_err-w
unfolding R.binding
returns-in_err-w c = (λ p. L.step_err _ _ _ _ _ (L.err_is _ _ c.from_residual.ensures.1) ∙ L.word_stop _ _ _ _ _ (c.variable.ensures.0 p) _ _ c.in_err-w.was, c.variable.ensures.2, c.variable.ensures.3, c.variable.ensures.4)

pub returns-in_err-t : goal.returns-in_err-t
unfolding R.binding
returns-in_err-t c = (λ p. L.step_err _ _ _ _ _ (L.err_is _ _ c.from_residual-in_err-t.ensures.1) ∙ L.step_stop _ _ _ _ _ (c.type_word.ensures.0 _) _ _ c.in_err-t.was ∙ L.word_read _ _ _ _ _ (c.variable.ensures.0 p) _ _ c.in_ok-w.was, c.variable.ensures.2, c.variable.ensures.3, c.variable.ensures.4)

pub returns : goal.returns
unfolding R.binding
returns c = let q = L.part_of _ _ c.variable.ensures.1 _ c.in_ok-w.was in (λ p. L.head_binds _ _ _ _ _ _ q.0 q.1 ∙ L.step_read _ _ _ _ _ (c.type_word.ensures.0 _) _ _ c.in_ok-t.was ∙ L.word_read _ _ _ _ _ (c.variable.ensures.0 p) _ _ c.in_ok-w.was, c.variable.ensures.2, c.variable.ensures.3, c.variable.ensures.4)
