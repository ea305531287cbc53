use mathlib.Core.Path.{◌∙◌}
use Rattle.texts.specs.Tokens.{token, part}
use Rattle.texts.specs.Steps as S
use Rattle.phrases.specs.Gave.{gave}
use Rattle.phrases.proofs.StepLaws as L
use Rattle.phrases.proofs.type_word.Goals as goal

pub returns-in_err-w : goal.returns-in_err-w
unfolding S.type
returns-in_err-w c = (λ so. L.step_err _ _ _ _ _ (L.err_is _ _ c.from_residual.ensures.1) ∙ L.word_stop _ _ _ _ _ (c.next.ensures.0 so) _ _ c.in_err-w.was, L.below_err _ _ _ (L.err_is _ _ c.from_residual.ensures.1))

pub returns-in-Some : goal.returns-in-Some
unfolding gave S.type token part
returns-in-Some c = (λ so. L.type_some _ _ _ _ so _ _ c.type_named-named.ensures c.in-Some.is ∙ L.word_read _ _ _ _ _ (c.next.ensures.0 so) _ _ c.in_ok-w.was, L.type_small _ _ _ _ c.type_named-named.ensures c.in-Some.is)

pub returns-in-None : goal.returns-in-None
unfolding gave S.type token part
returns-in-None c = (λ so. L.type_none _ _ _ _ so _ c.type_named-named.ensures c.in-None.is ∙ L.word_read _ _ _ _ _ (c.next.ensures.0 so) _ _ c.in_ok-w.was, tt)
