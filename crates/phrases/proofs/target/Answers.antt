use mathlib.Core.Path.{sym, ◌∙◌}
use Rattle.texts.specs.Tokens.{token, part}
use Rattle.texts.specs.Steps as S
use Rattle.phrases.specs.Gave.{gave_word}
use Rattle.phrases.proofs.StepLaws as L
use Rattle.phrases.proofs.target.Goals as goal

pub returns-in_err-w : goal.returns-in_err-w
unfolding S.target
returns-in_err-w c = (λ so. L.word_err _ _ _ _ _ (L.err_is _ _ c.from_residual.ensures.1) ∙ L.word_stop _ _ _ _ _ (c.name.ensures.0 so) _ _ c.in_err-w.was, L.part_err _ _ _ (L.err_is _ _ c.from_residual.ensures.1))

pub returns-then-is_target : goal.returns-then-is_target
unfolding gave_word S.target token part
returns-then-is_target c = (λ so. L.given_on _ _ _ _ _ (sym c.is_target.ensures ∙ c.if-is_target.true) ∙ L.word_read _ _ _ _ _ (c.name.ensures.0 so) _ _ c.in_ok-w.was, L.part_of _ _ c.name.ensures.1 _ c.in_ok-w.was)

pub returns : goal.returns
unfolding gave_word S.target token part
returns c = (λ so. L.given_off _ _ _ _ _ (sym c.is_target.ensures ∙ c.if-is_target.false) ∙ L.word_read _ _ _ _ _ (c.name.ensures.0 so) _ _ c.in_ok-w.was, tt)
