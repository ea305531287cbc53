use mathlib.Core.Path.{sym, ◌∙◌}
use Rattle.texts.specs.Tokens.{token, part}
use Rattle.texts.specs.Steps as S
use Rattle.phrases.specs.Gave.{with_names, gave_word}
use Rattle.phrases.proofs.StepLaws as L
use Rattle.phrases.proofs.fresh.Goals as goal

pub returns-in_err-w : goal.returns-in_err-w
unfolding S.fresh
returns-in_err-w c = (λ p. L.word_err _ _ _ _ _ (L.err_is _ _ c.from_residual.ensures.1) ∙ L.word_stop _ _ _ _ _ (c.name.ensures.0 _) _ _ c.in_err-w.was, L.part_err _ _ _ (L.err_is _ _ c.from_residual.ensures.1))

pub returns-then-is_noted : goal.returns-then-is_noted
unfolding gave_word S.fresh token with_names part
returns-then-is_noted c = (λ p. L.bound_variable _ _ _ (with_names p _ _) (sym c.is_noted.ensures ∙ c.if-is_noted.true) ∙ L.word_read _ _ _ _ _ (c.name.ensures.0 _) _ _ c.in_ok-w.was, tt)

pub returns-then-is_noted-2 : goal.returns-then-is_noted-2
unfolding gave_word S.fresh token with_names part
returns-then-is_noted-2 c = (λ p. L.bound_branch _ _ _ (with_names p _ _) (sym c.is_noted.ensures ∙ c.if-is_noted.false) (sym c.is_noted-2.ensures ∙ c.if-is_noted-2.true) ∙ L.word_read _ _ _ _ _ (c.name.ensures.0 _) _ _ c.in_ok-w.was, tt)

pub returns : goal.returns
unfolding gave_word S.fresh token with_names part
returns c = (λ p. L.bound_none _ _ _ (with_names p _ _) (sym c.is_noted.ensures ∙ c.if-is_noted.false) (sym c.is_noted-2.ensures ∙ c.if-is_noted-2.false) ∙ L.word_read _ _ _ _ _ (c.name.ensures.0 _) _ _ c.in_ok-w.was, L.part_of _ _ c.name.ensures.1 _ c.in_ok-w.was)
