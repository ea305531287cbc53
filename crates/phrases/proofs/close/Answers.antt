use mathlib.Core.Path.{sym, ◌∙◌}
use Rattle.texts.specs.Tokens.{token, part}
use Rattle.texts.specs.Steps as S
use Rattle.phrases.specs.Gave.{gave_word}
use Rattle.phrases.proofs.StepLaws as L
use Rattle.phrases.proofs.close.Goals as goal

pub returns-in_err-w : goal.returns-in_err-w
unfolding S.expect
returns-in_err-w c = λ so. L.word_err _ _ _ _ _ (L.err_is _ _ c.from_residual.ensures.1) ∙ L.word_stop _ _ _ _ _ (c.next.ensures.0 so) _ _ c.in_err-w.was

pub returns-then-is_byte : goal.returns-then-is_byte
unfolding gave_word S.expect token part
returns-then-is_byte c = λ so. L.given_true _ _ _ _ (sym c.is_byte.ensures ∙ c.if-is_byte.true) ∙ L.word_read _ _ _ _ _ (c.next.ensures.0 so) _ _ c.in_ok-w.was

pub returns : goal.returns
unfolding gave_word S.expect token part
returns c = λ so. L.given_false _ _ _ _ (sym c.is_byte.ensures ∙ c.if-is_byte.false) ∙ L.word_read _ _ _ _ _ (c.next.ensures.0 so) _ _ c.in_ok-w.was
