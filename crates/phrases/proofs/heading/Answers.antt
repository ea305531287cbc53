use mathlib.Core.Path.{◌∙◌}
use native.Mathlib.Omega.{arith}
use Rattle.phrases.proofs.StepLaws as L
use Rattle.phrases.proofs.heading.Goals as goal

pub returns-then-k-ne9 : goal.returns-then-k-ne9
returns-then-k-ne9 c = (λ p. c.typed.ensures.0 p ∙ L.heading_other _ _ _ _ _ _ c.if-k-ne9.true c.requires.f_value, c.typed.ensures.1, c.typed.ensures.2, omega (arith, c.typed.ensures.3))

pub returns-in_err-w : goal.returns-in_err-w
returns-in_err-w c = (λ p. L.step_err _ _ _ _ _ (L.err_is _ _ c.from_residual.ensures.1) ∙ L.word_stop _ _ _ _ _ (c.label.ensures.0 p) _ _ c.in_err-w.was ∙ L.heading_branch _ _ _ _ c.if-k-ne9.false, c.label.ensures.2, omega (arith, c.label.ensures.4), c.label.ensures.3)

pub returns : goal.returns
returns c = let q = L.part_of _ _ c.label.ensures.1 _ c.in_ok-w.was in (λ p. c.typed-2.ensures.0 p ∙ L.typed_named _ _ _ _ _ _ _ _ q.0 q.1 c.requires.f_value ∙ L.word_read _ _ _ _ _ (c.label.ensures.0 p) _ _ c.in_ok-w.was ∙ L.heading_branch _ _ _ _ c.if-k-ne9.false, c.typed-2.ensures.1, omega (arith, c.typed-2.ensures.2, c.label.ensures.4), omega (arith, c.typed-2.ensures.3, c.label.ensures.3))
