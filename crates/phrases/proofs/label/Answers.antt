use mathlib.Core.Path.{refl, ◌∙◌}
use native.Mathlib.Omega.{arith}
use Rattle.texts.specs.Steps as S
use Rattle.phrases.specs.Gave.{with_names, gave_word}
use Rattle.phrases.proofs.StepLaws as L
use Rattle.phrases.proofs.label.Goals as goal

pub returns-in_err-w : goal.returns-in_err-w
unfolding S.label
returns-in_err-w c = (λ p. L.word_err _ _ _ _ _ (L.err_is _ _ c.from_residual.ensures.1) ∙ L.word_stop _ _ _ _ _ (c.fresh.ensures.0 p) _ _ c.in_err-w.was, L.part_err _ _ _ (L.err_is _ _ c.from_residual.ensures.1), c.requires.tables.long, omega arith, refl)

pub returns : goal.returns
unfolding gave_word with_names S.label
returns c = let q = L.part_of _ _ c.fresh.ensures.1 _ c.in_ok-w.was in let k = L.kept_branch _ c.requires.tables _ _ _ c.requires.names_bound c.note.ensures in (λ p. L.got_branch p _ _ c.requires.tables _ _ q.0 q.1 _ c.requires.names_bound c.note.ensures ∙ L.word_read _ _ _ _ _ (c.fresh.ensures.0 p) _ _ c.in_ok-w.was, q, k.0, k.1, k.2)
