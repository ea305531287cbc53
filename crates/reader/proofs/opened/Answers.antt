use Rattle.texts.specs.Tokens.{part}
use mathlib.Core.Path.{◌∙◌}
use native.Mathlib.Omega.{arith}
use Rattle.phrases.proofs.StepLaws as P
use Rattle.reader.proofs.StepIn as I
use Rattle.reader.proofs.EnterLaws as N
use Rattle.reader.proofs.opened.Goals as goal

pub overflow_cast-result : goal.overflow_cast-result
unfolding part
overflow_cast-result c = record { fits = omega (arith, N.kind_small _ _ _ _ c.kind_named-named.ensures c.in-Some-named.is) }

pub returns-in-None : goal.returns-in-None
unfolding part
returns-in-None c = (λ node bs ns. N.stopped_in _ c.requires.0 node bs _ ns _ _ _ c.put_stop.ensures.1 c.put_stop.ensures.0 ∙ P.none_next _ _ _ c.word_from.ensures _ _ _ c.in-None.is, N.stop_ended _ c.requires.0 _ _ c.put_stop.ensures.1, tt)

pub returns-in-Some-named : goal.returns-in-Some-named
unfolding part
returns-in-Some-named c = (λ node bs ns. N.form_in _ c.requires.0 node bs _ ns _ _ _ ∙ N.wordly_kind node bs _ _ _ _ _ _ _ _ _ c.kind_named-named.ensures c.in-Some-named.is ∙ P.some_next _ _ _ c.word_from.ensures _ _ _ _ c.in-Some.is, N.form_ended _ c.requires.0 _ _, (N.kind_small _ _ _ _ c.kind_named-named.ensures c.in-Some-named.is, I.two_same _ c.requires.0 2 6 _ _ (omega arith) (omega arith)))

pub returns-in-None-named : goal.returns-in-None-named
unfolding part
returns-in-None-named c = (λ node bs ns. N.done_in _ (c.other-s.ensures.1.long ∙ c.requires.0) node bs _ ns _ _ _ c.put_step.ensures.1 c.put_step.ensures.0 ∙ c.other-s.ensures.0 ns ∙ N.wordly_other node bs _ _ _ _ _ _ _ _ c.kind_named-named.ensures c.in-None-named.is ∙ P.some_next _ _ _ c.word_from.ensures _ _ _ _ c.in-Some.is, N.then_ended _ _ _ _ c.requires.0 c.other-s.ensures.1 c.put_step.ensures.1, tt)
