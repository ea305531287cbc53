use mathlib.Core.Path.{sym, ◌∙◌}
use Rattle.phrases.proofs.StepLaws as P
use Rattle.reader.specs.Held.{bare_as}
use Rattle.texts.specs.Tokens.{token, part}
use Rattle.reader.specs.Held.{entry₀}
use Rattle.reader.proofs.EnterLaws as N
use Rattle.reader.proofs.enter.Goals as goal

pub returns-then-is_byte : goal.returns-then-is_byte
unfolding entry₀ token bare_as part
returns-then-is_byte c = (λ node bs. c.opened.ensures.0 node bs _ ∙ N.enter_open node bs _ _ _ _ _ _ (sym c.is_byte.ensures ∙ c.if-is_byte.true) ∙ P.some_next _ _ _ c.word_from.ensures _ _ _ _ c.in-Some.is, c.opened.ensures.1, c.opened.ensures.2)

pub returns-in-None : goal.returns-in-None
unfolding entry₀ part
returns-in-None c = (λ node bs. N.stopped_in _ c.requires.rows_len.0 node bs _ _ _ _ _ c.put_stop.ensures.1 c.put_stop.ensures.0 ∙ P.none_next _ _ _ c.word_from.ensures _ _ _ c.in-None.is, N.stop_ended _ c.requires.rows_len.0 _ _ c.put_stop.ensures.1, tt)

pub returns-else-is_byte : goal.returns-else-is_byte
unfolding entry₀ token bare_as part
returns-else-is_byte c = (λ node bs. N.done_in _ (c.bare-s.ensures.1.long ∙ c.requires.rows_len.0) node bs _ _ _ _ _ c.put_step.ensures.1 c.put_step.ensures.0 ∙ c.bare-s.ensures.0 ∙ N.enter_bare node bs _ _ _ _ _ _ (sym c.is_byte.ensures ∙ c.if-is_byte.false) ∙ P.some_next _ _ _ c.word_from.ensures _ _ _ _ c.in-Some.is, N.then_ended _ _ _ _ c.requires.rows_len.0 c.bare-s.ensures.1 c.put_step.ensures.1, tt)
