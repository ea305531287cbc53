use mathlib.Core.Path.{sym, ap, ◌∙◌}
use Rattle.std.specs.Prelude.{Ok}
use Rattle.texts.specs.Tokens.{part}
use Rattle.phrases.proofs.StepLaws as P
use Rattle.reader.specs.Held.{sofar_in}
use Rattle.reader.proofs.EndLaws as E
use Rattle.reader.specs.Held.{used_as}
use Rattle.phrases.specs.Gave.{gave, with_names}
use borrow.Author.Tests.{not-true, not-false}
use Rattle.reader.proofs.used.Goals as goal

pub returns-then-not-is_name : goal.returns-then-not-is_name
unfolding gave used_as part
returns-then-not-is_name c = (P.given_off _ _ _ _ _ (sym c.is_name.ensures ∙ not-true _ c.if-not-is_name.true-raw), E.ended_same _)

pub returns-then-not-is_noted : goal.returns-then-not-is_noted
unfolding gave used_as sofar_in with_names part
returns-then-not-is_noted c = (P.given_off _ _ _ _ _ (sym c.is_noted.ensures ∙ not-true _ c.if-not-is_noted.true-raw) ∙ P.given_on _ _ _ _ _ (sym c.is_name.ensures ∙ not-false _ c.if-not-is_name.false-raw), E.ended_same _)

pub returns : goal.returns
unfolding used_as sofar_in with_names part
returns c = (E.variable_ends _ _ _ _ _ _ c.requires.rows_len.0 c.requires.rows_len.1 (ap Ok c.variable_row.ensures.0) _ c.variable_row.ensures.1 c.requires.part.1 c.requires.part.0.1 ∙ P.given_on _ _ _ _ _ (sym c.is_noted.ensures ∙ not-false _ c.if-not-is_noted.false-raw) ∙ P.given_on _ _ _ _ _ (sym c.is_name.ensures ∙ not-false _ c.if-not-is_name.false-raw), E.ended_put _ _ _ _ _ _ _ _ _ _ _ _ _ _ _ c.requires.rows_len.0 c.requires.rows_len.1 c.variable_row.ensures.1)
