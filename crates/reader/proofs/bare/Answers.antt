use mathlib.Core.Path.{sym, ap, ◌∙◌}
use Rattle.std.specs.Prelude.{Ok}
use Rattle.texts.specs.Tokens.{part}
use Rattle.phrases.proofs.StepLaws as P
use Rattle.reader.proofs.EndLaws as E
use Rattle.reader.specs.Held.{bare_as}
use Rattle.phrases.specs.Gave.{gave}
use borrow.Author.Tests.{not-true, not-false}
use Rattle.reader.proofs.StepIn as I
use Rattle.reader.proofs.bare.Goals as goal

pub returns-then-not-may_be : goal.returns-then-not-may_be
unfolding gave bare_as part
returns-then-not-may_be c = (P.given_off _ _ _ _ _ (sym c.may_be.ensures ∙ not-true _ c.if-not-may_be.true-raw), E.ended_same _)

pub returns-then-not-is_plain_value : goal.returns-then-not-is_plain_value
unfolding bare_as part
returns-then-not-is_plain_value c = (c.used.ensures.0 ∙ I.bare_name _ _ _ _ _ (sym c.is_plain_value.ensures ∙ not-true _ c.if-not-is_plain_value.true-raw) ∙ P.given_on _ _ _ _ _ (sym c.may_be.ensures ∙ not-false _ c.if-not-may_be.false-raw), c.used.ensures.1)

pub returns-in_err-r : goal.returns-in_err-r
unfolding gave bare_as part
returns-in_err-r c = (P.step_err _ _ _ _ _ (P.err_is _ _ c.from_residual.ensures.1) ∙ P.step_stop _ _ _ _ _ (c.plain_value.ensures.0 _) _ _ c.in_err-r.was ∙ I.bare_value _ _ _ _ _ (sym c.is_plain_value.ensures ∙ not-false _ c.if-not-is_plain_value.false-raw) ∙ P.given_on _ _ _ _ _ (sym c.may_be.ensures ∙ not-false _ c.if-not-may_be.false-raw), E.ended_same _)

pub returns : goal.returns
unfolding bare_as part
returns c = (E.constant_ends _ _ _ _ _ _ c.requires.rows_len.0 c.requires.rows_len.1 (ap Ok c.constant_row.ensures.0) _ _ c.constant_row.ensures.1 c.constant_row.ensures.2 c.constant_row.ensures.3 ∙ P.step_read _ _ _ _ _ (c.plain_value.ensures.0 _) _ _ c.in_ok-r.was ∙ I.bare_value _ _ _ _ _ (sym c.is_plain_value.ensures ∙ not-false _ c.if-not-is_plain_value.false-raw) ∙ P.given_on _ _ _ _ _ (sym c.may_be.ensures ∙ not-false _ c.if-not-may_be.false-raw), E.ended_put _ _ _ _ _ _ _ _ _ _ _ _ _ _ _ c.requires.rows_len.0 c.requires.rows_len.1 c.constant_row.ensures.1)
