use mathlib.Core.Path.{sym, ap, ◌∙◌}
use Rattle.std.specs.Prelude.{Ok}
use Rattle.texts.specs.Tokens.{part}
use Rattle.phrases.proofs.StepLaws as P
use Rattle.reader.proofs.EndLaws as E
use Rattle.reader.specs.Held.{other_as}
use Rattle.phrases.specs.Gave.{gave}
use borrow.Author.Tests.{not-true, not-false}
use Rattle.reader.proofs.other.Goals as goal

pub returns-then-not-may_be : goal.returns-then-not-may_be
unfolding gave other_as part
returns-then-not-may_be c = (λ ns. P.given_off _ _ _ _ _ (sym c.may_be.ensures ∙ not-true _ c.if-not-may_be.true-raw), E.ended_same _)

pub returns-in_err-r : goal.returns-in_err-r
unfolding gave other_as part
returns-in_err-r c = (λ ns. P.step_err _ _ _ _ _ (P.err_is _ _ c.from_residual.ensures.1) ∙ P.step_stop _ _ _ _ _ (c.maybe_value.ensures _) _ _ c.in_err-r.was ∙ P.given_on _ _ _ _ _ (sym c.may_be.ensures ∙ not-false _ c.if-not-may_be.false-raw), E.ended_same _)

pub returns : goal.returns
unfolding other_as part
returns c = (λ ns. E.constant_ends _ _ _ ns _ _ c.requires.rows_len.0 c.requires.rows_len.1 (ap Ok c.constant_row.ensures.0) _ _ c.constant_row.ensures.1 c.constant_row.ensures.2 c.constant_row.ensures.3 ∙ P.step_read _ _ _ _ _ (c.maybe_value.ensures _) _ _ c.in_ok-r.was ∙ P.given_on _ _ _ _ _ (sym c.may_be.ensures ∙ not-false _ c.if-not-may_be.false-raw), E.ended_put _ _ _ _ _ _ _ _ _ _ _ _ _ _ _ c.requires.rows_len.0 c.requires.rows_len.1 c.constant_row.ensures.1)
