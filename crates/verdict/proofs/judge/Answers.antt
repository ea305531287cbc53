use Rattle.std.proofs.lemmas.Result.{err_from_is_err_and}
use mathlib.Core.Path.{sym, ◌∙◌}
use Rattle.verdict.specs.Parts.{judged}
use Rattle.verdict.proofs.Joined.{wrong_length, format_fault, format_fine, formed}
use Rattle.verdict.proofs.judge.Goals as goal

pub returns-then-length_wrong : goal.returns-then-length_wrong
unfolding judged
returns-then-length_wrong c = rw (wrong_length _ (sym c.length_wrong.ensures ∙ c.if-length_wrong.true))

pub format_verdict-requires : goal.format_verdict-requires
format_verdict-requires c = sym c.length_wrong.ensures ∙ c.if-length_wrong.false

pub judge_shape-requires : goal.judge_shape-requires
judge_shape-requires c = formed _ (sym c.length_wrong.ensures ∙ c.if-length_wrong.false) (sym c.format_verdict.ensures ∙ c.in_ok-format_verdict.was)

pub returns-in_err-format_verdict : goal.returns-in_err-format_verdict
unfolding judged
returns-in_err-format_verdict c =
    let p = err_from_is_err_and c.from_residual.result c.from_residual.ensures.1 in
    rw (p.1, p.2) (rw (format_fault _ _ (sym c.length_wrong.ensures ∙ c.if-length_wrong.false) (sym c.format_verdict.ensures ∙ c.in_err-format_verdict.was)))

pub returns : goal.returns
returns c = rw (format_fine _ (sym c.length_wrong.ensures ∙ c.if-length_wrong.false) (sym c.format_verdict.ensures ∙ c.in_ok-format_verdict.was)) c.judge_shape.ensures
