use Rattle.std.proofs.lemmas.Result.{err_from_is_err_and}
use mathlib.Core.Path.{sym, ◌∙◌}
use Rattle.rules.specs.Calls.{◌otherwise◌, record_verdict}
use Rattle.record.proofs.record_verdict.Goals as goal

pub returns-in_err-refuse_if : goal.returns-in_err-refuse_if
unfolding record_verdict ◌otherwise◌
returns-in_err-refuse_if c =
    let p = err_from_is_err_and c.from_residual.result c.from_residual.ensures.1 in
    rw (p.1, p.2) (rw (sym c.input_wrong.ensures, sym c.refuse_if.ensures ∙ c.in_err-refuse_if.was))

pub returns : goal.returns
unfolding record_verdict ◌otherwise◌
returns c = rw (sym c.input_wrong.ensures, sym c.time_wrong.ensures) (rw (sym c.refuse_if.ensures ∙ c.in_ok-refuse_if.was) c.refuse_if-2.ensures)
