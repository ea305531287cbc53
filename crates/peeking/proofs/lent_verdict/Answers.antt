use Rattle.std.proofs.lemmas.Result.{err_from_is_err_and}
use Rattle.peeking.proofs.CallLaws.{state_stops, records_stop, output_said}
use mathlib.Core.Path.{sym, ◌∙◌}
use Rattle.peeking.proofs.lent_verdict.Goals as goal

pub state_verdict-requires : goal.state_verdict-requires
state_verdict-requires c = (c.requires.0, c.requires.1, c.requires.2, c.requires.3, c.requires.4)

pub rooms_fit-requires : goal.rooms_fit-requires
rooms_fit-requires c = c.requires.5

pub returns-in_err-state_verdict : goal.returns-in_err-state_verdict
returns-in_err-state_verdict c =
    let p = err_from_is_err_and c.from_residual.result c.from_residual.ensures.1 in
    rw (p.1, p.2) (state_stops _ _ _ _ _ _ c.state_verdict.ensures c.in_err-state_verdict.was)

pub returns-in_err-refuse_if : goal.returns-in_err-refuse_if
returns-in_err-refuse_if c =
    let p = err_from_is_err_and c.from_residual-in_err-refuse_if.result c.from_residual-in_err-refuse_if.ensures.1 in
    rw (p.1, p.2)
    (records_stop _ _ _ _ _ _ c.state_verdict.ensures c.in_ok-state_verdict.was c.run_fits.ensures c.refuse_if.ensures c.in_err-refuse_if.was)

pub returns : goal.returns
returns c =
    output_said _ _ _ _ _ _ c.state_verdict.ensures c.in_ok-state_verdict.was c.run_fits.ensures c.refuse_if.ensures c.in_ok-refuse_if.was
    c.rooms_fit.ensures c.refuse_if-2.ensures
