use Rattle.std.proofs.lemmas.Result.{err_from_is_err_and}
use Rattle.rules.proofs.Verdicts.{accepted as accepted-when}
use Rattle.verdict.proofs.Judging.{judged_ok, judged_err}
use Rattle.watch.proofs.Calling.{check_refused, check_accepted, parts_said}
use mathlib.Core.Path.{sym, ◌∙◌}
use Rattle.watch.proofs.check.Goals as goal

pub accept-requires : goal.accept-requires
accept-requires c = let j = judged_ok _ _ c.judge.ensures c.in_ok-found.was in (accepted-when _ j.0, j.1, j.2)

pub returns-in_err-found : goal.returns-in_err-found
returns-in_err-found c =
    let p = err_from_is_err_and c.from_residual.result c.from_residual.ensures.1 in
    rw (p.1, p.2) (sym (check_refused _ _ (judged_err _ _ c.judge.ensures c.in_err-found.was)))

pub returns : goal.returns
returns c =
    let j = judged_ok _ _ c.judge.ensures c.in_ok-found.was in
    parts_said _ _ c.accept.ensures.nodes c.accept.ensures.cells c.accept.ensures.bound c.accept.ensures.root ∙ sym (check_accepted _ j.0)
