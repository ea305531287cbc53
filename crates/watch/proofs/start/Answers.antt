use Rattle.std.proofs.lemmas.Result.{err_from_is_err_and}
use Rattle.rules.proofs.Verdicts.{accepted as accepted-when}
use Rattle.verdict.proofs.Judging.{judged_ok, judged_err}
use Rattle.watch.proofs.Calling.{start_refused, start_accepted as start-goes}
use mathlib.Core.Path.{refl}
use Rattle.watch.proofs.start.Goals as goal

pub start_accepted-requires : goal.start_accepted-requires
start_accepted-requires c = let j = judged_ok _ _ c.judge.ensures c.in_ok-judged.was in (accepted-when _ j.0, j.1)

pub returns-in_err-judged : goal.returns-in_err-judged
returns-in_err-judged c =
    let p = err_from_is_err_and c.from_residual.result c.from_residual.ensures.1 in
    rw (p.1, p.2, start_refused _ _ _ (judged_err _ _ c.judge.ensures c.in_err-judged.was)) (refl, refl)

pub returns : goal.returns
returns c = rw (start-goes _ _ (judged_ok _ _ c.judge.ensures c.in_ok-judged.was).0) c.start_accepted.ensures
