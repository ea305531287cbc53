use Rattle.std.proofs.lemmas.Result.{err_from_is_err_and}
use Rattle.rules.proofs.Verdicts.{accepted as accepted-when}
use Rattle.verdict.proofs.Judging.{judged_ok, judged_err}
use Rattle.tidy.proofs.Calling.{tidy_refused, tidy_fine}
use Rattle.tidy.proofs.tidy.Goals as goal

pub tidy_accepted-requires : goal.tidy_accepted-requires
tidy_accepted-requires c = let j = judged_ok _ _ c.judge.ensures c.in_ok-found.was in (accepted-when _ j.0, j.1)

pub returns-in_err-found : goal.returns-in_err-found
returns-in_err-found c =
    let p = err_from_is_err_and c.from_residual.result c.from_residual.ensures.1 in
    rw (p.1, p.2) (tidy_refused c.args.program.now c.args.room.now _ (judged_err _ _ c.judge.ensures c.in_err-found.was))

pub returns : goal.returns
returns c = tidy_fine c.args.program.now c.args.room.now _ _ (judged_ok _ _ c.judge.ensures c.in_ok-found.was).0 c.tidy_accepted.ensures
