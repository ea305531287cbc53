use Rattle.std.proofs.lemmas.Result.{err_from_is_err_and}
use Rattle.rules.proofs.Verdicts.{accepted as accepted-when}
use Rattle.verdict.proofs.Judging.{judged_ok, judged_err}
use Rattle.mends.proofs.CallLaws.{program_refused, program_accepted}
use mathlib.Core.Path.{refl}
use Rattle.mend.proofs.mend.Goals as goal

pub mend_accepted-requires : goal.mend_accepted-requires
mend_accepted-requires c = let j = judged_ok _ _ c.judge.ensures c.in_ok-found.was in (accepted-when _ j.0, j.1)

pub returns-in_err-found : goal.returns-in_err-found
returns-in_err-found c =
    let p = err_from_is_err_and c.from_residual.result c.from_residual.ensures.1 in
    rw (p.1, p.2, program_refused _ _ _ _ (judged_err _ _ c.judge.ensures c.in_err-found.was)) (refl, refl, refl)

pub returns : goal.returns
returns c =
    rw (program_accepted _ _ _ (judged_ok _ _ c.judge.ensures c.in_ok-found.was).0)
    (c.mend_accepted.ensures.answer_is, c.mend_accepted.ensures.state_is, c.mend_accepted.ensures.list_is)
