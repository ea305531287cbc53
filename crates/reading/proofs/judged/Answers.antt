use Rattle.std.proofs.lemmas.Result.{err_from_is_err_and}
use Rattle.reading.proofs.CallLaws as K
use Rattle.tidy.proofs.Calling.{count_few}
use Rattle.rules.proofs.Verdicts.{accepted}
use Rattle.verdict.proofs.Judging.{judged_ok, judged_err}
use native.Mathlib.Omega.{arith}
use Rattle.reading.proofs.judged.Goals as goal

pub overflow_cast-result : goal.overflow_cast-result
overflow_cast-result c = let j = judged_ok _ _ c.judge.ensures c.in_ok-found.was in omega (arith, count_few _ _ (accepted _ j.0) j.1)

pub returns-in_err-found : goal.returns-in_err-found
returns-in_err-found c =
    let p = err_from_is_err_and c.from_residual.result c.from_residual.ensures.1 in
    rw (p.1, p.2) (K.judged_refused _ _ _ (judged_err _ _ c.judge.ensures c.in_err-found.was))

pub returns : goal.returns
returns c = let j = judged_ok _ _ c.judge.ensures c.in_ok-found.was in K.judged_fine _ _ j.0 j.1 c.copy.ensures
