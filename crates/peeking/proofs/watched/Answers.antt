use Rattle.rules.proofs.Verdicts.{accepted as accepted-when}
use Rattle.verdict.proofs.Judging.{judged_ok, judged_err}
use Rattle.peeking.proofs.CallLaws.{refused_parts, accepted_parts}
use Rattle.peeking.proofs.watched.Goals as goal

pub watch_accepted-requires : goal.watch_accepted-requires
watch_accepted-requires c = let j = judged_ok _ _ c.judge.ensures c.in-Ok.is in (accepted-when _ j.0, j.1)

pub returns-in-Err : goal.returns-in-Err
returns-in-Err c = rw c.from.ensures (refused_parts _ _ _ _ _ _ (judged_err _ _ c.judge.ensures c.in-Err.is))

pub returns-in-Ok : goal.returns-in-Ok
returns-in-Ok c = accepted_parts _ _ _ _ _ _ (judged_ok _ _ c.judge.ensures c.in-Ok.is).0 c.watch_accepted.ensures
