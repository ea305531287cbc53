use Rattle.verdict.proofs.Judging.{judged_ok, judged_err}
use Rattle.rules.proofs.Verdicts.{accepted as accepted-when}
use Rattle.dropped.specs.PairedCall.{old_answer, paired_call}
use mathlib.Core.Path.{sym, ◌∙◌}
use Rattle.pairing.proofs.paired.Goals as goal

pub new_answer-requires : goal.new_answer-requires
new_answer-requires c = let j = judged_ok _ _ c.judge.ensures c.in-Ok.is in (accepted-when _ j.0, j.1)

pub returns-in-Err : goal.returns-in-Err
unfolding paired_call old_answer
returns-in-Err c = let e = judged_err _ _ c.judge.ensures c.in-Err.is in rw e

pub returns-in-Ok : goal.returns-in-Ok
unfolding paired_call old_answer
returns-in-Ok c = let e = (judged_ok _ _ c.judge.ensures c.in-Ok.is).0 in rw e c.new_answer.ensures
