use Rattle.verdict.proofs.Judging.{judged_ok, judged_err}
use Rattle.rules.proofs.Verdicts.{accepted as accepted-when}
use mathlib.Core.Path.{sym, ◌∙◌}
use Rattle.dropped.specs.PairedCall.{new_answer}
use Rattle.pairing.proofs.new_answer.Goals as goal

pub pairing_answer-requires : goal.pairing_answer-requires
pairing_answer-requires c = let j = judged_ok _ _ c.judge.ensures c.in-Ok.is in (c.requires.0, accepted-when _ j.0, c.requires.1, j.1)

pub returns-in-Err : goal.returns-in-Err
unfolding new_answer
returns-in-Err c = let e = judged_err _ _ c.judge.ensures c.in-Err.is in rw e

pub returns-in-Ok : goal.returns-in-Ok
unfolding new_answer
returns-in-Ok c = let e = (judged_ok _ _ c.judge.ensures c.in-Ok.is).0 in rw e c.pairing_answer.ensures
