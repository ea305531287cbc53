use Rattle.verdict.proofs.Judging.{judged_ok, judged_err}
use Rattle.rules.proofs.Verdicts.{accepted as accepted-when}
use Rattle.dropped.specs.Clauses.{clause_of}
use mathlib.Core.Path.{sym, ◌∙◌}
use Rattle.pairing.proofs.clause_by.Goals as goal

pub clause_of-requires : goal.clause_of-requires
clause_of-requires c = let j = judged_ok _ _ c.judge.ensures c.in-Ok.is in (c.requires.0, accepted-when _ j.0, c.requires.1, j.1)

pub returns-in-Err : goal.returns-in-Err
unfolding clause_of
returns-in-Err c = let e = judged_err _ _ c.judge.ensures c.in-Err.is in rw e

pub returns-in-Ok : goal.returns-in-Ok
returns-in-Ok c = let e = (judged_ok _ _ c.judge.ensures c.in-Ok.is).0 in rw e c.clause_of.ensures
