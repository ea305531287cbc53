use Rattle.std.proofs.lemmas.Result.{err_from_is_err_and}
use Rattle.rules.proofs.Verdicts.{accepted as accepted-when}
use Rattle.verdict.proofs.Judging.{judged_ok, judged_err}
use Rattle.typeset.proofs.Calling.{call_refused, call_fine}
use Rattle.typeset.proofs.print.Goals as goal

pub print_accepted-requires : goal.print_accepted-requires
print_accepted-requires c = let j = judged_ok _ _ c.judge.ensures c.in_ok-found.was in (accepted-when _ j.0, j.1)

pub returns-in_err-found : goal.returns-in_err-found
returns-in_err-found c =
    let p = err_from_is_err_and c.from_residual.result c.from_residual.ensures.1 in
    rw (p.1, p.2) (call_refused c.args.program.now c.args.room.now _ (judged_err _ _ c.judge.ensures c.in_err-found.was))

pub returns : goal.returns
returns c = call_fine c.args.program.now c.args.room.now _ _ (judged_ok _ _ c.judge.ensures c.in_ok-found.was).0 c.print_accepted.ensures
