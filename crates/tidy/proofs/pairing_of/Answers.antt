use Rattle.std.proofs.lemmas.Result.{err_from_is_err_and}
use Rattle.rules.proofs.Verdicts.{accepted as accepted-when}
use Rattle.verdict.proofs.Judging.{judged_ok, judged_err}
use Rattle.tidy.proofs.Calling.{pairing_refused, pairing_fine}
use Rattle.tidy.proofs.pairing_of.Goals as goal

pub pair_accepted-requires : goal.pair_accepted-requires
pair_accepted-requires c = let j = judged_ok _ _ c.judge.ensures c.in_ok-found.was in (accepted-when _ j.0, j.1)

pub returns-in_err-found : goal.returns-in_err-found
returns-in_err-found c =
    let p = err_from_is_err_and c.from_residual.result c.from_residual.ensures.1 in
    rw (p.1, p.2) (pairing_refused c.args.program.now c.args.entries.now _ (judged_err _ _ c.judge.ensures c.in_err-found.was))

pub returns : goal.returns
returns c = pairing_fine c.args.program.now c.args.entries.now _ _ (judged_ok _ _ c.judge.ensures c.in_ok-found.was).0 c.pair_accepted.ensures
