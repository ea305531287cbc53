use Rattle.verdict.proofs.Judging.{judged_ok, judged_err}
use mathlib.Core.Path.{sym, ap, ◌∙◌}
use Rattle.chains.specs.Explain.{ExplainOutcome}
use Rattle.chains.proofs.CallLaws.{refused_so, fine_so}
use Rattle.explain.proofs.explain.Goals as goal

pub explain_refused-requires : goal.explain_refused-requires
explain_refused-requires c = judged_err _ _ c.judge.ensures c.in-Err.is

pub returns-in-Ok : goal.returns-in-Ok
returns-in-Ok c = let e = fine_so c.args.program.now c.args.room.now (judged_ok _ _ c.judge.ensures c.in-Ok.is).0 in (ap (λ (o : ExplainOutcome). o.answer) (sym e), ap (λ (o : ExplainOutcome). o.room) (sym e))

pub returns-in-Err : goal.returns-in-Err
returns-in-Err c = let e = refused_so c.args.program.now c.args.room.now _ (judged_err _ _ c.judge.ensures c.in-Err.is) in (c.explain_refused.ensures.0 ∙ ap (λ (o : ExplainOutcome). o.answer) (sym e), c.explain_refused.ensures.1 ∙ ap (λ (o : ExplainOutcome). o.room) (sym e))
