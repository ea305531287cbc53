use mathlib.Core.Path.{sym, ap, ◌∙◌}
use Rattle.chains.specs.Explain.{ExplainOutcome}
use Rattle.chains.proofs.ByVerdict.{explainable}
use Rattle.chains.proofs.CallLaws.{a_let, no_let}
use Rattle.explain.proofs.explain_refused.Goals as goal

pub explain_let-requires : goal.explain_let-requires
explain_let-requires c = let w = explainable _ _ _ c.requires (sym c.let_of-x.ensures ∙ c.in-Some.is) in (w.shaped_so, w.named_so.is_let)

pub returns-in-Some : goal.returns-in-Some
returns-in-Some c = let e = a_let c.args.p.now c.args.room.now c.args.r _ (sym c.let_of-x.ensures ∙ c.in-Some.is) in (c.explain_let.ensures.0 ∙ ap (λ (o : ExplainOutcome). o.answer) (sym e), c.explain_let.ensures.1 ∙ ap (λ (o : ExplainOutcome). o.room) (sym e))

pub returns-in-None : goal.returns-in-None
returns-in-None c = let e = no_let c.args.p.now c.args.room.now c.args.r (sym c.let_of-x.ensures ∙ c.in-None.is) in (ap (λ (o : ExplainOutcome). o.answer) (sym e), ap (λ (o : ExplainOutcome). o.room) (sym e))
