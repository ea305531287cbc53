use mathlib.Core.Path.{sym, ◌∙◌}
use Rattle.rules.specs.Calls.{◌otherwise◌, refuse_at}
use Rattle.verdict.specs.Parts.{tree_verdict, judged}
use Rattle.verdict.proofs.judge_tree.Goals as goal

pub returns-in-Some : goal.returns-in-Some
unfolding tree_verdict judged ◌otherwise◌ refuse_at
returns-in-Some c = rw (sym c.scope_fault.ensures ∙ c.in-Some.is)

pub returns-in-Some-place : goal.returns-in-Some-place
unfolding tree_verdict judged ◌otherwise◌ refuse_at
returns-in-Some-place c = rw (sym c.scope_fault.ensures ∙ c.in_default.is) (rw (sym c.type_root-root.ensures.1 ∙ c.in-Some-place.is))

pub returns-in-Some-ready_fault : goal.returns-in-Some-ready_fault
unfolding tree_verdict judged ◌otherwise◌ refuse_at
returns-in-Some-ready_fault c =
    rw (sym c.scope_fault.ensures ∙ c.in_default.is)
    (rw (sym c.type_root-root.ensures.1 ∙ c.in_default-place.is) (rw (sym c.ready_fault.ensures ∙ c.in-Some-ready_fault.is)))

pub returns : goal.returns
unfolding tree_verdict judged ◌otherwise◌ refuse_at
returns c =
    rw (sym c.scope_fault.ensures ∙ c.in_default.is)
    (rw (sym c.type_root-root.ensures.1 ∙ c.in_default-place.is)
    (rw (sym c.ready_fault.ensures ∙ c.in_default-ready_fault.is) (rw (c.requires.0, c.type_root-root.ensures.0))))
