use Rattle.rules.specs.Shape.{child_wrong}
use Rattle.rules.specs.Bytes.{◌and◌}
use borrow.Author.Tests.{lt-ltb, le-ltb, not-true, not-false}
use mathlib.Core.Path.{sym, ◌∙◌}
use Rattle.shape.proofs.child_wrong.Goals as goal

pub returns-then-not-is_child : goal.returns-then-not-is_child
unfolding child_wrong ◌and◌
returns-then-not-is_child c = simp (sym c.is_child.ensures ∙ not-true _ c.if-not-is_child.true-raw)

pub returns-then-both : goal.returns-then-both
unfolding child_wrong ◌and◌
returns-then-both c = simp (sym c.is_child.ensures ∙ not-false _ c.if-not-is_child.false-raw, ← c.may_stop.ensures, sym c.both.ensures ∙ c.if-both.true)

pub returns-then-x-i : goal.returns-then-x-i
unfolding child_wrong ◌and◌
returns-then-x-i c = simp (sym c.is_child.ensures ∙ not-false _ c.if-not-is_child.false-raw, ← c.may_stop.ensures, sym c.both.ensures ∙ c.if-both.false, lt-ltb _ _ c.if-x-i.true, c.may_be.ensures, c.node-n.ensures.kind_is)

pub returns : goal.returns
unfolding child_wrong ◌and◌
returns c = simp (sym c.is_child.ensures ∙ not-false _ c.if-not-is_child.false-raw, ← c.may_stop.ensures, sym c.both.ensures ∙ c.if-both.false, le-ltb _ _ c.if-x-i.false)
