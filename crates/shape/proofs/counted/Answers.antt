use Rattle.shape.proofs.CountLaws.{set_past}
use Rattle.shape.specs.Counts.{counted}
use mathlib.Core.Path.{sym, ◌∙◌}
use Rattle.shape.proofs.counted.Goals as goal

pub returns-then-x-counts : goal.returns-then-x-counts
unfolding counted
returns-then-x-counts c = simp (sym c.is_child.ensures ∙ c.if-is_child.true, c.more.ensures)

pub returns-else-x-counts : goal.returns-else-x-counts
unfolding counted
returns-else-x-counts c = simp (sym c.is_child.ensures ∙ c.if-is_child.true) (sym (set_past _ _ _ c.if-x-counts.false))

pub returns-else-is_child : goal.returns-else-is_child
unfolding counted
returns-else-is_child c = simp (sym c.is_child.ensures ∙ c.if-is_child.false)
