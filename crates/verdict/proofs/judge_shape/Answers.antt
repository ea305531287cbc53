use mathlib.Core.Path.{sym, ◌∙◌}
use Rattle.rules.proofs.Established.{nodes_within}
use Rattle.verdict.specs.Parts.{judged}
use Rattle.verdict.proofs.Joined.{tree_ready, shape_at, shape_right}
use Rattle.verdict.proofs.judge_shape.Goals as goal

pub first_shape-requires : goal.first_shape-requires
first_shape-requires c = record { is_nodes = c.count_nodes-count.ensures.0; small = c.count_nodes-count.ensures.1; within = rw c.count_nodes-count.ensures.0 (nodes_within _) }

pub judge_tree-requires : goal.judge_tree-requires
judge_tree-requires c = tree_ready _ _ c.requires c.count_nodes-count.ensures.0 (sym c.first_shape.ensures ∙ c.in_default.is)

pub returns-in-Some : goal.returns-in-Some
unfolding judged
returns-in-Some c = rw (shape_at _ (sym c.first_shape.ensures ∙ c.in-Some.is))

pub returns : goal.returns
returns c = rw (shape_right _ (sym c.first_shape.ensures ∙ c.in_default.is)) c.judge_tree.ensures
