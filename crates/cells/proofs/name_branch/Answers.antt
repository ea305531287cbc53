use Rattle.cells.proofs.Passed.{passes_none, first_child, next_child, passes_first, passes_next}
use mathlib.Core.Path.{sym, ◌∙◌}
use native.Mathlib.Omega.{arith}
use Rattle.cells.proofs.name_branch.Goals as goal

pub kind_of-kind-requires : goal.kind_of-kind-requires
kind_of-kind-requires c = let s = c.requires in (omega (arith, s.0.within), omega (arith, s.1, s.0.small))

pub node-group-requires : goal.node-group-requires
node-group-requires c = let s = c.requires in (omega (arith, s.0.within), omega (arith, s.1, s.0.small))

pub overflow_cast-index : goal.overflow_cast-index
overflow_cast-index c = let k = first_child _ _ _ c.requires.0 c.requires.1 c.node-group.ensures.b_is (sym c.kind_of-kind.ensures ∙ c.if-kind-eq7.true) in omega (arith, k.less, c.requires.1, c.requires.0.small)

pub offset_bounds-index-first : goal.offset_bounds-index-first
offset_bounds-index-first c = let k = first_child _ _ _ c.requires.0 c.requires.1 c.node-group.ensures.b_is (sym c.kind_of-kind.ensures ∙ c.if-kind-eq7.true) in omega (arith, k.less, c.requires.1, c.requires.0.small)

pub bounds-index-first : goal.bounds-index-first
bounds-index-first c = let k = first_child _ _ _ c.requires.0 c.requires.1 c.node-group.ensures.b_is (sym c.kind_of-kind.ensures ∙ c.if-kind-eq7.true) in omega (arith, k.node.inside, c.requires.3.room)

pub returns-then-kind-eq7 : goal.returns-then-kind-eq7
returns-then-kind-eq7 c = passes_first _ _ _ c.requires.0 c.requires.1 c.node-group.ensures.b_is _ c.requires.2 c.requires.3 (sym c.kind_of-kind.ensures ∙ c.if-kind-eq7.true)

pub returns-then-kind-ne9 : goal.returns-then-kind-ne9
returns-then-kind-ne9 c = passes_none _ _ _ c.requires.1 c.requires.3 (λ e. c.if-kind-eq7.false (c.kind_of-kind.ensures ∙ e)) (λ e. absurd (c.if-kind-ne9.true (c.kind_of-kind.ensures ∙ e)))

pub node-branch-requires : goal.node-branch-requires
node-branch-requires c = let s = c.requires in (omega (arith, s.0.within), omega (arith, s.1, s.0.small))

pub returns-then-next-eq-LAST : goal.returns-then-next-eq-LAST
returns-then-next-eq-LAST c = passes_none _ _ _ c.requires.1 c.requires.3 (λ e. c.if-kind-eq7.false (c.kind_of-kind.ensures ∙ e)) (λ _. sym c.node-branch.ensures.b_is ∙ c.if-next-eq-LAST.true)

pub offset_bounds-index-next : goal.offset_bounds-index-next
offset_bounds-index-next c = let k = next_child _ _ _ c.requires.0 c.requires.1 c.node-branch.ensures.b_is (sym c.kind_of-kind.ensures ∙ c.if-kind-ne9.false) c.if-next-eq-LAST.false in omega (arith, k.less, c.requires.1, c.requires.0.small)

pub bounds-index-next : goal.bounds-index-next
bounds-index-next c = let k = next_child _ _ _ c.requires.0 c.requires.1 c.node-branch.ensures.b_is (sym c.kind_of-kind.ensures ∙ c.if-kind-ne9.false) c.if-next-eq-LAST.false in omega (arith, k.node.inside, c.requires.3.room)

pub returns : goal.returns
returns c = passes_next _ _ _ c.requires.0 c.requires.1 c.node-branch.ensures.b_is _ c.requires.2 c.requires.3 (sym c.kind_of-kind.ensures ∙ c.if-kind-ne9.false) c.if-next-eq-LAST.false
