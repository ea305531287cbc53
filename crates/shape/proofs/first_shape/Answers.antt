-- The marks are those of the pass over all nodes, and the loop finds the first place where one says that the shape is wrong.
use lib.ListN.{get_or, length-replicate}
use mathlib.Core.List.{List}
use Rattle.shape.proofs.ShapeLaws.{marks_are}
use Rattle.rules.proofs.First.{first_starts, first_here, first_next, first_ends}
use Rattle.rules.specs.Shape.{shape_wrong}
use Rattle.rules.specs.Bytes.{first}
use Prim.Native.Nat.{ℕ, ◌-◌}
use native.Mathlib.Omega.{arith}
use mathlib.Core.Path.{sym, ap, ◌∙◌}
use Rattle.shape.proofs.first_shape.Goals as goal

pub count_all-last-requires : goal.count_all-last-requires
count_all-last-requires c = (c.requires.within, c.requires.small, omega (arith, length-replicate {A = ℕ} 1008 0, c.requires.small))

pub loop-j-init : goal.loop-j-init
loop-j-init c = first_starts _ _

pub bounds-counts-j : goal.bounds-counts-j
bounds-counts-j c = omega (arith, c.requires.small)

pub shape_wrong-requires : goal.shape_wrong-requires
shape_wrong-requires c = let sized = c.requires in
    let done = c.count_all-last.ensures in (
      sized,
      omega arith,
      ap (λ (l : List ℕ). get_or l c.loop-j.j 0) done.0 ∙ marks_are _ _ _ sized (omega arith),
      done.1,
    )

pub overflow_cast-result : goal.overflow_cast-result
overflow_cast-result c = omega (arith, c.requires.small)

pub returns-then-shape_wrong : goal.returns-then-shape_wrong
returns-then-shape_wrong c = sym (first_here _ _ _ (omega arith) (sym c.shape_wrong.ensures ∙ c.if-shape_wrong.true)) ∙ c.loop-j.invariant ∙ ap (first (shape_wrong c.args.p.now)) c.requires.is_nodes

pub loop-j-preserved : goal.loop-j-preserved
loop-j-preserved c = sym (first_next _ _ _ (omega arith) (sym c.shape_wrong.ensures ∙ c.if-shape_wrong.false)) ∙ c.loop-j.invariant

pub returns : goal.returns
returns c = sym (first_ends _ _ _ (omega arith)) ∙ c.loop-j.invariant ∙ ap (first (shape_wrong c.args.p.now)) c.requires.is_nodes
