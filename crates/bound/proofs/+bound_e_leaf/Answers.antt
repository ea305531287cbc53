use Rattle.bound.proofs.ExprBounds.{variable_bound, constant_bound, negation_part, negation_bound, just_part, just_bound, choice_parts, choice_bound, taking_parts, taking_bound, operation_parts, operation_bound, over_said, both_said, arms_said}
use Rattle.bound.proofs.Parts.{read, bounded_e}
use Rattle.rules.proofs.Expressions.{left}
use mathlib.Core.Path.{sym, ◌∙◌}
use native.Mathlib.Omega.{arith}
use Rattle.bound.proofs.+bound_e_leaf.Goals as goal

pub bound_e-node-n-requires : goal.bound_e-node-n-requires
bound_e-node-n-requires t c = let w = c.requires.node in (omega (arith, w.inside, w.shaped.within), omega (arith, w.inside, w.shaped.small))

pub bound_e-leaf-requires : goal.bound_e-leaf-requires
bound_e-leaf-requires t c = let k = read c.node-n.ensures.a_is (negation_part c.args.p.now.now c.args.i c.requires (sym c.node-n.ensures.kind_is ∙ c.in-24.is)) in (omega (arith, k.less, c.decreases), k.node)

pub bound_e-leaf-test-requires : goal.bound_e-leaf-test-requires
bound_e-leaf-test-requires t c = let k = read c.node-n.ensures.a_is (choice_parts c.args.p.now.now c.args.i c.requires (sym c.node-n.ensures.kind_is ∙ c.in-27.is)).0 in (omega (arith, k.less, c.decreases), k.node)

pub bound_e-leaf-x-requires : goal.bound_e-leaf-x-requires
bound_e-leaf-x-requires t c = let k = read c.node-n.ensures.b_is (choice_parts c.args.p.now.now c.args.i c.requires (sym c.node-n.ensures.kind_is ∙ c.in-27.is)).1 in (omega (arith, k.less, c.decreases), k.node)

pub bound_e-leaf-y-requires : goal.bound_e-leaf-y-requires
bound_e-leaf-y-requires t c = let k = read c.node-n.ensures.c_is (choice_parts c.args.p.now.now c.args.i c.requires (sym c.node-n.ensures.kind_is ∙ c.in-27.is)).2 in (omega (arith, k.less, c.decreases), k.node)

pub bound_e-leaf-requires-in-28 : goal.bound_e-leaf-requires-in-28
bound_e-leaf-requires-in-28 t c = let k = read c.node-n.ensures.a_is (just_part c.args.p.now.now c.args.i c.requires (sym c.node-n.ensures.kind_is ∙ c.in-28.is)) in (omega (arith, k.less, c.decreases), k.node)

pub bound_e-leaf-m-requires : goal.bound_e-leaf-m-requires
bound_e-leaf-m-requires t c = let k = read c.node-n.ensures.a_is (taking_parts c.args.p.now.now c.args.i c.requires (sym c.node-n.ensures.kind_is ∙ c.in-29.is)).0 in (omega (arith, k.less, c.decreases), k.node)

pub bound_e-leaf-x-requires-in-29 : goal.bound_e-leaf-x-requires-in-29
bound_e-leaf-x-requires-in-29 t c = let k = read c.node-n.ensures.b_is (taking_parts c.args.p.now.now c.args.i c.requires (sym c.node-n.ensures.kind_is ∙ c.in-29.is)).1 in (omega (arith, k.less, c.decreases), k.node)

pub bound_e-leaf-y-requires-in-29 : goal.bound_e-leaf-y-requires-in-29
bound_e-leaf-y-requires-in-29 t c = let k = read c.node-n.ensures.c_is (taking_parts c.args.p.now.now c.args.i c.requires (sym c.node-n.ensures.kind_is ∙ c.in-29.is)).2 in (omega (arith, k.less, c.decreases), k.node)

pub bound_e-leaf-x-requires-in_default : goal.bound_e-leaf-x-requires-in_default
bound_e-leaf-x-requires-in_default t c = let k = read c.node-n.ensures.a_is (operation_parts c.args.p.now.now c.args.i c.requires (left c.node-n.ensures.kind_is c.in_default.in_default-own.rest)).0 in (omega (arith, k.less, c.decreases), k.node)

pub bound_e-leaf-y-requires-in_default : goal.bound_e-leaf-y-requires-in_default
bound_e-leaf-y-requires-in_default t c = let k = read c.node-n.ensures.b_is (operation_parts c.args.p.now.now c.args.i c.requires (left c.node-n.ensures.kind_is c.in_default.in_default-own.rest)).1 in (omega (arith, k.less, c.decreases), k.node)

pub bound_e-returns-in-16 : goal.bound_e-returns-in-16
bound_e-returns-in-16 t c = bounded_e c.args.p.now.now c.args.i c.requires (sym (variable_bound c.args.p.now.now c.args.i c.requires (sym c.node-n.ensures.kind_is ∙ c.in-16.is)))

pub bound_e-returns-in-17 : goal.bound_e-returns-in-17
bound_e-returns-in-17 t c = bounded_e c.args.p.now.now c.args.i c.requires (sym (constant_bound c.args.p.now.now c.args.i c.requires (sym c.node-n.ensures.kind_is ∙ c.in-17.is)))

pub bound_e-returns-in-24 : goal.bound_e-returns-in-24
bound_e-returns-in-24 t c = bounded_e c.args.p.now.now c.args.i c.requires (over_said c.args.p.now.now c.args.i c.requires (negation_bound c.args.p.now.now c.args.i c.requires (sym c.node-n.ensures.kind_is ∙ c.in-24.is)) c.node-n.ensures.a_is c.leaf.ensures.0 c.over.ensures)

pub bound_e-returns-in-27 : goal.bound_e-returns-in-27
bound_e-returns-in-27 t c = bounded_e c.args.p.now.now c.args.i c.requires (arms_said c.args.p.now.now c.args.i c.requires (choice_bound c.args.p.now.now c.args.i c.requires (sym c.node-n.ensures.kind_is ∙ c.in-27.is)) c.node-n.ensures.a_is c.node-n.ensures.b_is c.node-n.ensures.c_is c.leaf-test.ensures.0 c.leaf-x.ensures.0 c.leaf-y.ensures.0 c.over_arms.ensures)

pub bound_e-returns-in-28 : goal.bound_e-returns-in-28
bound_e-returns-in-28 t c = bounded_e c.args.p.now.now c.args.i c.requires (over_said c.args.p.now.now c.args.i c.requires (just_bound c.args.p.now.now c.args.i c.requires (sym c.node-n.ensures.kind_is ∙ c.in-28.is)) c.node-n.ensures.a_is c.leaf-in-28.ensures.0 c.over-in-28.ensures)

pub bound_e-returns-in-29 : goal.bound_e-returns-in-29
bound_e-returns-in-29 t c = bounded_e c.args.p.now.now c.args.i c.requires (arms_said c.args.p.now.now c.args.i c.requires (taking_bound c.args.p.now.now c.args.i c.requires (sym c.node-n.ensures.kind_is ∙ c.in-29.is)) c.node-n.ensures.a_is c.node-n.ensures.b_is c.node-n.ensures.c_is c.leaf-m.ensures.0 c.leaf-x-in-29.ensures.0 c.leaf-y-in-29.ensures.0 c.over_arms-in-29.ensures)

pub bound_e-returns-in_default : goal.bound_e-returns-in_default
bound_e-returns-in_default t c = bounded_e c.args.p.now.now c.args.i c.requires (both_said c.args.p.now.now c.args.i c.requires (operation_bound c.args.p.now.now c.args.i c.requires (left c.node-n.ensures.kind_is c.in_default.in_default-own.rest)) c.node-n.ensures.a_is c.node-n.ensures.b_is c.leaf-x-in_default.ensures.0 c.leaf-y-in_default.ensures.0 c.over_both.ensures)

pub leaf-node-n-requires : goal.leaf-node-n-requires
leaf-node-n-requires t c = let w = c.requires.node in (omega (arith, w.inside, w.shaped.within), omega (arith, w.inside, w.shaped.small))

pub leaf-bound_e-requires : goal.leaf-bound_e-requires
leaf-bound_e-requires t c = (omega (arith, c.decreases), c.requires)

pub leaf-returns-in-16 : goal.leaf-returns-in-16
leaf-returns-in-16 t c = bounded_e c.args.p.now.now c.args.i c.requires (sym (variable_bound c.args.p.now.now c.args.i c.requires (sym c.node-n.ensures.kind_is ∙ c.in-16.is)))

pub leaf-returns-in-17 : goal.leaf-returns-in-17
leaf-returns-in-17 t c = bounded_e c.args.p.now.now c.args.i c.requires (sym (constant_bound c.args.p.now.now c.args.i c.requires (sym c.node-n.ensures.kind_is ∙ c.in-17.is)))

pub leaf-returns-in_default : goal.leaf-returns-in_default
leaf-returns-in_default t c = c.bound_e.ensures
