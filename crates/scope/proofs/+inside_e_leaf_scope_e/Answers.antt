-- Each arm is the scope of an expression of its kind, from those of its parts; a binder's mark is put back.
use Rattle.rules.proofs.PutBack.{put_back}
use Rattle.places.proofs.NumberLaws.{no_place}
use lib.ListN.{set, get_or}
use Rattle.scope.proofs.ScopeLaws.{constant_scope, negation_scope, just_scope, variable_parts, one_part, choice_parts, taking_parts, operation_parts}
use Rattle.rules.proofs.Expressions.{left, negation_kid, just_kid, choice_kids, taking_kids, operation_kids}
use Rattle.rules.proofs.Kids.{read}
use Rattle.rules.specs.Scope.{mark}
use mathlib.Core.List.{List}
use native.Mathlib.Omega.{arith}
use mathlib.Core.Path.{refl, sym, ap, ◌∙◌}
use Prim.Native.Nat.{ℕ}
use Rattle.scope.proofs.+inside_e_leaf_scope_e.Goals as goal

pub inside_e-scope_e-r-requires : goal.inside_e-scope_e-r-requires
inside_e-scope_e-r-requires t c = (omega (arith, c.decreases), c.requires.0)

pub inside_e-returns : goal.inside_e-returns
unfolding mark
inside_e-returns t c = (c.scope_e-r.ensures.0, ap (λ (l : List ℕ). set l c.args.i (get_or c.args.marks.now c.args.i 0)) c.scope_e-r.ensures.1 ∙ put_back _ _ 1)

pub leaf-node-n-requires : goal.leaf-node-n-requires
leaf-node-n-requires t c = let w = c.requires in (omega (arith, w.inside, w.shaped.within), omega (arith, w.inside, w.shaped.small))

pub leaf-wrong_unless-requires : goal.leaf-wrong_unless-requires
leaf-wrong_unless-requires t c = omega (arith, c.requires.inside, c.requires.shaped.small)

pub leaf-scope_e-requires : goal.leaf-scope_e-requires
leaf-scope_e-requires t c = (omega (arith, c.decreases), c.requires)

pub leaf-returns-in-16 : goal.leaf-returns-in-16
leaf-returns-in-16 t c = (variable_parts c.args.p.now.now c.args.i c.requires c.args.marks.now (sym c.node-n.ensures.kind_is ∙ c.in-16.is) c.node-n.ensures.a_is c.marked.ensures c.wrong_unless.ensures, refl)

pub leaf-returns-in-17 : goal.leaf-returns-in-17
leaf-returns-in-17 t c = (no_place ∙ sym (constant_scope c.args.p.now.now c.args.i c.requires c.args.marks.now (sym c.node-n.ensures.kind_is ∙ c.in-17.is)), refl)

pub leaf-returns-in_default : goal.leaf-returns-in_default
leaf-returns-in_default t c = c.scope_e.ensures

pub scope_e-node-n-requires : goal.scope_e-node-n-requires
scope_e-node-n-requires t c = let w = c.requires in (omega (arith, w.inside, w.shaped.within), omega (arith, w.inside, w.shaped.small))

pub scope_e-wrong_unless-requires : goal.scope_e-wrong_unless-requires
scope_e-wrong_unless-requires t c = omega (arith, c.requires.inside, c.requires.shaped.small)

pub scope_e-leaf-requires : goal.scope_e-leaf-requires
scope_e-leaf-requires t c = let k = read c.node-n.ensures.a_is (negation_kid c.args.p.now.now c.args.i c.requires (sym c.node-n.ensures.kind_is ∙ c.in-24.is)) in (omega (arith, k.less, c.decreases), k.node)

pub scope_e-leaf-test-requires : goal.scope_e-leaf-test-requires
scope_e-leaf-test-requires t c = let k = read c.node-n.ensures.a_is (choice_kids c.args.p.now.now c.args.i c.requires (sym c.node-n.ensures.kind_is ∙ c.in-27.is)).0 in (omega (arith, k.less, c.decreases), k.node)

pub scope_e-leaf-x-requires : goal.scope_e-leaf-x-requires
scope_e-leaf-x-requires t c = let k = read c.node-n.ensures.b_is (choice_kids c.args.p.now.now c.args.i c.requires (sym c.node-n.ensures.kind_is ∙ c.in-27.is)).1 in (omega (arith, k.less, c.decreases), k.node)

pub scope_e-leaf-y-requires : goal.scope_e-leaf-y-requires
scope_e-leaf-y-requires t c = let k = read c.node-n.ensures.c_is (choice_kids c.args.p.now.now c.args.i c.requires (sym c.node-n.ensures.kind_is ∙ c.in-27.is)).2 in (omega (arith, k.less, c.decreases), k.node)

pub scope_e-leaf-requires-in-28 : goal.scope_e-leaf-requires-in-28
scope_e-leaf-requires-in-28 t c = let k = read c.node-n.ensures.a_is (just_kid c.args.p.now.now c.args.i c.requires (sym c.node-n.ensures.kind_is ∙ c.in-28.is)) in (omega (arith, k.less, c.decreases), k.node)

pub scope_e-leaf-m-requires : goal.scope_e-leaf-m-requires
scope_e-leaf-m-requires t c = let k = read c.node-n.ensures.a_is (taking_kids c.args.p.now.now c.args.i c.requires (sym c.node-n.ensures.kind_is ∙ c.in-29.is)).0 in (omega (arith, k.less, c.decreases), k.node)

pub scope_e-leaf-x-requires-in-29 : goal.scope_e-leaf-x-requires-in-29
scope_e-leaf-x-requires-in-29 t c = let k = read c.node-n.ensures.b_is (taking_kids c.args.p.now.now c.args.i c.requires (sym c.node-n.ensures.kind_is ∙ c.in-29.is)).1 in (omega (arith, k.less, c.decreases), k.node)

pub scope_e-inside_e-y-requires : goal.scope_e-inside_e-y-requires
scope_e-inside_e-y-requires t c = let k = read c.node-n.ensures.c_is (taking_kids c.args.p.now.now c.args.i c.requires (sym c.node-n.ensures.kind_is ∙ c.in-29.is)).2 in (omega (arith, k.less, c.decreases), (k.node, omega (arith, c.requires.inside, c.requires.shaped.small)))

pub scope_e-leaf-x-requires-in_default : goal.scope_e-leaf-x-requires-in_default
scope_e-leaf-x-requires-in_default t c = let k = read c.node-n.ensures.a_is (operation_kids c.args.p.now.now c.args.i c.requires (left c.node-n.ensures.kind_is c.in_default.in_default-own.rest)).0 in (omega (arith, k.less, c.decreases), k.node)

pub scope_e-leaf-y-requires-in_default : goal.scope_e-leaf-y-requires-in_default
scope_e-leaf-y-requires-in_default t c = let k = read c.node-n.ensures.b_is (operation_kids c.args.p.now.now c.args.i c.requires (left c.node-n.ensures.kind_is c.in_default.in_default-own.rest)).1 in (omega (arith, k.less, c.decreases), k.node)

pub scope_e-returns-in-16 : goal.scope_e-returns-in-16
scope_e-returns-in-16 t c = (variable_parts c.args.p.now.now c.args.i c.requires c.args.marks.now (sym c.node-n.ensures.kind_is ∙ c.in-16.is) c.node-n.ensures.a_is c.marked.ensures c.wrong_unless.ensures, refl)

pub scope_e-returns-in-17 : goal.scope_e-returns-in-17
scope_e-returns-in-17 t c = (no_place ∙ sym (constant_scope c.args.p.now.now c.args.i c.requires c.args.marks.now (sym c.node-n.ensures.kind_is ∙ c.in-17.is)), refl)

pub scope_e-returns-in-24 : goal.scope_e-returns-in-24
scope_e-returns-in-24 t c = (one_part c.args.p.now.now c.args.i c.requires c.args.marks.now (negation_scope c.args.p.now.now c.args.i c.requires c.args.marks.now (sym c.node-n.ensures.kind_is ∙ c.in-24.is)) c.node-n.ensures.a_is c.leaf.ensures.0, c.leaf.ensures.1)

pub scope_e-returns-in-27 : goal.scope_e-returns-in-27
scope_e-returns-in-27 t c = (choice_parts c.args.p.now.now c.args.i c.requires c.args.marks.now (sym c.node-n.ensures.kind_is ∙ c.in-27.is) c.node-n.ensures.a_is c.node-n.ensures.b_is c.node-n.ensures.c_is c.leaf-test.ensures.0 c.leaf-test.ensures.1 c.leaf-x.ensures.0 c.leaf-x.ensures.1 c.leaf-y.ensures.0 c.sooner.ensures c.sooner-in-27.ensures, c.leaf-y.ensures.1 ∙ c.leaf-x.ensures.1 ∙ c.leaf-test.ensures.1)

pub scope_e-returns-in-28 : goal.scope_e-returns-in-28
scope_e-returns-in-28 t c = (one_part c.args.p.now.now c.args.i c.requires c.args.marks.now (just_scope c.args.p.now.now c.args.i c.requires c.args.marks.now (sym c.node-n.ensures.kind_is ∙ c.in-28.is)) c.node-n.ensures.a_is c.leaf-in-28.ensures.0, c.leaf-in-28.ensures.1)

pub scope_e-returns-in-29 : goal.scope_e-returns-in-29
scope_e-returns-in-29 t c = (taking_parts c.args.p.now.now c.args.i c.requires c.args.marks.now (sym c.node-n.ensures.kind_is ∙ c.in-29.is) c.node-n.ensures.a_is c.node-n.ensures.b_is c.node-n.ensures.c_is c.leaf-m.ensures.0 c.leaf-m.ensures.1 c.leaf-x-in-29.ensures.0 c.leaf-x-in-29.ensures.1 c.inside_e-y.ensures.0 c.sooner-in-29.ensures c.sooner-in-29-2.ensures, c.inside_e-y.ensures.1 ∙ c.leaf-x-in-29.ensures.1 ∙ c.leaf-m.ensures.1)

pub scope_e-returns-in_default : goal.scope_e-returns-in_default
scope_e-returns-in_default t c = (operation_parts c.args.p.now.now c.args.i c.requires c.args.marks.now (left c.node-n.ensures.kind_is c.in_default.in_default-own.rest) c.node-n.ensures.a_is c.node-n.ensures.b_is c.leaf-x-in_default.ensures.0 c.leaf-x-in_default.ensures.1 c.leaf-y-in_default.ensures.0 c.sooner-in_default.ensures, c.leaf-y-in_default.ensures.1 ∙ c.leaf-x-in_default.ensures.1)
