-- Each arm is what is found in an expression of its kind, from what is found in its parts.
use mathlib.Core.Path.{refl, sym, ap, ◌∙◌}
use native.Mathlib.Omega.{arith}
use Rattle.rules.proofs.Kids.{read}
use Rattle.places.proofs.NumberLaws.{no_place}
use Rattle.rules.proofs.Expressions.{left, negation_kid, just_kid, choice_kids, taking_kids, operation_kids}
use Rattle.rules.specs.Places.{wrong_if}
use Rattle.ready.specs.Regions.{marked_in}
use Rattle.ready.proofs.RegionLaws.{entered}
use Rattle.ready.proofs.PassLaws.{of_two, of_three, part_e}
use Rattle.ready.proofs.FoundLaws.{variable_found, constant_found, negation_found, just_found, choice_found, taking_found, operation_found}
use Prim.Native.Nat.{ℕ}
use Rattle.ready.proofs.+leaf_pass_e.Goals as goal

pub pass_e-node-n-requires : goal.pass_e-node-n-requires
pass_e-node-n-requires t c = let w = c.requires.node in (omega (arith, w.inside, w.shaped.within), omega (arith, w.inside, w.shaped.small))

pub pass_e-needed-requires : goal.pass_e-needed-requires
pass_e-needed-requires t c = omega (arith, c.requires.above)

pub pass_e-leaf-requires : goal.pass_e-leaf-requires
pass_e-leaf-requires t c = let k = read c.node-n.ensures.a_is (negation_kid c.args.p.now.now c.args.i c.requires.node (sym c.node-n.ensures.kind_is ∙ c.in-24.is)) in (omega (arith, k.less, c.decreases), entered c.requires refl k (omega (arith, k.less, c.requires.above)) (omega arith))

pub pass_e-leaf-test-requires : goal.pass_e-leaf-test-requires
pass_e-leaf-test-requires t c = let k = read c.node-n.ensures.a_is (choice_kids c.args.p.now.now c.args.i c.requires.node (sym c.node-n.ensures.kind_is ∙ c.in-27.is)).0 in (omega (arith, k.less, c.decreases), entered c.requires refl k (omega (arith, k.less, c.requires.above)) (omega arith))

pub pass_e-leaf-x-requires : goal.pass_e-leaf-x-requires
pass_e-leaf-x-requires t c = let k = read c.node-n.ensures.b_is (choice_kids c.args.p.now.now c.args.i c.requires.node (sym c.node-n.ensures.kind_is ∙ c.in-27.is)).1 in (omega (arith, k.less, c.decreases), entered c.requires refl k (omega (arith, k.less, c.requires.above)) (omega arith))

pub pass_e-leaf-y-requires : goal.pass_e-leaf-y-requires
pass_e-leaf-y-requires t c = let k = read c.node-n.ensures.c_is (choice_kids c.args.p.now.now c.args.i c.requires.node (sym c.node-n.ensures.kind_is ∙ c.in-27.is)).2 in (omega (arith, k.less, c.decreases), entered c.requires refl k (omega (arith, k.less, c.requires.above)) (omega arith))

pub pass_e-leaf-requires-in-28 : goal.pass_e-leaf-requires-in-28
pass_e-leaf-requires-in-28 t c = let k = read c.node-n.ensures.a_is (just_kid c.args.p.now.now c.args.i c.requires.node (sym c.node-n.ensures.kind_is ∙ c.in-28.is)) in (omega (arith, k.less, c.decreases), entered c.requires refl k (omega (arith, k.less, c.requires.above)) (omega arith))

pub pass_e-leaf-m-requires : goal.pass_e-leaf-m-requires
pass_e-leaf-m-requires t c = let k = read c.node-n.ensures.a_is (taking_kids c.args.p.now.now c.args.i c.requires.node (sym c.node-n.ensures.kind_is ∙ c.in-29.is)).0 in (omega (arith, k.less, c.decreases), entered c.requires refl k (omega (arith, k.less, c.requires.above)) (omega arith))

pub pass_e-leaf-x-requires-in-29 : goal.pass_e-leaf-x-requires-in-29
pass_e-leaf-x-requires-in-29 t c = let k = read c.node-n.ensures.b_is (taking_kids c.args.p.now.now c.args.i c.requires.node (sym c.node-n.ensures.kind_is ∙ c.in-29.is)).1 in (omega (arith, k.less, c.decreases), entered c.requires refl k (omega (arith, k.less, c.requires.above)) (omega arith))

pub pass_e-leaf-y-requires-in-29 : goal.pass_e-leaf-y-requires-in-29
pass_e-leaf-y-requires-in-29 t c = let k = read c.node-n.ensures.c_is (taking_kids c.args.p.now.now c.args.i c.requires.node (sym c.node-n.ensures.kind_is ∙ c.in-29.is)).2 in (omega (arith, k.less, c.decreases), entered c.requires refl k (omega (arith, k.less, c.requires.above)) (omega arith))

pub pass_e-leaf-x-requires-in_default : goal.pass_e-leaf-x-requires-in_default
pass_e-leaf-x-requires-in_default t c = let k = read c.node-n.ensures.a_is (operation_kids c.args.p.now.now c.args.i c.requires.node (left c.node-n.ensures.kind_is c.in_default.in_default-own.rest)).0 in (omega (arith, k.less, c.decreases), entered c.requires refl k (omega (arith, k.less, c.requires.above)) (omega arith))

pub pass_e-leaf-y-requires-in_default : goal.pass_e-leaf-y-requires-in_default
pass_e-leaf-y-requires-in_default t c = let k = read c.node-n.ensures.b_is (operation_kids c.args.p.now.now c.args.i c.requires.node (left c.node-n.ensures.kind_is c.in_default.in_default-own.rest)).1 in (omega (arith, k.less, c.decreases), entered c.requires refl k (omega (arith, k.less, c.requires.above)) (omega arith))

pub pass_e-returns-in-16 : goal.pass_e-returns-in-16
pass_e-returns-in-16 t c = c.needed.ensures ∙ ap (λ (x : ℕ). wrong_if (marked_in c.args.marks.now c.args.region x) x) c.node-n.ensures.a_is ∙ sym (variable_found c.args.p.now.now c.args.i c.requires.node (marked_in c.args.marks.now c.args.region) (sym c.node-n.ensures.kind_is ∙ c.in-16.is))

pub pass_e-returns-in-17 : goal.pass_e-returns-in-17
pass_e-returns-in-17 t c = no_place ∙ sym (constant_found c.args.p.now.now c.args.i c.requires.node (marked_in c.args.marks.now c.args.region) (sym c.node-n.ensures.kind_is ∙ c.in-17.is))

pub pass_e-returns-in-24 : goal.pass_e-returns-in-24
pass_e-returns-in-24 t c = part_e c.args.p.now.now (marked_in c.args.marks.now c.args.region) c.node-n.ensures.a_is c.leaf.ensures ∙ sym (negation_found c.args.p.now.now c.args.i c.requires.node (marked_in c.args.marks.now c.args.region) (sym c.node-n.ensures.kind_is ∙ c.in-24.is))

pub pass_e-returns-in-27 : goal.pass_e-returns-in-27
pass_e-returns-in-27 t c = of_three (choice_found c.args.p.now.now c.args.i c.requires.node (marked_in c.args.marks.now c.args.region) (sym c.node-n.ensures.kind_is ∙ c.in-27.is)) (part_e c.args.p.now.now (marked_in c.args.marks.now c.args.region) c.node-n.ensures.a_is c.leaf-test.ensures) (part_e c.args.p.now.now (marked_in c.args.marks.now c.args.region) c.node-n.ensures.b_is c.leaf-x.ensures) (part_e c.args.p.now.now (marked_in c.args.marks.now c.args.region) c.node-n.ensures.c_is c.leaf-y.ensures) c.sooner.ensures c.sooner-in-27.ensures

pub pass_e-returns-in-28 : goal.pass_e-returns-in-28
pass_e-returns-in-28 t c = part_e c.args.p.now.now (marked_in c.args.marks.now c.args.region) c.node-n.ensures.a_is c.leaf-in-28.ensures ∙ sym (just_found c.args.p.now.now c.args.i c.requires.node (marked_in c.args.marks.now c.args.region) (sym c.node-n.ensures.kind_is ∙ c.in-28.is))

pub pass_e-returns-in-29 : goal.pass_e-returns-in-29
pass_e-returns-in-29 t c = of_three (taking_found c.args.p.now.now c.args.i c.requires.node (marked_in c.args.marks.now c.args.region) (sym c.node-n.ensures.kind_is ∙ c.in-29.is)) (part_e c.args.p.now.now (marked_in c.args.marks.now c.args.region) c.node-n.ensures.a_is c.leaf-m.ensures) (part_e c.args.p.now.now (marked_in c.args.marks.now c.args.region) c.node-n.ensures.b_is c.leaf-x-in-29.ensures) (part_e c.args.p.now.now (marked_in c.args.marks.now c.args.region) c.node-n.ensures.c_is c.leaf-y-in-29.ensures) c.sooner-in-29.ensures c.sooner-in-29-2.ensures

pub pass_e-returns-in_default : goal.pass_e-returns-in_default
pass_e-returns-in_default t c = of_two (operation_found c.args.p.now.now c.args.i c.requires.node (marked_in c.args.marks.now c.args.region) (left c.node-n.ensures.kind_is c.in_default.in_default-own.rest)) (part_e c.args.p.now.now (marked_in c.args.marks.now c.args.region) c.node-n.ensures.a_is c.leaf-x-in_default.ensures) (part_e c.args.p.now.now (marked_in c.args.marks.now c.args.region) c.node-n.ensures.b_is c.leaf-y-in_default.ensures) c.sooner-in_default.ensures

pub leaf-node-n-requires : goal.leaf-node-n-requires
leaf-node-n-requires t c = let w = c.requires.node in (omega (arith, w.inside, w.shaped.within), omega (arith, w.inside, w.shaped.small))

pub leaf-needed-requires : goal.leaf-needed-requires
leaf-needed-requires t c = omega (arith, c.requires.above)

pub leaf-pass_e-requires : goal.leaf-pass_e-requires
leaf-pass_e-requires t c = (omega (arith, c.decreases), c.requires)

pub leaf-returns-in-16 : goal.leaf-returns-in-16
leaf-returns-in-16 t c = c.needed.ensures ∙ ap (λ (x : ℕ). wrong_if (marked_in c.args.marks.now c.args.region x) x) c.node-n.ensures.a_is ∙ sym (variable_found c.args.p.now.now c.args.i c.requires.node (marked_in c.args.marks.now c.args.region) (sym c.node-n.ensures.kind_is ∙ c.in-16.is))

pub leaf-returns-in-17 : goal.leaf-returns-in-17
leaf-returns-in-17 t c = no_place ∙ sym (constant_found c.args.p.now.now c.args.i c.requires.node (marked_in c.args.marks.now c.args.region) (sym c.node-n.ensures.kind_is ∙ c.in-17.is))

pub leaf-returns-in_default : goal.leaf-returns-in_default
leaf-returns-in_default t c = c.pass_e.ensures
