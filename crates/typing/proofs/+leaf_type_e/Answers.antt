use Rattle.typing.proofs.ExprLaws.{variable_said, constant_said, negation_said, just_said, choice_said, taking_said, operation_said}
use Rattle.rules.proofs.Expressions.{left, negation_kid, just_kid, choice_kids, taking_kids, operation_kids}
use Rattle.rules.proofs.Kids.{read}
use mathlib.Core.Path.{sym, ◌∙◌}
use native.Mathlib.Omega.{arith}
use Rattle.places.proofs.NumberLaws.{no_place}
use Rattle.typing.proofs.+leaf_type_e.Goals as goal

pub leaf-node-n-requires : goal.leaf-node-n-requires
leaf-node-n-requires t c = let w = c.requires in (omega (arith, w.inside, w.shaped.within), omega (arith, w.inside, w.shaped.small))

pub leaf-declared-requires : goal.leaf-declared-requires
leaf-declared-requires t c = c.requires.shaped.whole

pub leaf-type_e-requires : goal.leaf-type_e-requires
leaf-type_e-requires t c = (omega (arith, c.decreases), c.requires)

pub leaf-returns-in-16 : goal.leaf-returns-in-16
leaf-returns-in-16 t c = variable_said c.args.p.now.now c.args.i c.requires (sym c.node-n.ensures.kind_is ∙ c.in-16.is) c.node-n.ensures.a_is c.declared.ensures no_place c.typed_at.ensures

pub leaf-returns-in-17 : goal.leaf-returns-in-17
leaf-returns-in-17 t c = constant_said c.args.p.now.now c.args.i c.requires (sym c.node-n.ensures.kind_is ∙ c.in-17.is) c.node-n.ensures.type_is no_place c.typed_at-in-17.ensures

pub leaf-returns-in_default : goal.leaf-returns-in_default
leaf-returns-in_default t c = c.type_e.ensures

pub type_e-node-n-requires : goal.type_e-node-n-requires
type_e-node-n-requires t c = let w = c.requires in (omega (arith, w.inside, w.shaped.within), omega (arith, w.inside, w.shaped.small))

pub type_e-declared-requires : goal.type_e-declared-requires
type_e-declared-requires t c = c.requires.shaped.whole

pub type_e-leaf-requires : goal.type_e-leaf-requires
type_e-leaf-requires t c = let k = read c.node-n.ensures.a_is (negation_kid c.args.p.now.now c.args.i c.requires (sym c.node-n.ensures.kind_is ∙ c.in-24.is)) in (omega (arith, k.less, c.decreases), k.node)

pub type_e-negation-requires : goal.type_e-negation-requires
type_e-negation-requires t c = omega (arith, c.requires.inside, c.requires.shaped.small)

pub type_e-leaf-test-requires : goal.type_e-leaf-test-requires
type_e-leaf-test-requires t c = let k = read c.node-n.ensures.a_is (choice_kids c.args.p.now.now c.args.i c.requires (sym c.node-n.ensures.kind_is ∙ c.in-27.is)).0 in (omega (arith, k.less, c.decreases), k.node)

pub type_e-leaf-x-requires : goal.type_e-leaf-x-requires
type_e-leaf-x-requires t c = let k = read c.node-n.ensures.b_is (choice_kids c.args.p.now.now c.args.i c.requires (sym c.node-n.ensures.kind_is ∙ c.in-27.is)).1 in (omega (arith, k.less, c.decreases), k.node)

pub type_e-leaf-y-requires : goal.type_e-leaf-y-requires
type_e-leaf-y-requires t c = let k = read c.node-n.ensures.c_is (choice_kids c.args.p.now.now c.args.i c.requires (sym c.node-n.ensures.kind_is ∙ c.in-27.is)).2 in (omega (arith, k.less, c.decreases), k.node)

pub type_e-choice-requires : goal.type_e-choice-requires
type_e-choice-requires t c = omega (arith, c.requires.inside, c.requires.shaped.small)

pub type_e-leaf-requires-in-28 : goal.type_e-leaf-requires-in-28
type_e-leaf-requires-in-28 t c = let k = read c.node-n.ensures.a_is (just_kid c.args.p.now.now c.args.i c.requires (sym c.node-n.ensures.kind_is ∙ c.in-28.is)) in (omega (arith, k.less, c.decreases), k.node)

pub type_e-justly-requires : goal.type_e-justly-requires
type_e-justly-requires t c = omega (arith, c.requires.inside, c.requires.shaped.small)

pub type_e-leaf-m-requires : goal.type_e-leaf-m-requires
type_e-leaf-m-requires t c = let k = read c.node-n.ensures.a_is (taking_kids c.args.p.now.now c.args.i c.requires (sym c.node-n.ensures.kind_is ∙ c.in-29.is)).0 in (omega (arith, k.less, c.decreases), k.node)

pub type_e-leaf-x-requires-in-29 : goal.type_e-leaf-x-requires-in-29
type_e-leaf-x-requires-in-29 t c = let k = read c.node-n.ensures.b_is (taking_kids c.args.p.now.now c.args.i c.requires (sym c.node-n.ensures.kind_is ∙ c.in-29.is)).1 in (omega (arith, k.less, c.decreases), k.node)

pub type_e-leaf-y-requires-in-29 : goal.type_e-leaf-y-requires-in-29
type_e-leaf-y-requires-in-29 t c = let k = read c.node-n.ensures.c_is (taking_kids c.args.p.now.now c.args.i c.requires (sym c.node-n.ensures.kind_is ∙ c.in-29.is)).2 in (omega (arith, k.less, c.decreases), k.node)

pub type_e-taking-requires : goal.type_e-taking-requires
type_e-taking-requires t c = omega (arith, c.requires.inside, c.requires.shaped.small)

pub type_e-leaf-x-requires-in_default : goal.type_e-leaf-x-requires-in_default
type_e-leaf-x-requires-in_default t c = let k = read c.node-n.ensures.a_is (operation_kids c.args.p.now.now c.args.i c.requires (left c.node-n.ensures.kind_is c.in_default.in_default-own.rest)).0 in (omega (arith, k.less, c.decreases), k.node)

pub type_e-leaf-y-requires-in_default : goal.type_e-leaf-y-requires-in_default
type_e-leaf-y-requires-in_default t c = let k = read c.node-n.ensures.b_is (operation_kids c.args.p.now.now c.args.i c.requires (left c.node-n.ensures.kind_is c.in_default.in_default-own.rest)).1 in (omega (arith, k.less, c.decreases), k.node)

pub type_e-operation-requires : goal.type_e-operation-requires
type_e-operation-requires t c = omega (arith, c.requires.inside, c.requires.shaped.small)

pub type_e-returns-in-16 : goal.type_e-returns-in-16
type_e-returns-in-16 t c = variable_said c.args.p.now.now c.args.i c.requires (sym c.node-n.ensures.kind_is ∙ c.in-16.is) c.node-n.ensures.a_is c.declared.ensures no_place c.typed_at.ensures

pub type_e-returns-in-17 : goal.type_e-returns-in-17
type_e-returns-in-17 t c = constant_said c.args.p.now.now c.args.i c.requires (sym c.node-n.ensures.kind_is ∙ c.in-17.is) c.node-n.ensures.type_is no_place c.typed_at-in-17.ensures

pub type_e-returns-in-24 : goal.type_e-returns-in-24
type_e-returns-in-24 t c = negation_said c.args.p.now.now c.args.i c.requires (sym c.node-n.ensures.kind_is ∙ c.in-24.is) c.node-n.ensures.a_is c.leaf.ensures c.negation.ensures

pub type_e-returns-in-27 : goal.type_e-returns-in-27
type_e-returns-in-27 t c = choice_said c.args.p.now.now c.args.i c.requires (sym c.node-n.ensures.kind_is ∙ c.in-27.is) c.node-n.ensures.a_is c.node-n.ensures.b_is c.node-n.ensures.c_is c.leaf-test.ensures c.leaf-x.ensures c.leaf-y.ensures c.choice.ensures

pub type_e-returns-in-28 : goal.type_e-returns-in-28
type_e-returns-in-28 t c = just_said c.args.p.now.now c.args.i c.requires (sym c.node-n.ensures.kind_is ∙ c.in-28.is) c.node-n.ensures.a_is c.leaf-in-28.ensures c.justly.ensures

pub type_e-returns-in-29 : goal.type_e-returns-in-29
type_e-returns-in-29 t c = taking_said c.args.p.now.now c.args.i c.requires (sym c.node-n.ensures.kind_is ∙ c.in-29.is) c.node-n.ensures.type_is c.node-n.ensures.a_is c.node-n.ensures.b_is c.node-n.ensures.c_is c.leaf-m.ensures c.leaf-x-in-29.ensures c.leaf-y-in-29.ensures c.taking.ensures

pub type_e-returns-in_default : goal.type_e-returns-in_default
type_e-returns-in_default t c = operation_said c.args.p.now.now c.args.i c.requires (left c.node-n.ensures.kind_is c.in_default.in_default-own.rest) c.node-n.ensures.kind_is c.node-n.ensures.a_is c.node-n.ensures.b_is c.leaf-x-in_default.ensures c.leaf-y-in_default.ensures c.operation.ensures
