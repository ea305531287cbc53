use mathlib.Core.Path.{ap}
use lib.ListN.{length}
use borrow.Author.Tests.{not-true, not-false}
use native.Mathlib.Omega.{arith}
use Rattle.inorder.proofs.WalkLaws.{walked_none, walked_as, not_child, not_smaller, is_child_lem, fits, node_walked}
use Rattle.inorder.proofs.Listing.+limb_walk.Goals as goal

pub limb-returns-then-not-yes : goal.limb-returns-then-not-yes
limb-returns-then-not-yes t c = walked_as (not_child _ _ _ _ (not-true _ c.if-not-yes.true-raw)) (walked_none _ _ _)

pub limb-returns-then-m-i : goal.limb-returns-then-m-i
limb-returns-then-m-i t c = walked_as (not_smaller _ _ _ _ (not-false _ c.if-not-yes.false-raw) (omega (arith, c.if-m-i.true))) (walked_none _ _ _)

pub limb-walk-requires : goal.limb-walk-requires
limb-walk-requires t c = (omega (arith, c.if-m-i.false, c.decreases), (c.requires.0, omega (arith, c.if-m-i.false, c.requires.1), omega (arith, c.requires.2, ap length (is_child_lem c.args.p.now.now c.args.i c.args.m c.args.yes (not-false _ c.if-not-yes.false-raw) (omega (arith, c.if-m-i.false))))))

pub limb-returns : goal.limb-returns
limb-returns t c = walked_as (is_child_lem _ _ _ _ (not-false _ c.if-not-yes.false-raw) (omega (arith, c.if-m-i.false))) c.walk.ensures

pub walk-node-n-requires : goal.walk-node-n-requires
walk-node-n-requires t c = let s = c.requires.0 in (omega (arith, c.requires.1, s.within), omega (arith, c.requires.1, s.small))

pub walk-limb-requires : goal.walk-limb-requires
walk-limb-requires t c = (omega (arith, c.decreases), (c.requires.0, c.requires.1, omega (arith, fits c.args.p.now.now c.args.i _ c.node-n.ensures _ _ _ c.child_a-in_a.ensures c.child_b-in_b.ensures c.child_c-in_c.ensures c.args.self.now.count c.requires.2)))

pub walk-limb-requires-2 : goal.walk-limb-requires-2
walk-limb-requires-2 t c = let w₁ = c.limb.ensures in (omega (arith, c.decreases), (c.requires.0, c.requires.1, omega (arith, w₁.from, fits c.args.p.now.now c.args.i _ c.node-n.ensures _ _ _ c.child_a-in_a.ensures c.child_b-in_b.ensures c.child_c-in_c.ensures c.args.self.now.count c.requires.2)))

pub walk-limb-requires-3 : goal.walk-limb-requires-3
walk-limb-requires-3 t c = let w₁ = c.limb.ensures in let w₂ = c.limb-2.ensures in (omega (arith, c.decreases), (c.requires.0, c.requires.1, omega (arith, w₁.from, w₂.from, fits c.args.p.now.now c.args.i _ c.node-n.ensures _ _ _ c.child_a-in_a.ensures c.child_b-in_b.ensures c.child_c-in_c.ensures c.args.self.now.count c.requires.2)))

pub walk-offset_bounds-self-own : goal.walk-offset_bounds-self-own
walk-offset_bounds-self-own t c = let w₁ = c.limb.ensures in let w₂ = c.limb-2.ensures in let w₃ = c.limb-3.ensures in omega (arith, w₁.from, w₂.from, w₃.from, fits c.args.p.now.now c.args.i _ c.node-n.ensures _ _ _ c.child_a-in_a.ensures c.child_b-in_b.ensures c.child_c-in_c.ensures c.args.self.now.count c.requires.2)

pub walk-bounds-self-own : goal.walk-bounds-self-own
walk-bounds-self-own t c = let w₁ = c.limb.ensures in let w₂ = c.limb-2.ensures in let w₃ = c.limb-3.ensures in omega (arith, w₁.from, w₂.from, w₃.from, fits c.args.p.now.now c.args.i _ c.node-n.ensures _ _ _ c.child_a-in_a.ensures c.child_b-in_b.ensures c.child_c-in_c.ensures c.args.self.now.count c.requires.2)

pub walk-overflow_cast-self-2 : goal.walk-overflow_cast-self-2
walk-overflow_cast-self-2 t c = let w₁ = c.limb.ensures in let w₂ = c.limb-2.ensures in let w₃ = c.limb-3.ensures in omega (arith, w₁.from, w₂.from, w₃.from, fits c.args.p.now.now c.args.i _ c.node-n.ensures _ _ _ c.child_a-in_a.ensures c.child_b-in_b.ensures c.child_c-in_c.ensures c.args.self.now.count c.requires.2)

pub walk-overflow_add-self : goal.walk-overflow_add-self
walk-overflow_add-self t c = let w₁ = c.limb.ensures in let w₂ = c.limb-2.ensures in let w₃ = c.limb-3.ensures in omega (arith, w₁.from, w₂.from, w₃.from, fits c.args.p.now.now c.args.i _ c.node-n.ensures _ _ _ c.child_a-in_a.ensures c.child_b-in_b.ensures c.child_c-in_c.ensures c.args.self.now.count c.requires.2)

pub walk-returns : goal.walk-returns
walk-returns t c = node_walked c.args.p.now.now c.args.i _ c.node-n.ensures _ _ _ c.child_a-in_a.ensures c.child_b-in_b.ensures c.child_c-in_c.ensures c.limb.ensures c.limb-2.ensures c.limb-3.ensures
