use Rattle.tidy.proofs.SweepLaws.{not_walked, none_walked, walked, variable_stored, roomy_some, third_fits, second_fits, first_fits, node_stored, body_fits, definition_fits, kept_stored, gone_stored, through}
use Prim.Native.Nat.{◌-◌}
use borrow.Author.Tests.{not-true, not-false}
use lib.ListN.{length-set}
use mathlib.Core.Path.{◌∙◌}
use native.Mathlib.Omega.{arith}
use Rattle.tidy.proofs.+limb_sweep_sweep_let.Goals as goal

pub limb-returns-then-not-yes : goal.limb-returns-then-not-yes
limb-returns-then-not-yes t c = not_walked _ _ _ _ _ _ _ (not-true _ c.if-not-yes.true-raw)

pub limb-returns-then-m-i : goal.limb-returns-then-m-i
limb-returns-then-m-i t c = none_walked _ _ _ _ _ _ _ (not-false _ c.if-not-yes.false-raw) (omega (arith, c.if-m-i.true))

pub limb-sweep-requires : goal.limb-sweep-requires
limb-sweep-requires t c = (omega (arith, c.if-m-i.false, c.decreases), (c.requires.0, omega (arith, c.if-m-i.false, c.requires.1), through _ _ _ _ _ (not-false _ c.if-not-yes.false-raw) (omega (arith, c.if-m-i.false)) _ _ c.requires.2))

pub limb-shape_of-used : goal.limb-shape_of-used
limb-shape_of-used t c = c.sweep.auto.used

pub limb-shape_of-names : goal.limb-shape_of-names
limb-shape_of-names t c = c.sweep.auto.names

pub limb-returns : goal.limb-returns
limb-returns t c = let e = walked c.args.p.now.now c.args.i c.args.m c.args.yes c.args.used.now (not-false _ c.if-not-yes.false-raw) (omega (arith, c.if-m-i.false)) in rw e c.sweep.ensures

pub sweep-node-n-requires : goal.sweep-node-n-requires
sweep-node-n-requires t c = let s = c.requires.0 in (omega (arith, c.requires.1, s.within), omega (arith, c.requires.1, s.small))

pub sweep-sweep_let-requires : goal.sweep-sweep_let-requires
sweep-sweep_let-requires t c = (omega (arith, c.decreases), (c.requires.0, c.requires.1, c.if-k-eq5.true, c.node-n.ensures, c.requires.2))

pub sweep-shape_of-used-then-k-eq5 : goal.sweep-shape_of-used-then-k-eq5
sweep-shape_of-used-then-k-eq5 t c = c.sweep_let.auto.used

pub sweep-shape_of-names-then-k-eq5 : goal.sweep-shape_of-names-then-k-eq5
sweep-shape_of-names-then-k-eq5 t c = c.sweep_let.auto.names

pub sweep-returns-then-k-eq5 : goal.sweep-returns-then-k-eq5
sweep-returns-then-k-eq5 t c = c.sweep_let.ensures

pub sweep-overflow_cast-names : goal.sweep-overflow_cast-names
sweep-overflow_cast-names t c = let s = c.requires.0 in omega (arith, c.requires.1, s.small)

pub sweep-overflow_sub-names : goal.sweep-overflow_sub-names
sweep-overflow_sub-names t c = omega (arith, roomy_some _ _ _ _ _ c.requires.2)

pub sweep-offset_bounds-names-at : goal.sweep-offset_bounds-names-at
sweep-offset_bounds-names-at t c = let r = c.requires.2 in omega (arith, r.names_long)

pub sweep-bounds-names-at : goal.sweep-bounds-names-at
sweep-bounds-names-at t c = let r = c.requires.2 in omega (arith, r.names_long, r.most, roomy_some _ _ _ _ _ r)

pub sweep-mark-requires : goal.sweep-mark-requires
sweep-mark-requires t c = tt

pub sweep-overflow_sub-result : goal.sweep-overflow_sub-result
sweep-overflow_sub-result t c = omega (arith, roomy_some _ _ _ _ _ c.requires.2)

pub sweep-shape_of-used-then-k-eq16 : goal.sweep-shape_of-used-then-k-eq16
sweep-shape_of-used-then-k-eq16 t c = c.mark.auto.used

pub sweep-shape_of-names-then-k-eq16 : goal.sweep-shape_of-names-then-k-eq16
sweep-shape_of-names-then-k-eq16 t c = length-set c.args.names.now (c.args.at - 1) c.args.i

pub sweep-returns-then-k-eq16 : goal.sweep-returns-then-k-eq16
sweep-returns-then-k-eq16 t c = rw c.mark.ensures (variable_stored c.args.p.now.now c.args.i c.args.at _ c.args.used.now c.args.names.now c.node-n.ensures c.if-k-eq16.true (roomy_some _ _ _ _ _ c.requires.2))

pub sweep-child_a-in_a-requires : goal.sweep-child_a-in_a-requires
sweep-child_a-in_a-requires t c = tt

pub sweep-child_b-in_b-requires : goal.sweep-child_b-in_b-requires
sweep-child_b-in_b-requires t c = tt

pub sweep-child_c-in_c-requires : goal.sweep-child_c-in_c-requires
sweep-child_c-in_c-requires t c = tt

pub sweep-overflow_sub-at : goal.sweep-overflow_sub-at
sweep-overflow_sub-at t c = omega (arith, roomy_some _ _ _ _ _ c.requires.2)

pub sweep-limb-third-requires : goal.sweep-limb-third-requires
sweep-limb-third-requires t c = (omega (arith, c.decreases), (c.requires.0, c.requires.1, third_fits c.args.p.now.now c.args.i _ c.node-n.ensures c.child_a-in_a.result c.child_b-in_b.result c.child_c-in_c.result c.child_a-in_a.ensures c.child_b-in_b.ensures c.child_c-in_c.ensures c.if-k-eq16.false c.if-k-eq5.false c.args.at c.args.used.now c.args.names.now c.requires.2))

pub sweep-limb-second-requires : goal.sweep-limb-second-requires
sweep-limb-second-requires t c = (omega (arith, c.decreases), (c.requires.0, c.requires.1, second_fits c.args.p.now.now c.args.i _ c.node-n.ensures c.child_a-in_a.result c.child_b-in_b.result c.child_c-in_c.result c.child_a-in_a.ensures c.child_b-in_b.ensures c.child_c-in_c.ensures c.if-k-eq16.false c.if-k-eq5.false c.args.at c.args.used.now c.args.names.now c.requires.2 _ _ _ c.limb-third.ensures c.limb-third.auto.used c.limb-third.auto.names))

pub sweep-limb-requires : goal.sweep-limb-requires
sweep-limb-requires t c = (omega (arith, c.decreases), (c.requires.0, c.requires.1, first_fits c.args.p.now.now c.args.i _ c.node-n.ensures c.child_a-in_a.result c.child_b-in_b.result c.child_c-in_c.result c.child_a-in_a.ensures c.child_b-in_b.ensures c.child_c-in_c.ensures c.if-k-eq16.false c.if-k-eq5.false c.args.at c.args.used.now c.args.names.now c.requires.2 _ _ _ c.limb-third.ensures c.limb-third.auto.used c.limb-third.auto.names _ _ _ c.limb-second.ensures c.limb-second.auto.used c.limb-second.auto.names))

pub sweep-shape_of-used : goal.sweep-shape_of-used
sweep-shape_of-used t c = c.limb.auto.used ∙ c.limb-second.auto.used ∙ c.limb-third.auto.used

pub sweep-shape_of-names : goal.sweep-shape_of-names
sweep-shape_of-names t c = c.limb.auto.names ∙ c.limb-second.auto.names ∙ c.limb-third.auto.names ∙ length-set c.args.names.now (c.args.at - 1) c.args.i

pub sweep-returns : goal.sweep-returns
sweep-returns t c = node_stored c.args.p.now.now c.args.i _ c.node-n.ensures c.child_a-in_a.result c.child_b-in_b.result c.child_c-in_c.result c.child_a-in_a.ensures c.child_b-in_b.ensures c.child_c-in_c.ensures c.if-k-eq16.false c.if-k-eq5.false c.args.at c.args.used.now c.args.names.now c.requires.2 _ _ _ c.limb-third.ensures c.limb-third.auto.used c.limb-third.auto.names _ _ _ c.limb-second.ensures c.limb-second.auto.used c.limb-second.auto.names _ _ _ c.limb.ensures

pub sweep_let-bounds-used-i : goal.sweep_let-bounds-used-i
sweep_let-bounds-used-i t c = let s = c.requires.0 in let r = c.requires.4 in omega (arith, c.requires.1, s.small, r.used_long)

pub sweep_let-overflow_sub-at : goal.sweep_let-overflow_sub-at
sweep_let-overflow_sub-at t c = omega (arith, roomy_some _ _ _ _ _ c.requires.4)

pub sweep_let-limb-body-requires : goal.sweep_let-limb-body-requires
sweep_let-limb-body-requires t c = (omega (arith, c.decreases), (c.requires.0, c.requires.1, body_fits c.args.p.now.now c.args.i c.args.n c.requires.3 c.requires.2 c.args.at c.args.used.now c.args.names.now c.requires.4))

pub sweep_let-bounds-used-i-2 : goal.sweep_let-bounds-used-i-2
sweep_let-bounds-used-i-2 t c = let s = c.requires.0 in let r = c.requires.4 in omega (arith, c.requires.1, s.small, r.used_long, c.limb-body.auto.used, length-set c.args.used.now c.args.i 0)

pub sweep_let-overflow_cast-names : goal.sweep_let-overflow_cast-names
sweep_let-overflow_cast-names t c = let s = c.requires.0 in omega (arith, c.requires.1, s.small)

pub sweep_let-overflow_sub-names : goal.sweep_let-overflow_sub-names
sweep_let-overflow_sub-names t c = omega (arith, roomy_some _ _ _ _ _ c.requires.4)

pub sweep_let-offset_bounds-names-at : goal.sweep_let-offset_bounds-names-at
sweep_let-offset_bounds-names-at t c = let r = c.requires.4 in omega (arith, r.names_long, c.limb-body.auto.names)

pub sweep_let-bounds-names-at : goal.sweep_let-bounds-names-at
sweep_let-bounds-names-at t c = let r = c.requires.4 in omega (arith, r.names_long, r.most, roomy_some _ _ _ _ _ r, c.limb-body.auto.names)

pub sweep_let-limb-requires : goal.sweep_let-limb-requires
sweep_let-limb-requires t c = (omega (arith, c.decreases), (c.requires.0, c.requires.1, definition_fits c.args.p.now.now c.args.i c.args.n c.requires.3 c.requires.2 c.args.at c.args.used.now c.args.names.now c.requires.4 _ _ _ c.limb-body.ensures c.limb-body.auto.used c.limb-body.auto.names c.if-used-i-eq1.true))

pub sweep_let-shape_of-used-then-used-i-eq1 : goal.sweep_let-shape_of-used-then-used-i-eq1
sweep_let-shape_of-used-then-used-i-eq1 t c = c.limb.auto.used ∙ c.limb-body.auto.used ∙ length-set c.args.used.now c.args.i 0

pub sweep_let-shape_of-names-then-used-i-eq1 : goal.sweep_let-shape_of-names-then-used-i-eq1
sweep_let-shape_of-names-then-used-i-eq1 t c = c.limb.auto.names ∙ length-set c.limb-body.new.names (c.args.at - 1) c.args.i ∙ c.limb-body.auto.names

pub sweep_let-returns-then-used-i-eq1 : goal.sweep_let-returns-then-used-i-eq1
sweep_let-returns-then-used-i-eq1 t c = kept_stored c.args.p.now.now c.args.i c.args.n c.requires.3 c.requires.2 c.args.at c.args.used.now c.args.names.now c.requires.4 _ _ _ c.limb-body.ensures c.limb-body.auto.used c.limb-body.auto.names c.if-used-i-eq1.true _ _ _ c.limb.ensures

pub sweep_let-overflow_add-names : goal.sweep_let-overflow_add-names
sweep_let-overflow_add-names t c = let s = c.requires.0 in omega (arith, c.requires.1, s.small)

pub sweep_let-overflow_cast-names-2 : goal.sweep_let-overflow_cast-names-2
sweep_let-overflow_cast-names-2 t c = let s = c.requires.0 in omega (arith, c.requires.1, s.small)

pub sweep_let-overflow_sub-names-2 : goal.sweep_let-overflow_sub-names-2
sweep_let-overflow_sub-names-2 t c = omega (arith, roomy_some _ _ _ _ _ c.requires.4)

pub sweep_let-offset_bounds-names-at-2 : goal.sweep_let-offset_bounds-names-at-2
sweep_let-offset_bounds-names-at-2 t c = let r = c.requires.4 in omega (arith, r.names_long, c.limb-body.auto.names)

pub sweep_let-bounds-names-at-2 : goal.sweep_let-bounds-names-at-2
sweep_let-bounds-names-at-2 t c = let r = c.requires.4 in omega (arith, r.names_long, r.most, roomy_some _ _ _ _ _ r, c.limb-body.auto.names)

pub sweep_let-shape_of-used : goal.sweep_let-shape_of-used
sweep_let-shape_of-used t c = c.limb-body.auto.used ∙ length-set c.args.used.now c.args.i 0

pub sweep_let-shape_of-names : goal.sweep_let-shape_of-names
sweep_let-shape_of-names t c = simp length-set c.limb-body.auto.names

pub sweep_let-returns : goal.sweep_let-returns
sweep_let-returns t c = gone_stored c.args.p.now.now c.args.i c.args.n c.requires.3 c.requires.2 c.args.at c.args.used.now c.args.names.now c.requires.4 _ _ _ c.limb-body.ensures c.limb-body.auto.used c.limb-body.auto.names c.if-used-i-eq1.false
