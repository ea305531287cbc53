use Rattle.mending.proofs.MendLaws.{delay_mend_said, let_mend_said, switch_kept_said, switch_begun_said, group_kept_said, group_begun_said, until_mend_said, quiet_mend, this_end_said, this_on_said, other_end_said, other_on_said, case_mend_end_said, case_mend_on_said}
use Rattle.state.proofs.Carried.{carried, own_delay, own_switch, own_group}
use Rattle.rules.proofs.Signals.{delay_kid, let_kids, switch_kids, group_kids, until_kids, branch_kid, branch_next, case_kid, case_next}
use Rattle.rules.proofs.Kids.{read}
use native.Mathlib.Omega.{arith}
use mathlib.Core.Path.{refl, sym, ◌∙◌}
use Rattle.mending.proofs.+mend_b_mend_c_mend_group_mend_s_mend_switch.Goals as goal

pub mend_b-node_by-n-requires : goal.mend_b-node_by-n-requires
mend_b-node_by-n-requires t c = let w = c.requires in (w.indexed, w.node.shaped, w.node.inside)

pub mend_b-middle_in-requires : goal.mend_b-middle_in-requires
mend_b-middle_in-requires t c = tt

pub mend_b-mend_s-requires : goal.mend_b-mend_s-requires
mend_b-mend_s-requires t c = let k = read c.node_by-n.ensures.a_is (branch_kid c.args.p.now.now c.args.j c.requires.node) in (omega (arith, k.less, c.decreases), carried c.requires (refl) k)

pub mend_b-reset_b-requires : goal.mend_b-reset_b-requires
mend_b-reset_b-requires t c = let k = read c.node_by-n.ensures.b_is (branch_next c.args.p.now.now c.args.j c.requires.node (λ h. c.if-n-ne-LAST.true (c.node_by-n.ensures.b_is ∙ h))) in carried c.requires c.mend_s.auto.st k

pub mend_b-resets-requires : goal.mend_b-resets-requires
mend_b-resets-requires t c = let k = read c.node_by-n.ensures.a_is (branch_kid c.args.p.now.now c.args.j c.requires.node) in carried c.requires (refl) k

pub mend_b-mend_b-requires : goal.mend_b-mend_b-requires
mend_b-mend_b-requires t c = let k = read c.node_by-n.ensures.b_is (branch_next c.args.p.now.now c.args.j c.requires.node (λ h. c.if-n-ne-LAST-2.true (c.node_by-n.ensures.b_is ∙ h))) in (omega (arith, k.less, c.decreases), carried c.requires c.resets.auto.st k)

pub mend_b-shape_of-st-then-n-ne-LAST : goal.mend_b-shape_of-st-then-n-ne-LAST
mend_b-shape_of-st-then-n-ne-LAST t c = c.reset_b.auto.st ∙ c.mend_s.auto.st

pub mend_b-returns-then-n-ne-LAST : goal.mend_b-returns-then-n-ne-LAST
mend_b-returns-then-n-ne-LAST t c = this_on_said c.args.p.now.now c.args.j c.requires.node c.args.m c.args.st.now c.node_by-n.ensures c.middle_in.ensures c.if-j-middle_in.true c.mend_s.ensures c.if-n-ne-LAST.true c.reset_b.ensures

pub mend_b-shape_of-st-else-n-ne-LAST : goal.mend_b-shape_of-st-else-n-ne-LAST
mend_b-shape_of-st-else-n-ne-LAST t c = c.mend_s.auto.st

pub mend_b-returns-else-n-ne-LAST : goal.mend_b-returns-else-n-ne-LAST
mend_b-returns-else-n-ne-LAST t c = this_end_said c.args.p.now.now c.args.j c.requires.node c.args.m c.args.st.now c.node_by-n.ensures c.middle_in.ensures c.if-j-middle_in.true c.mend_s.ensures c.if-n-ne-LAST.false

pub mend_b-shape_of-st-then-n-ne-LAST-2 : goal.mend_b-shape_of-st-then-n-ne-LAST-2
mend_b-shape_of-st-then-n-ne-LAST-2 t c = c.mend_b.auto.st ∙ c.resets.auto.st

pub mend_b-returns-then-n-ne-LAST-2 : goal.mend_b-returns-then-n-ne-LAST-2
mend_b-returns-then-n-ne-LAST-2 t c = other_on_said c.args.p.now.now c.args.j c.requires.node c.args.m c.args.st.now c.node_by-n.ensures c.middle_in.ensures c.if-j-middle_in.false c.resets.ensures c.if-n-ne-LAST-2.true c.mend_b.ensures

pub mend_b-shape_of-st-else-n-ne-LAST-2 : goal.mend_b-shape_of-st-else-n-ne-LAST-2
mend_b-shape_of-st-else-n-ne-LAST-2 t c = c.resets.auto.st

pub mend_b-returns-else-n-ne-LAST-2 : goal.mend_b-returns-else-n-ne-LAST-2
mend_b-returns-else-n-ne-LAST-2 t c = other_end_said c.args.p.now.now c.args.j c.requires.node c.args.m c.args.st.now c.node_by-n.ensures c.middle_in.ensures c.if-j-middle_in.false c.resets.ensures c.if-n-ne-LAST-2.false

pub mend_c-node_by-n-requires : goal.mend_c-node_by-n-requires
mend_c-node_by-n-requires t c = let w = c.requires in (w.indexed, w.node.shaped, w.node.inside)

pub mend_c-mend_s-requires : goal.mend_c-mend_s-requires
mend_c-mend_s-requires t c = let k = read c.node_by-n.ensures.a_is (case_kid c.args.p.now.now c.args.j c.requires.node) in (omega (arith, k.less, c.decreases), carried c.requires (refl) k)

pub mend_c-mend_c-requires : goal.mend_c-mend_c-requires
mend_c-mend_c-requires t c = let k = read c.node_by-n.ensures.b_is (case_next c.args.p.now.now c.args.j c.requires.node (λ h. c.if-n-ne-LAST.true (c.node_by-n.ensures.b_is ∙ h))) in (omega (arith, k.less, c.decreases), carried c.requires c.mend_s.auto.st k)

pub mend_c-shape_of-st-then-n-ne-LAST : goal.mend_c-shape_of-st-then-n-ne-LAST
mend_c-shape_of-st-then-n-ne-LAST t c = c.mend_c.auto.st ∙ c.mend_s.auto.st

pub mend_c-returns-then-n-ne-LAST : goal.mend_c-returns-then-n-ne-LAST
mend_c-returns-then-n-ne-LAST t c = case_mend_on_said c.args.p.now.now c.args.j c.requires.node c.args.st.now c.node_by-n.ensures c.mend_s.ensures c.if-n-ne-LAST.true c.mend_c.ensures

pub mend_c-shape_of-st-else-n-ne-LAST : goal.mend_c-shape_of-st-else-n-ne-LAST
mend_c-shape_of-st-else-n-ne-LAST t c = c.mend_s.auto.st

pub mend_c-returns-else-n-ne-LAST : goal.mend_c-returns-else-n-ne-LAST
mend_c-returns-else-n-ne-LAST t c = case_mend_end_said c.args.p.now.now c.args.j c.requires.node c.args.st.now c.node_by-n.ensures c.mend_s.ensures c.if-n-ne-LAST.false

pub mend_group-own_cell-m-requires : goal.mend_group-own_cell-m-requires
mend_group-own_cell-m-requires t c = own_group c.args.p.now.now c.args.index.now _ c.args.i c.requires.0 c.requires.2

pub mend_group-names_branch-requires : goal.mend_group-names_branch-requires
mend_group-names_branch-requires t c = let k = read c.requires.1.b_is (group_kids c.args.p.now.now c.args.i c.requires.0.node c.requires.2).1 in carried c.requires.0 (refl) k

pub mend_group-resets-requires : goal.mend_group-resets-requires
mend_group-resets-requires t c = let k = read c.requires.1.a_is (group_kids c.args.p.now.now c.args.i c.requires.0.node c.requires.2).0 in carried c.requires.0 (refl) k

pub mend_group-mend_b-requires : goal.mend_group-mend_b-requires
mend_group-mend_b-requires t c = let k = read c.requires.1.b_is (group_kids c.args.p.now.now c.args.i c.requires.0.node c.requires.2).1 in (omega (arith, k.less, c.decreases), carried c.requires.0 c.resets.auto.st k)

pub mend_group-set_own-requires : goal.mend_group-set_own-requires
mend_group-set_own-requires t c = own_group c.args.p.now.now c.args.index.now _ c.args.i c.requires.0 c.requires.2

pub mend_group-mend_s-requires : goal.mend_group-mend_s-requires
mend_group-mend_s-requires t c = let k = read c.requires.1.a_is (group_kids c.args.p.now.now c.args.i c.requires.0.node c.requires.2).0 in (omega (arith, k.less, c.decreases), carried c.requires.0 c.set_own.auto.st k)

pub mend_group-reset_b-requires : goal.mend_group-reset_b-requires
mend_group-reset_b-requires t c = let k = read c.requires.1.b_is (group_kids c.args.p.now.now c.args.i c.requires.0.node c.requires.2).1 in carried c.requires.0 (c.mend_s.auto.st ∙ c.set_own.auto.st) k

pub mend_group-shape_of-st-then-names_branch : goal.mend_group-shape_of-st-then-names_branch
mend_group-shape_of-st-then-names_branch t c = c.mend_b.auto.st ∙ c.resets.auto.st

pub mend_group-returns-then-names_branch : goal.mend_group-returns-then-names_branch
mend_group-returns-then-names_branch t c = group_kept_said c.args.p.now.now c.args.index.now _ c.args.i c.requires.0 c.args.st.now c.requires.1 c.requires.2 c.own_cell-m.ensures c.names_branch.ensures c.if-names_branch.true c.resets.ensures c.mend_b.ensures

pub mend_group-shape_of-st-else-names_branch : goal.mend_group-shape_of-st-else-names_branch
mend_group-shape_of-st-else-names_branch t c = c.reset_b.auto.st ∙ c.mend_s.auto.st ∙ c.set_own.auto.st

pub mend_group-returns-else-names_branch : goal.mend_group-returns-else-names_branch
mend_group-returns-else-names_branch t c = group_begun_said c.args.p.now.now c.args.index.now _ c.args.i c.requires.0 c.args.st.now c.requires.1 c.requires.2 c.own_cell-m.ensures c.names_branch.ensures c.if-names_branch.false c.set_own.ensures c.mend_s.ensures c.reset_b.ensures

pub mend_s-node_by-n-requires : goal.mend_s-node_by-n-requires
mend_s-node_by-n-requires t c = let w = c.requires in (w.indexed, w.node.shaped, w.node.inside)

pub mend_s-mend_own-requires : goal.mend_s-mend_own-requires
mend_s-mend_own-requires t c = own_delay c.args.p.now.now c.args.index.now _ c.args.i c.requires (sym c.node_by-n.ensures.kind_is ∙ c.in-4.is)

pub mend_s-mend_s-requires : goal.mend_s-mend_s-requires
mend_s-mend_s-requires t c = let k = read c.node_by-n.ensures.a_is (delay_kid c.args.p.now.now c.args.i c.requires.node (sym c.node_by-n.ensures.kind_is ∙ c.in-4.is)) in (omega (arith, k.less, c.decreases), carried c.requires c.mend_own.auto.st k)

pub mend_s-mend_s-requires-in-5 : goal.mend_s-mend_s-requires-in-5
mend_s-mend_s-requires-in-5 t c = let k = read c.node_by-n.ensures.a_is (let_kids c.args.p.now.now c.args.i c.requires.node (sym c.node_by-n.ensures.kind_is ∙ c.in-5.is)).0 in (omega (arith, k.less, c.decreases), carried c.requires (refl) k)

pub mend_s-mend_s-requires-in-5-2 : goal.mend_s-mend_s-requires-in-5-2
mend_s-mend_s-requires-in-5-2 t c = let k = read c.node_by-n.ensures.b_is (let_kids c.args.p.now.now c.args.i c.requires.node (sym c.node_by-n.ensures.kind_is ∙ c.in-5.is)).1 in (omega (arith, k.less, c.decreases), carried c.requires c.mend_s-in-5.auto.st k)

pub mend_s-mend_switch-requires : goal.mend_s-mend_switch-requires
mend_s-mend_switch-requires t c = (omega (arith, c.decreases), (c.requires, c.node_by-n.ensures, (sym c.node_by-n.ensures.kind_is ∙ c.in-6.is)))

pub mend_s-mend_group-requires : goal.mend_s-mend_group-requires
mend_s-mend_group-requires t c = (omega (arith, c.decreases), (c.requires, c.node_by-n.ensures, (sym c.node_by-n.ensures.kind_is ∙ c.in-7.is)))

pub mend_s-mend_s-requires-in-8 : goal.mend_s-mend_s-requires-in-8
mend_s-mend_s-requires-in-8 t c = let k = read c.node_by-n.ensures.a_is (until_kids c.args.p.now.now c.args.i c.requires.node (sym c.node_by-n.ensures.kind_is ∙ c.in-8.is)).0 in (omega (arith, k.less, c.decreases), carried c.requires (refl) k)

pub mend_s-mend_c-requires : goal.mend_s-mend_c-requires
mend_s-mend_c-requires t c = let k = read c.node_by-n.ensures.b_is (until_kids c.args.p.now.now c.args.i c.requires.node (sym c.node_by-n.ensures.kind_is ∙ c.in-8.is)).1 in (omega (arith, k.less, c.decreases), carried c.requires c.mend_s-in-8.auto.st k)

pub mend_s-shape_of-st-in-4 : goal.mend_s-shape_of-st-in-4
mend_s-shape_of-st-in-4 t c = c.mend_s.auto.st ∙ c.mend_own.auto.st

pub mend_s-returns-in-4 : goal.mend_s-returns-in-4
mend_s-returns-in-4 t c = delay_mend_said c.args.p.now.now c.args.index.now _ c.args.i c.requires c.args.st.now c.node_by-n.ensures c.in-4.is c.mend_own.ensures c.mend_s.ensures

pub mend_s-shape_of-st-in-5 : goal.mend_s-shape_of-st-in-5
mend_s-shape_of-st-in-5 t c = c.mend_s-in-5-2.auto.st ∙ c.mend_s-in-5.auto.st

pub mend_s-returns-in-5 : goal.mend_s-returns-in-5
mend_s-returns-in-5 t c = let_mend_said c.args.p.now.now c.args.index.now _ c.args.i c.requires c.args.st.now c.node_by-n.ensures c.in-5.is c.mend_s-in-5.ensures c.mend_s-in-5-2.ensures

pub mend_s-shape_of-st-in-6 : goal.mend_s-shape_of-st-in-6
mend_s-shape_of-st-in-6 t c = c.mend_switch.auto.st

pub mend_s-returns-in-6 : goal.mend_s-returns-in-6
mend_s-returns-in-6 t c = c.mend_switch.ensures

pub mend_s-shape_of-st-in-7 : goal.mend_s-shape_of-st-in-7
mend_s-shape_of-st-in-7 t c = c.mend_group.auto.st

pub mend_s-returns-in-7 : goal.mend_s-returns-in-7
mend_s-returns-in-7 t c = c.mend_group.ensures

pub mend_s-shape_of-st-in-8 : goal.mend_s-shape_of-st-in-8
mend_s-shape_of-st-in-8 t c = c.mend_c.auto.st ∙ c.mend_s-in-8.auto.st

pub mend_s-returns-in-8 : goal.mend_s-returns-in-8
mend_s-returns-in-8 t c = until_mend_said c.args.p.now.now c.args.index.now _ c.args.i c.requires c.args.st.now c.node_by-n.ensures c.in-8.is c.mend_s-in-8.ensures c.mend_c.ensures

pub mend_s-returns-in_default : goal.mend_s-returns-in_default
mend_s-returns-in_default t c = quiet_mend c.args.p.now.now c.args.index.now _ c.args.i c.requires c.args.st.now c.node_by-n.ensures.kind_is c.in_default.in_default-own.rest

pub mend_switch-own_cell-m-requires : goal.mend_switch-own_cell-m-requires
mend_switch-own_cell-m-requires t c = own_switch c.args.p.now.now c.args.index.now _ c.args.i c.requires.0 c.requires.2

pub mend_switch-content_fits-requires : goal.mend_switch-content_fits-requires
mend_switch-content_fits-requires t c = tt

pub mend_switch-mend_s-requires : goal.mend_switch-mend_s-requires
mend_switch-mend_s-requires t c = let k = read c.requires.1.b_is (switch_kids c.args.p.now.now c.args.i c.requires.0.node c.requires.2).1 in (omega (arith, k.less, c.decreases), carried c.requires.0 (refl) k)

pub mend_switch-resets-requires : goal.mend_switch-resets-requires
mend_switch-resets-requires t c = let k = read c.requires.1.a_is (switch_kids c.args.p.now.now c.args.i c.requires.0.node c.requires.2).0 in carried c.requires.0 c.mend_s.auto.st k

pub mend_switch-mend_s-requires-then-content_fits : goal.mend_switch-mend_s-requires-then-content_fits
mend_switch-mend_s-requires-then-content_fits t c = let k = read c.requires.1.c_is (switch_kids c.args.p.now.now c.args.i c.requires.0.node c.requires.2).2 in (omega (arith, k.less, c.decreases), carried c.requires.0 (c.resets.auto.st ∙ c.mend_s.auto.st) k)

pub mend_switch-set_own-requires : goal.mend_switch-set_own-requires
mend_switch-set_own-requires t c = own_switch c.args.p.now.now c.args.index.now _ c.args.i c.requires.0 c.requires.2

pub mend_switch-mend_s-requires-else-content_fits : goal.mend_switch-mend_s-requires-else-content_fits
mend_switch-mend_s-requires-else-content_fits t c = let k = read c.requires.1.b_is (switch_kids c.args.p.now.now c.args.i c.requires.0.node c.requires.2).1 in (omega (arith, k.less, c.decreases), carried c.requires.0 c.set_own.auto.st k)

pub mend_switch-mend_s-requires-else-content_fits-2 : goal.mend_switch-mend_s-requires-else-content_fits-2
mend_switch-mend_s-requires-else-content_fits-2 t c = let k = read c.requires.1.a_is (switch_kids c.args.p.now.now c.args.i c.requires.0.node c.requires.2).0 in (omega (arith, k.less, c.decreases), carried c.requires.0 (c.mend_s-else-content_fits.auto.st ∙ c.set_own.auto.st) k)

pub mend_switch-resets-requires-else-content_fits : goal.mend_switch-resets-requires-else-content_fits
mend_switch-resets-requires-else-content_fits t c = let kids = switch_kids c.args.p.now.now c.args.i c.requires.0.node c.requires.2 in
    let size = c.mend_s-else-content_fits-2.auto.st ∙ c.mend_s-else-content_fits.auto.st ∙ c.set_own.auto.st in
    let first = carried c.requires.0 size (read c.requires.1.a_is kids.0) in
    let second = carried c.requires.0 size (read c.requires.1.c_is kids.2) in
    search (first, second)

pub mend_switch-shape_of-st-then-content_fits : goal.mend_switch-shape_of-st-then-content_fits
mend_switch-shape_of-st-then-content_fits t c = c.mend_s-then-content_fits.auto.st ∙ c.resets.auto.st ∙ c.mend_s.auto.st

pub mend_switch-returns-then-content_fits : goal.mend_switch-returns-then-content_fits
mend_switch-returns-then-content_fits t c = switch_kept_said c.args.p.now.now c.args.index.now _ c.args.i c.requires.0 c.args.st.now c.requires.1 c.requires.2 c.own_cell-m.ensures c.content_fits.ensures c.if-content_fits.true c.mend_s.ensures c.resets.ensures c.mend_s-then-content_fits.ensures

pub mend_switch-shape_of-st-else-content_fits : goal.mend_switch-shape_of-st-else-content_fits
mend_switch-shape_of-st-else-content_fits t c = c.resets-else-content_fits.auto.st ∙ c.mend_s-else-content_fits-2.auto.st ∙ c.mend_s-else-content_fits.auto.st ∙ c.set_own.auto.st

pub mend_switch-returns-else-content_fits : goal.mend_switch-returns-else-content_fits
mend_switch-returns-else-content_fits t c = switch_begun_said c.args.p.now.now c.args.index.now _ c.args.i c.requires.0 c.args.st.now c.requires.1 c.requires.2 c.own_cell-m.ensures c.content_fits.ensures c.if-content_fits.false c.set_own.ensures c.mend_s-else-content_fits.ensures c.mend_s-else-content_fits-2.ensures c.resets-else-content_fits.ensures
