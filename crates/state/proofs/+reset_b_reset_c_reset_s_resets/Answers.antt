use Rattle.state.proofs.ResetLaws.{delay_reset_said, let_reset_said, switch_reset_said, group_reset_said, until_reset_said, quiet_reset, low_reset, branch_reset_end_said, branch_reset_on_said, case_reset_end_said, case_reset_on_said}
use Rattle.state.proofs.Carried.{carried, own_delay, own_switch, own_group}
use Rattle.rules.proofs.Signals.{delay_kid, let_kids, switch_kids, group_kids, until_kids, branch_kid, branch_next, case_kid, case_next}
use Rattle.rules.proofs.Kids.{read}
use mathlib.Core.Path.{refl, sym, ◌∙◌}
use native.Mathlib.Omega.{arith}
use Rattle.state.proofs.+reset_b_reset_c_reset_s_resets.Goals as goal

pub reset_b-node_by-n-requires : goal.reset_b-node_by-n-requires
reset_b-node_by-n-requires t c = let w = c.requires in
    (w.indexed, w.node.shaped, w.node.inside)

pub reset_b-resets-requires : goal.reset_b-resets-requires
reset_b-resets-requires t c = let k = read c.node_by-n.ensures.a_is (branch_kid c.args.p.now.now c.args.j c.requires.node) in
    (omega (arith, k.less, c.decreases), carried c.requires (refl) k)

pub reset_b-reset_b-requires : goal.reset_b-reset_b-requires
reset_b-reset_b-requires t c = let node = c.node_by-n.ensures in
    let k = read node.b_is (branch_next c.args.p.now.now c.args.j c.requires.node (λ h. c.if-n-ne-LAST.true (node.b_is ∙ h))) in
    (omega (arith, k.less, c.decreases), carried c.requires c.resets.auto.st k)

pub reset_b-shape_of-st-then-n-ne-LAST : goal.reset_b-shape_of-st-then-n-ne-LAST
reset_b-shape_of-st-then-n-ne-LAST t c = c.reset_b.auto.st ∙ c.resets.auto.st

pub reset_b-returns-then-n-ne-LAST : goal.reset_b-returns-then-n-ne-LAST
reset_b-returns-then-n-ne-LAST t c = branch_reset_on_said c.args.p.now.now c.args.j c.requires.node c.args.st.now c.node_by-n.ensures c.resets.ensures c.if-n-ne-LAST.true c.reset_b.ensures

pub reset_b-shape_of-st-else-n-ne-LAST : goal.reset_b-shape_of-st-else-n-ne-LAST
reset_b-shape_of-st-else-n-ne-LAST t c = c.resets.auto.st

pub reset_b-returns-else-n-ne-LAST : goal.reset_b-returns-else-n-ne-LAST
reset_b-returns-else-n-ne-LAST t c = branch_reset_end_said c.args.p.now.now c.args.j c.requires.node c.args.st.now c.node_by-n.ensures c.resets.ensures c.if-n-ne-LAST.false

pub reset_c-node_by-n-requires : goal.reset_c-node_by-n-requires
reset_c-node_by-n-requires t c = let w = c.requires in
    (w.indexed, w.node.shaped, w.node.inside)

pub reset_c-resets-requires : goal.reset_c-resets-requires
reset_c-resets-requires t c = let k = read c.node_by-n.ensures.a_is (case_kid c.args.p.now.now c.args.j c.requires.node) in
    (omega (arith, k.less, c.decreases), carried c.requires (refl) k)

pub reset_c-reset_c-requires : goal.reset_c-reset_c-requires
reset_c-reset_c-requires t c = let node = c.node_by-n.ensures in
    let k = read node.b_is (case_next c.args.p.now.now c.args.j c.requires.node (λ h. c.if-n-ne-LAST.true (node.b_is ∙ h))) in
    (omega (arith, k.less, c.decreases), carried c.requires c.resets.auto.st k)

pub reset_c-shape_of-st-then-n-ne-LAST : goal.reset_c-shape_of-st-then-n-ne-LAST
reset_c-shape_of-st-then-n-ne-LAST t c = c.reset_c.auto.st ∙ c.resets.auto.st

pub reset_c-returns-then-n-ne-LAST : goal.reset_c-returns-then-n-ne-LAST
reset_c-returns-then-n-ne-LAST t c = case_reset_on_said c.args.p.now.now c.args.j c.requires.node c.args.st.now c.node_by-n.ensures c.resets.ensures c.if-n-ne-LAST.true c.reset_c.ensures

pub reset_c-shape_of-st-else-n-ne-LAST : goal.reset_c-shape_of-st-else-n-ne-LAST
reset_c-shape_of-st-else-n-ne-LAST t c = c.resets.auto.st

pub reset_c-returns-else-n-ne-LAST : goal.reset_c-returns-else-n-ne-LAST
reset_c-returns-else-n-ne-LAST t c = case_reset_end_said c.args.p.now.now c.args.j c.requires.node c.args.st.now c.node_by-n.ensures c.resets.ensures c.if-n-ne-LAST.false

pub reset_s-node_by-n-requires : goal.reset_s-node_by-n-requires
reset_s-node_by-n-requires t c = let w = c.requires in
    (w.indexed, w.node.shaped, w.node.inside)

pub reset_s-value_by-requires : goal.reset_s-value_by-requires
reset_s-value_by-requires t c = let w = c.requires in
    (w.indexed, w.node.shaped, w.node.inside)

pub reset_s-set_own-requires : goal.reset_s-set_own-requires
reset_s-set_own-requires t c = own_delay c.args.p.now.now c.args.index.now _ c.args.i c.requires (sym c.node_by-n.ensures.kind_is ∙ c.in-4.is)

pub reset_s-resets-requires : goal.reset_s-resets-requires
reset_s-resets-requires t c = let node = c.node_by-n.ensures in
    let k = read node.a_is (delay_kid c.args.p.now.now c.args.i c.requires.node (sym node.kind_is ∙ c.in-4.is)) in
    (omega (arith, k.less, c.decreases), carried c.requires c.set_own.auto.st k)

pub reset_s-resets-requires-in-5 : goal.reset_s-resets-requires-in-5
reset_s-resets-requires-in-5 t c = let node = c.node_by-n.ensures in
    let k = read node.a_is (let_kids c.args.p.now.now c.args.i c.requires.node (sym node.kind_is ∙ c.in-5.is)).0 in
    (omega (arith, k.less, c.decreases), carried c.requires (refl) k)

pub reset_s-resets-requires-in-5-2 : goal.reset_s-resets-requires-in-5-2
reset_s-resets-requires-in-5-2 t c = let node = c.node_by-n.ensures in
    let k = read node.b_is (let_kids c.args.p.now.now c.args.i c.requires.node (sym node.kind_is ∙ c.in-5.is)).1 in
    (omega (arith, k.less, c.decreases), carried c.requires c.resets-in-5.auto.st k)

pub reset_s-set_own-requires-in-6 : goal.reset_s-set_own-requires-in-6
reset_s-set_own-requires-in-6 t c = own_switch c.args.p.now.now c.args.index.now _ c.args.i c.requires (sym c.node_by-n.ensures.kind_is ∙ c.in-6.is)

pub reset_s-resets-requires-in-6 : goal.reset_s-resets-requires-in-6
reset_s-resets-requires-in-6 t c = let node = c.node_by-n.ensures in
    let k = read node.a_is (switch_kids c.args.p.now.now c.args.i c.requires.node (sym node.kind_is ∙ c.in-6.is)).0 in
    (omega (arith, k.less, c.decreases), carried c.requires c.set_own-in-6.auto.st k)

pub reset_s-resets-requires-in-6-2 : goal.reset_s-resets-requires-in-6-2
reset_s-resets-requires-in-6-2 t c = let node = c.node_by-n.ensures in
    let k = read node.b_is (switch_kids c.args.p.now.now c.args.i c.requires.node (sym node.kind_is ∙ c.in-6.is)).1 in
    (omega (arith, k.less, c.decreases), carried c.requires (c.resets-in-6.auto.st ∙ c.set_own-in-6.auto.st) k)

pub reset_s-resets-requires-in-6-3 : goal.reset_s-resets-requires-in-6-3
reset_s-resets-requires-in-6-3 t c = let node = c.node_by-n.ensures in
    let k = read node.c_is (switch_kids c.args.p.now.now c.args.i c.requires.node (sym node.kind_is ∙ c.in-6.is)).2 in
    (omega (arith, k.less, c.decreases), carried c.requires (c.resets-in-6-2.auto.st ∙ c.resets-in-6.auto.st ∙ c.set_own-in-6.auto.st) k)

pub reset_s-set_own-requires-in-7 : goal.reset_s-set_own-requires-in-7
reset_s-set_own-requires-in-7 t c = own_group c.args.p.now.now c.args.index.now _ c.args.i c.requires (sym c.node_by-n.ensures.kind_is ∙ c.in-7.is)

pub reset_s-resets-requires-in-7 : goal.reset_s-resets-requires-in-7
reset_s-resets-requires-in-7 t c = let node = c.node_by-n.ensures in
    let k = read node.a_is (group_kids c.args.p.now.now c.args.i c.requires.node (sym node.kind_is ∙ c.in-7.is)).0 in
    (omega (arith, k.less, c.decreases), carried c.requires c.set_own-in-7.auto.st k)

pub reset_s-reset_b-requires : goal.reset_s-reset_b-requires
reset_s-reset_b-requires t c = let node = c.node_by-n.ensures in
    let k = read node.b_is (group_kids c.args.p.now.now c.args.i c.requires.node (sym node.kind_is ∙ c.in-7.is)).1 in
    (omega (arith, k.less, c.decreases), carried c.requires (c.resets-in-7.auto.st ∙ c.set_own-in-7.auto.st) k)

pub reset_s-resets-requires-in-8 : goal.reset_s-resets-requires-in-8
reset_s-resets-requires-in-8 t c = let node = c.node_by-n.ensures in
    let k = read node.a_is (until_kids c.args.p.now.now c.args.i c.requires.node (sym node.kind_is ∙ c.in-8.is)).0 in
    (omega (arith, k.less, c.decreases), carried c.requires (refl) k)

pub reset_s-reset_c-requires : goal.reset_s-reset_c-requires
reset_s-reset_c-requires t c = let node = c.node_by-n.ensures in
    let k = read node.b_is (until_kids c.args.p.now.now c.args.i c.requires.node (sym node.kind_is ∙ c.in-8.is)).1 in
    (omega (arith, k.less, c.decreases), carried c.requires c.resets-in-8.auto.st k)

pub reset_s-shape_of-st-in-4 : goal.reset_s-shape_of-st-in-4
reset_s-shape_of-st-in-4 t c = c.resets.auto.st ∙ c.set_own.auto.st

pub reset_s-returns-in-4 : goal.reset_s-returns-in-4
reset_s-returns-in-4 t c = delay_reset_said c.args.p.now.now c.args.index.now _ c.args.i c.requires c.args.st.now c.node_by-n.ensures c.in-4.is c.value_by.ensures c.set_own.ensures c.resets.ensures

pub reset_s-shape_of-st-in-5 : goal.reset_s-shape_of-st-in-5
reset_s-shape_of-st-in-5 t c = c.resets-in-5-2.auto.st ∙ c.resets-in-5.auto.st

pub reset_s-returns-in-5 : goal.reset_s-returns-in-5
reset_s-returns-in-5 t c = let_reset_said c.args.p.now.now c.args.index.now _ c.args.i c.requires c.args.st.now c.node_by-n.ensures c.in-5.is c.resets-in-5.ensures c.resets-in-5-2.ensures

pub reset_s-shape_of-st-in-6 : goal.reset_s-shape_of-st-in-6
reset_s-shape_of-st-in-6 t c = c.resets-in-6-3.auto.st ∙ c.resets-in-6-2.auto.st ∙ c.resets-in-6.auto.st ∙ c.set_own-in-6.auto.st

pub reset_s-returns-in-6 : goal.reset_s-returns-in-6
reset_s-returns-in-6 t c = switch_reset_said c.args.p.now.now c.args.index.now _ c.args.i c.requires c.args.st.now c.node_by-n.ensures c.in-6.is c.set_own-in-6.ensures c.resets-in-6.ensures c.resets-in-6-2.ensures c.resets-in-6-3.ensures

pub reset_s-shape_of-st-in-7 : goal.reset_s-shape_of-st-in-7
reset_s-shape_of-st-in-7 t c = c.reset_b.auto.st ∙ c.resets-in-7.auto.st ∙ c.set_own-in-7.auto.st

pub reset_s-returns-in-7 : goal.reset_s-returns-in-7
reset_s-returns-in-7 t c = group_reset_said c.args.p.now.now c.args.index.now _ c.args.i c.requires c.args.st.now c.node_by-n.ensures c.in-7.is c.set_own-in-7.ensures c.resets-in-7.ensures c.reset_b.ensures

pub reset_s-shape_of-st-in-8 : goal.reset_s-shape_of-st-in-8
reset_s-shape_of-st-in-8 t c = c.reset_c.auto.st ∙ c.resets-in-8.auto.st

pub reset_s-returns-in-8 : goal.reset_s-returns-in-8
reset_s-returns-in-8 t c = until_reset_said c.args.p.now.now c.args.index.now _ c.args.i c.requires c.args.st.now c.node_by-n.ensures c.in-8.is c.resets-in-8.ensures c.reset_c.ensures

pub reset_s-returns-in_default : goal.reset_s-returns-in_default
reset_s-returns-in_default t c = quiet_reset c.args.p.now.now c.args.index.now _ c.args.i c.requires c.args.st.now c.node_by-n.ensures.kind_is c.in_default.in_default-own.rest

pub resets-kind_by-kind-requires : goal.resets-kind_by-kind-requires
resets-kind_by-kind-requires t c = let w = c.requires in (w.indexed, w.node.shaped, w.node.inside)

pub resets-reset_s-requires : goal.resets-reset_s-requires
resets-reset_s-requires t c = (omega (arith, c.decreases), c.requires)

pub resets-shape_of-st : goal.resets-shape_of-st
resets-shape_of-st t c = c.reset_s.auto.st

pub resets-returns-then-kind-gt3 : goal.resets-returns-then-kind-gt3
resets-returns-then-kind-gt3 t c = c.reset_s.ensures

pub resets-returns-else-kind-gt3 : goal.resets-returns-else-kind-gt3
resets-returns-else-kind-gt3 t c = low_reset c.args.p.now.now c.args.index.now _ c.args.i c.requires c.args.st.now c.kind_by-kind.ensures (omega (arith, c.if-kind-gt3.false))
