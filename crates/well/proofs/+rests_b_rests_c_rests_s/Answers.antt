use Rattle.rules.specs.Bytes.{◌and◌, ◌or◌}
use mathlib.Core.Bool.{Bool, true, false}
use Rattle.well.proofs.RestLaws.{delay_rests_said, let_rests_said, switch_rests_said, group_rests_said, until_rests_said, quiet_rests, branch_rests_end_said, branch_rests_on_said, case_rests_end_said, case_rests_on_said}
use Rattle.state.proofs.Carried.{carried, own_delay, own_switch, own_group}
use Rattle.rules.proofs.Signals.{delay_kid, let_kids, switch_kids, group_kids, until_kids, branch_kid, branch_next, case_kid, case_next}
use Rattle.rules.proofs.Kids.{read}
use mathlib.Core.Path.{refl, sym, ◌∙◌, ◌≡◌}
use native.Mathlib.Omega.{arith}
use Rattle.well.proofs.+rests_b_rests_c_rests_s.Goals as goal

true_too : (b : Bool) → b ≡ (b and true)
unfolding ◌and◌
true_too true = refl
true_too false = refl

pub rests_b-node-n-requires : goal.rests_b-node-n-requires
rests_b-node-n-requires t c = let w = c.requires.node in (omega (arith, w.inside, w.shaped.within), omega (arith, w.inside, w.shaped.small))

pub rests_b-rests_s-body-requires : goal.rests_b-rests_s-body-requires
rests_b-rests_s-body-requires t c = let k = read c.node-n.ensures.a_is (branch_kid c.args.p.now.now c.args.j c.requires.node) in (omega (arith, k.less, c.decreases), carried c.requires refl k)

pub rests_b-returns-then-n-eq-LAST : goal.rests_b-returns-then-n-eq-LAST
unfolding ◌and◌ ◌or◌
rests_b-returns-then-n-eq-LAST t c = branch_rests_end_said c.args.p.now.now c.args.j c.requires.node c.args.st.now.now c.node-n.ensures c.rests_s-body.ensures c.if-n-eq-LAST.true (true_too _)

pub rests_b-rests_b-next-requires : goal.rests_b-rests_b-next-requires
rests_b-rests_b-next-requires t c = let k = read c.node-n.ensures.b_is (branch_next c.args.p.now.now c.args.j c.requires.node (λ h. c.if-n-eq-LAST.false (c.node-n.ensures.b_is ∙ h))) in (omega (arith, k.less, c.decreases), carried c.requires refl k)

pub rests_b-returns : goal.rests_b-returns
unfolding ◌and◌ ◌or◌
rests_b-returns t c = branch_rests_on_said c.args.p.now.now c.args.j c.requires.node c.args.st.now.now c.node-n.ensures c.rests_s-body.ensures c.if-n-eq-LAST.false c.rests_b-next.ensures refl

pub rests_c-node-n-requires : goal.rests_c-node-n-requires
rests_c-node-n-requires t c = let w = c.requires.node in (omega (arith, w.inside, w.shaped.within), omega (arith, w.inside, w.shaped.small))

pub rests_c-rests_s-event-requires : goal.rests_c-rests_s-event-requires
rests_c-rests_s-event-requires t c = let k = read c.node-n.ensures.a_is (case_kid c.args.p.now.now c.args.j c.requires.node) in (omega (arith, k.less, c.decreases), carried c.requires refl k)

pub rests_c-returns-then-n-eq-LAST : goal.rests_c-returns-then-n-eq-LAST
unfolding ◌and◌ ◌or◌
rests_c-returns-then-n-eq-LAST t c = case_rests_end_said c.args.p.now.now c.args.j c.requires.node c.args.st.now.now c.node-n.ensures c.rests_s-event.ensures c.if-n-eq-LAST.true (true_too _)

pub rests_c-rests_c-next-requires : goal.rests_c-rests_c-next-requires
rests_c-rests_c-next-requires t c = let k = read c.node-n.ensures.b_is (case_next c.args.p.now.now c.args.j c.requires.node (λ h. c.if-n-eq-LAST.false (c.node-n.ensures.b_is ∙ h))) in (omega (arith, k.less, c.decreases), carried c.requires refl k)

pub rests_c-returns : goal.rests_c-returns
unfolding ◌and◌ ◌or◌
rests_c-returns t c = case_rests_on_said c.args.p.now.now c.args.j c.requires.node c.args.st.now.now c.node-n.ensures c.rests_s-event.ensures c.if-n-eq-LAST.false c.rests_c-next.ensures refl

pub rests_s-node-n-requires : goal.rests_s-node-n-requires
rests_s-node-n-requires t c = let w = c.requires.node in (omega (arith, w.inside, w.shaped.within), omega (arith, w.inside, w.shaped.small))

pub rests_s-own_cell-m-requires : goal.rests_s-own_cell-m-requires
rests_s-own_cell-m-requires t c = own_delay c.args.p.now.now c.args.index.now _ c.args.i c.requires (sym c.node-n.ensures.kind_is ∙ c.in-4.is)

pub rests_s-rests_s-s-requires : goal.rests_s-rests_s-s-requires
rests_s-rests_s-s-requires t c = let k = read c.node-n.ensures.a_is (delay_kid c.args.p.now.now c.args.i c.requires.node (sym c.node-n.ensures.kind_is ∙ c.in-4.is)) in (omega (arith, k.less, c.decreases), carried c.requires refl k)

pub rests_s-rests_s-requires : goal.rests_s-rests_s-requires
rests_s-rests_s-requires t c = let k = read c.node-n.ensures.a_is (let_kids c.args.p.now.now c.args.i c.requires.node (sym c.node-n.ensures.kind_is ∙ c.in-5.is)).0 in (omega (arith, k.less, c.decreases), carried c.requires refl k)

pub rests_s-rests_s-requires-in-5 : goal.rests_s-rests_s-requires-in-5
rests_s-rests_s-requires-in-5 t c = let k = read c.node-n.ensures.b_is (let_kids c.args.p.now.now c.args.i c.requires.node (sym c.node-n.ensures.kind_is ∙ c.in-5.is)).1 in (omega (arith, k.less, c.decreases), carried c.requires refl k)

pub rests_s-own_cell-m-requires-in-6 : goal.rests_s-own_cell-m-requires-in-6
rests_s-own_cell-m-requires-in-6 t c = own_switch c.args.p.now.now c.args.index.now _ c.args.i c.requires (sym c.node-n.ensures.kind_is ∙ c.in-6.is)

pub rests_s-rests_s-x-requires : goal.rests_s-rests_s-x-requires
rests_s-rests_s-x-requires t c = let k = read c.node-n.ensures.a_is (switch_kids c.args.p.now.now c.args.i c.requires.node (sym c.node-n.ensures.kind_is ∙ c.in-6.is)).0 in (omega (arith, k.less, c.decreases), carried c.requires refl k)

pub rests_s-rests_s-e-requires : goal.rests_s-rests_s-e-requires
rests_s-rests_s-e-requires t c = let k = read c.node-n.ensures.b_is (switch_kids c.args.p.now.now c.args.i c.requires.node (sym c.node-n.ensures.kind_is ∙ c.in-6.is)).1 in (omega (arith, k.less, c.decreases), carried c.requires refl k)

pub rests_s-rests_s-y-requires : goal.rests_s-rests_s-y-requires
rests_s-rests_s-y-requires t c = let k = read c.node-n.ensures.c_is (switch_kids c.args.p.now.now c.args.i c.requires.node (sym c.node-n.ensures.kind_is ∙ c.in-6.is)).2 in (omega (arith, k.less, c.decreases), carried c.requires refl k)

pub rests_s-own_cell-m-requires-in-7 : goal.rests_s-own_cell-m-requires-in-7
rests_s-own_cell-m-requires-in-7 t c = own_group c.args.p.now.now c.args.index.now _ c.args.i c.requires (sym c.node-n.ensures.kind_is ∙ c.in-7.is)

pub rests_s-rests_s-body-requires : goal.rests_s-rests_s-body-requires
rests_s-rests_s-body-requires t c = let k = read c.node-n.ensures.a_is (group_kids c.args.p.now.now c.args.i c.requires.node (sym c.node-n.ensures.kind_is ∙ c.in-7.is)).0 in (omega (arith, k.less, c.decreases), carried c.requires refl k)

pub rests_s-rests_b-brs-requires : goal.rests_s-rests_b-brs-requires
rests_s-rests_b-brs-requires t c = let k = read c.node-n.ensures.b_is (group_kids c.args.p.now.now c.args.i c.requires.node (sym c.node-n.ensures.kind_is ∙ c.in-7.is)).1 in (omega (arith, k.less, c.decreases), carried c.requires refl k)

pub rests_s-rests_s-requires-in-8 : goal.rests_s-rests_s-requires-in-8
rests_s-rests_s-requires-in-8 t c = let k = read c.node-n.ensures.a_is (until_kids c.args.p.now.now c.args.i c.requires.node (sym c.node-n.ensures.kind_is ∙ c.in-8.is)).0 in (omega (arith, k.less, c.decreases), carried c.requires refl k)

pub rests_s-rests_c-requires : goal.rests_s-rests_c-requires
rests_s-rests_c-requires t c = let k = read c.node-n.ensures.b_is (until_kids c.args.p.now.now c.args.i c.requires.node (sym c.node-n.ensures.kind_is ∙ c.in-8.is)).1 in (omega (arith, k.less, c.decreases), carried c.requires refl k)

pub rests_s-returns-in-4 : goal.rests_s-returns-in-4
unfolding ◌and◌ ◌or◌
rests_s-returns-in-4 t c = delay_rests_said c.args.p.now.now c.args.index.now _ c.args.i c.requires c.args.st.now.now c.node-n.ensures c.in-4.is c.own_cell-m.ensures c.rests_s-s.ensures c.first_value.ensures refl

pub rests_s-returns-in-5 : goal.rests_s-returns-in-5
unfolding ◌and◌ ◌or◌
rests_s-returns-in-5 t c = let_rests_said c.args.p.now.now c.args.index.now _ c.args.i c.requires c.args.st.now.now c.node-n.ensures c.in-5.is c.rests_s.ensures c.rests_s-in-5.ensures refl

pub rests_s-returns-in-6 : goal.rests_s-returns-in-6
unfolding ◌and◌ ◌or◌
rests_s-returns-in-6 t c = switch_rests_said c.args.p.now.now c.args.index.now _ c.args.i c.requires c.args.st.now.now c.node-n.ensures c.in-6.is c.own_cell-m-in-6.ensures c.rests_s-x.ensures c.rests_s-e.ensures c.rests_s-y.ensures refl refl refl

pub rests_s-returns-in-7 : goal.rests_s-returns-in-7
unfolding ◌and◌ ◌or◌
rests_s-returns-in-7 t c = group_rests_said c.args.p.now.now c.args.index.now _ c.args.i c.requires c.args.st.now.now c.node-n.ensures c.in-7.is c.own_cell-m-in-7.ensures c.rests_s-body.ensures c.rests_b-brs.ensures refl refl

pub rests_s-returns-in-8 : goal.rests_s-returns-in-8
unfolding ◌and◌ ◌or◌
rests_s-returns-in-8 t c = until_rests_said c.args.p.now.now c.args.index.now _ c.args.i c.requires c.args.st.now.now c.node-n.ensures c.in-8.is c.rests_s-in-8.ensures c.rests_c.ensures refl

pub rests_s-returns-in_default : goal.rests_s-returns-in_default
rests_s-returns-in_default t c = quiet_rests c.args.p.now.now c.args.index.now _ c.args.i c.requires c.args.st.now.now c.node-n.ensures.kind_is c.in_default.in_default-own.rest
