use Rattle.rules.specs.Bytes.{◌and◌, ◌or◌}
use mathlib.Core.Bool.{Bool, true, false}
use Rattle.well.proofs.WellLaws.{delay_well_said, let_well_said, switch_first_said, switch_second_said, group_body_said, group_branch_said, until_well_said, quiet_well, named_last_said, named_on_said, other_last_said, other_on_said, case_well_end_said, case_well_on_said}
use Rattle.state.proofs.Carried.{carried, own_delay, own_switch, own_group}
use Rattle.rules.proofs.Signals.{delay_kid, let_kids, switch_kids, group_kids, until_kids, branch_kid, branch_next, case_kid, case_next}
use Rattle.rules.proofs.Kids.{read}
use mathlib.Core.Path.{refl, sym, ◌∙◌, ◌≡◌}
use native.Mathlib.Omega.{arith}
use Rattle.well.proofs.+well_b_well_c_well_s.Goals as goal

true_too : (b : Bool) → b ≡ (b and true)
unfolding ◌and◌
true_too true = refl
true_too false = refl

false_too : (b : Bool) → false ≡ (b and false)
unfolding ◌and◌
false_too true = refl
false_too false = refl

pub well_b-node-n-requires : goal.well_b-node-n-requires
well_b-node-n-requires t c = let w = c.requires.node in (omega (arith, w.inside, w.shaped.within), omega (arith, w.inside, w.shaped.small))

pub well_b-well_s-body-requires : goal.well_b-well_s-body-requires
well_b-well_s-body-requires t c = let k = read c.node-n.ensures.a_is (branch_kid c.args.p.now.now c.args.j c.requires.node) in (omega (arith, k.less, c.decreases), carried c.requires refl k)

pub well_b-returns-then-n-eq-LAST : goal.well_b-returns-then-n-eq-LAST
unfolding ◌and◌ ◌or◌
well_b-returns-then-n-eq-LAST t c = named_last_said c.args.p.now.now c.args.j c.requires.node c.args.st.now.now c.args.m c.node-n.ensures c.middle_in.ensures c.if-j-middle_in.true c.well_s-body.ensures c.content_fits.ensures refl c.if-n-eq-LAST.true (true_too _)

pub well_b-rests_b-next-requires : goal.well_b-rests_b-next-requires
well_b-rests_b-next-requires t c = let k = read c.node-n.ensures.b_is (branch_next c.args.p.now.now c.args.j c.requires.node (λ h. c.if-n-eq-LAST.false (c.node-n.ensures.b_is ∙ h))) in carried c.requires refl k

pub well_b-returns-then-j-middle_in : goal.well_b-returns-then-j-middle_in
unfolding ◌and◌ ◌or◌
well_b-returns-then-j-middle_in t c = named_on_said c.args.p.now.now c.args.j c.requires.node c.args.st.now.now c.args.m c.node-n.ensures c.middle_in.ensures c.if-j-middle_in.true c.well_s-body.ensures c.content_fits.ensures refl c.if-n-eq-LAST.false c.rests_b-next.ensures refl

pub well_b-rests_s-body-requires : goal.well_b-rests_s-body-requires
well_b-rests_s-body-requires t c = let k = read c.node-n.ensures.a_is (branch_kid c.args.p.now.now c.args.j c.requires.node) in carried c.requires refl k

pub well_b-returns-then-n-eq-LAST-2 : goal.well_b-returns-then-n-eq-LAST-2
unfolding ◌and◌ ◌or◌
well_b-returns-then-n-eq-LAST-2 t c = other_last_said c.args.p.now.now c.args.j c.requires.node c.args.st.now.now c.args.m c.node-n.ensures c.middle_in.ensures c.if-j-middle_in.false c.rests_s-body.ensures c.if-n-eq-LAST-2.true (false_too _)

pub well_b-well_b-next-requires : goal.well_b-well_b-next-requires
well_b-well_b-next-requires t c = let k = read c.node-n.ensures.b_is (branch_next c.args.p.now.now c.args.j c.requires.node (λ h. c.if-n-eq-LAST-2.false (c.node-n.ensures.b_is ∙ h))) in (omega (arith, k.less, c.decreases), carried c.requires refl k)

pub well_b-returns : goal.well_b-returns
unfolding ◌and◌ ◌or◌
well_b-returns t c = other_on_said c.args.p.now.now c.args.j c.requires.node c.args.st.now.now c.args.m c.node-n.ensures c.middle_in.ensures c.if-j-middle_in.false c.rests_s-body.ensures c.if-n-eq-LAST-2.false c.well_b-next.ensures refl

pub well_c-node-n-requires : goal.well_c-node-n-requires
well_c-node-n-requires t c = let w = c.requires.node in (omega (arith, w.inside, w.shaped.within), omega (arith, w.inside, w.shaped.small))

pub well_c-well_s-event-requires : goal.well_c-well_s-event-requires
well_c-well_s-event-requires t c = let k = read c.node-n.ensures.a_is (case_kid c.args.p.now.now c.args.j c.requires.node) in (omega (arith, k.less, c.decreases), carried c.requires refl k)

pub well_c-returns-then-n-eq-LAST : goal.well_c-returns-then-n-eq-LAST
unfolding ◌and◌ ◌or◌
well_c-returns-then-n-eq-LAST t c = case_well_end_said c.args.p.now.now c.args.j c.requires.node c.args.st.now.now c.node-n.ensures c.well_s-event.ensures c.if-n-eq-LAST.true (true_too _)

pub well_c-well_c-next-requires : goal.well_c-well_c-next-requires
well_c-well_c-next-requires t c = let k = read c.node-n.ensures.b_is (case_next c.args.p.now.now c.args.j c.requires.node (λ h. c.if-n-eq-LAST.false (c.node-n.ensures.b_is ∙ h))) in (omega (arith, k.less, c.decreases), carried c.requires refl k)

pub well_c-returns : goal.well_c-returns
unfolding ◌and◌ ◌or◌
well_c-returns t c = case_well_on_said c.args.p.now.now c.args.j c.requires.node c.args.st.now.now c.node-n.ensures c.well_s-event.ensures c.if-n-eq-LAST.false c.well_c-next.ensures refl

pub well_s-node-n-requires : goal.well_s-node-n-requires
well_s-node-n-requires t c = let w = c.requires.node in (omega (arith, w.inside, w.shaped.within), omega (arith, w.inside, w.shaped.small))

pub well_s-own_cell-m-requires : goal.well_s-own_cell-m-requires
well_s-own_cell-m-requires t c = own_delay c.args.p.now.now c.args.index.now _ c.args.i c.requires (sym c.node-n.ensures.kind_is ∙ c.in-4.is)

pub well_s-well_s-s-requires : goal.well_s-well_s-s-requires
well_s-well_s-s-requires t c = let k = read c.node-n.ensures.a_is (delay_kid c.args.p.now.now c.args.i c.requires.node (sym c.node-n.ensures.kind_is ∙ c.in-4.is)) in (omega (arith, k.less, c.decreases), carried c.requires refl k)

pub well_s-well_s-requires : goal.well_s-well_s-requires
well_s-well_s-requires t c = let k = read c.node-n.ensures.a_is (let_kids c.args.p.now.now c.args.i c.requires.node (sym c.node-n.ensures.kind_is ∙ c.in-5.is)).0 in (omega (arith, k.less, c.decreases), carried c.requires refl k)

pub well_s-well_s-requires-in-5 : goal.well_s-well_s-requires-in-5
well_s-well_s-requires-in-5 t c = let k = read c.node-n.ensures.b_is (let_kids c.args.p.now.now c.args.i c.requires.node (sym c.node-n.ensures.kind_is ∙ c.in-5.is)).1 in (omega (arith, k.less, c.decreases), carried c.requires refl k)

pub well_s-own_cell-m-requires-in-6 : goal.well_s-own_cell-m-requires-in-6
well_s-own_cell-m-requires-in-6 t c = own_switch c.args.p.now.now c.args.index.now _ c.args.i c.requires (sym c.node-n.ensures.kind_is ∙ c.in-6.is)

pub well_s-well_s-e-requires : goal.well_s-well_s-e-requires
well_s-well_s-e-requires t c = let k = read c.node-n.ensures.b_is (switch_kids c.args.p.now.now c.args.i c.requires.node (sym c.node-n.ensures.kind_is ∙ c.in-6.is)).1 in (omega (arith, k.less, c.decreases), carried c.requires refl k)

pub well_s-well_s-x-requires : goal.well_s-well_s-x-requires
well_s-well_s-x-requires t c = let k = read c.node-n.ensures.a_is (switch_kids c.args.p.now.now c.args.i c.requires.node (sym c.node-n.ensures.kind_is ∙ c.in-6.is)).0 in (omega (arith, k.less, c.decreases), carried c.requires refl k)

pub well_s-rests_s-y-requires : goal.well_s-rests_s-y-requires
well_s-rests_s-y-requires t c = let k = read c.node-n.ensures.c_is (switch_kids c.args.p.now.now c.args.i c.requires.node (sym c.node-n.ensures.kind_is ∙ c.in-6.is)).2 in carried c.requires refl k

pub well_s-returns-then-m-eq0 : goal.well_s-returns-then-m-eq0
unfolding ◌and◌ ◌or◌
well_s-returns-then-m-eq0 t c = switch_first_said c.args.p.now.now c.args.index.now _ c.args.i c.requires c.args.st.now.now c.node-n.ensures c.in-6.is c.own_cell-m-in-6.ensures c.well_s-e.ensures c.if-m-eq0.true c.well_s-x.ensures c.rests_s-y.ensures refl refl

pub well_s-rests_s-x-requires : goal.well_s-rests_s-x-requires
well_s-rests_s-x-requires t c = let k = read c.node-n.ensures.a_is (switch_kids c.args.p.now.now c.args.i c.requires.node (sym c.node-n.ensures.kind_is ∙ c.in-6.is)).0 in carried c.requires refl k

pub well_s-well_s-y-requires : goal.well_s-well_s-y-requires
well_s-well_s-y-requires t c = let k = read c.node-n.ensures.c_is (switch_kids c.args.p.now.now c.args.i c.requires.node (sym c.node-n.ensures.kind_is ∙ c.in-6.is)).2 in (omega (arith, k.less, c.decreases), carried c.requires refl k)

pub well_s-own_cell-m-requires-in-7 : goal.well_s-own_cell-m-requires-in-7
well_s-own_cell-m-requires-in-7 t c = own_group c.args.p.now.now c.args.index.now _ c.args.i c.requires (sym c.node-n.ensures.kind_is ∙ c.in-7.is)

pub well_s-well_s-body-requires : goal.well_s-well_s-body-requires
well_s-well_s-body-requires t c = let k = read c.node-n.ensures.a_is (group_kids c.args.p.now.now c.args.i c.requires.node (sym c.node-n.ensures.kind_is ∙ c.in-7.is)).0 in (omega (arith, k.less, c.decreases), carried c.requires refl k)

pub well_s-rests_b-brs-requires : goal.well_s-rests_b-brs-requires
well_s-rests_b-brs-requires t c = let k = read c.node-n.ensures.b_is (group_kids c.args.p.now.now c.args.i c.requires.node (sym c.node-n.ensures.kind_is ∙ c.in-7.is)).1 in carried c.requires refl k

pub well_s-returns-then-m-eq0-2 : goal.well_s-returns-then-m-eq0-2
unfolding ◌and◌ ◌or◌
well_s-returns-then-m-eq0-2 t c = group_body_said c.args.p.now.now c.args.index.now _ c.args.i c.requires c.args.st.now.now c.node-n.ensures c.in-7.is c.own_cell-m-in-7.ensures c.if-m-eq0-2.true c.well_s-body.ensures c.rests_b-brs.ensures refl

pub well_s-rests_s-body-requires : goal.well_s-rests_s-body-requires
well_s-rests_s-body-requires t c = let k = read c.node-n.ensures.a_is (group_kids c.args.p.now.now c.args.i c.requires.node (sym c.node-n.ensures.kind_is ∙ c.in-7.is)).0 in carried c.requires refl k

pub well_s-well_b-brs-requires : goal.well_s-well_b-brs-requires
well_s-well_b-brs-requires t c = let k = read c.node-n.ensures.b_is (group_kids c.args.p.now.now c.args.i c.requires.node (sym c.node-n.ensures.kind_is ∙ c.in-7.is)).1 in (omega (arith, k.less, c.decreases), carried c.requires refl k)

pub well_s-well_s-requires-in-8 : goal.well_s-well_s-requires-in-8
well_s-well_s-requires-in-8 t c = let k = read c.node-n.ensures.a_is (until_kids c.args.p.now.now c.args.i c.requires.node (sym c.node-n.ensures.kind_is ∙ c.in-8.is)).0 in (omega (arith, k.less, c.decreases), carried c.requires refl k)

pub well_s-well_c-requires : goal.well_s-well_c-requires
well_s-well_c-requires t c = let k = read c.node-n.ensures.b_is (until_kids c.args.p.now.now c.args.i c.requires.node (sym c.node-n.ensures.kind_is ∙ c.in-8.is)).1 in (omega (arith, k.less, c.decreases), carried c.requires refl k)

pub well_s-returns-in-4 : goal.well_s-returns-in-4
unfolding ◌and◌ ◌or◌
well_s-returns-in-4 t c = delay_well_said c.args.p.now.now c.args.index.now _ c.args.i c.requires c.args.st.now.now c.node-n.ensures c.in-4.is c.own_cell-m.ensures c.well_s-s.ensures c.content_fits.ensures refl

pub well_s-returns-in-5 : goal.well_s-returns-in-5
unfolding ◌and◌ ◌or◌
well_s-returns-in-5 t c = let_well_said c.args.p.now.now c.args.index.now _ c.args.i c.requires c.args.st.now.now c.node-n.ensures c.in-5.is c.well_s.ensures c.well_s-in-5.ensures refl

pub well_s-returns-else-m-eq0 : goal.well_s-returns-else-m-eq0
unfolding ◌and◌ ◌or◌
well_s-returns-else-m-eq0 t c = switch_second_said c.args.p.now.now c.args.index.now _ c.args.i c.requires c.args.st.now.now c.node-n.ensures c.in-6.is c.own_cell-m-in-6.ensures c.well_s-e.ensures c.if-m-eq0.false c.rests_s-x.ensures c.well_s-y.ensures c.content_fits-in-6.ensures refl refl refl

pub well_s-returns-else-m-eq0-2 : goal.well_s-returns-else-m-eq0-2
unfolding ◌and◌ ◌or◌
well_s-returns-else-m-eq0-2 t c = group_branch_said c.args.p.now.now c.args.index.now _ c.args.i c.requires c.args.st.now.now c.node-n.ensures c.in-7.is c.own_cell-m-in-7.ensures c.if-m-eq0-2.false c.rests_s-body.ensures c.well_b-brs.ensures refl

pub well_s-returns-in-8 : goal.well_s-returns-in-8
unfolding ◌and◌ ◌or◌
well_s-returns-in-8 t c = until_well_said c.args.p.now.now c.args.index.now _ c.args.i c.requires c.args.st.now.now c.node-n.ensures c.in-8.is c.well_s-in-8.ensures c.well_c.ensures refl

pub well_s-returns-in_default : goal.well_s-returns-in_default
well_s-returns-in_default t c = quiet_well c.args.p.now.now c.args.index.now _ c.args.i c.requires c.args.st.now.now c.node-n.ensures.kind_is c.in_default.in_default-own.rest
