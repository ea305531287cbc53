use Rattle.typing.proofs.SignalLaws.{input_said, ext_said, delay_said, let_said, switch_said, group_said, until_said, time_said, last_said, more_said, last_case_said, more_case_said}
use Rattle.rules.proofs.Signals.{ext_kid, delay_kid, let_kids, switch_kids, group_kids, until_kids, time_left, branch_kid, branch_next, case_kid, case_next}
use Rattle.rules.proofs.Kids.{read}
use mathlib.Core.Path.{sym, ◌∙◌}
use native.Mathlib.Omega.{arith}
use Rattle.places.proofs.NumberLaws.{no_place}
use Rattle.typing.proofs.+type_b_type_c_type_s.Goals as goal

pub type_b-node-n-requires : goal.type_b-node-n-requires
type_b-node-n-requires t c = let w = c.requires in (omega (arith, w.inside, w.shaped.within), omega (arith, w.inside, w.shaped.small))

pub type_b-type_s-body-requires : goal.type_b-type_s-body-requires
type_b-type_s-body-requires t c = let k = read c.node-n.ensures.a_is (branch_kid c.args.p.now.now c.args.j c.requires) in (omega (arith, k.less, c.decreases), k.node)

pub type_b-returns-then-n-eq-LAST : goal.type_b-returns-then-n-eq-LAST
type_b-returns-then-n-eq-LAST t c = last_said c.args.p.now.now c.args.j c.requires c.args.t (sym c.node-n.ensures.b_is ∙ c.if-n-eq-LAST.true) c.node-n.ensures.a_is c.type_s-body.ensures c.place_in-body_at.ensures c.type_in.ensures c.both.ensures no_place c.sooner.ensures c.bodies.ensures

pub type_b-type_b-rest-requires : goal.type_b-type_b-rest-requires
type_b-type_b-rest-requires t c = let k = read c.node-n.ensures.b_is (branch_next c.args.p.now.now c.args.j c.requires (λ h. c.if-n-eq-LAST.false (c.node-n.ensures.b_is ∙ h))) in (omega (arith, k.less, c.decreases), k.node)

pub type_b-returns : goal.type_b-returns
type_b-returns t c = more_said c.args.p.now.now c.args.j c.requires c.args.t (λ h. c.if-n-eq-LAST.false (c.node-n.ensures.b_is ∙ h)) c.node-n.ensures.a_is c.node-n.ensures.b_is c.type_s-body.ensures c.type_b-rest.ensures c.place_in-body_at.ensures c.type_in-2.ensures c.same_in.ensures c.place_in-rest_at.ensures c.both-2.ensures c.sooner-2.ensures c.bodies-2.ensures

pub type_c-node-n-requires : goal.type_c-node-n-requires
type_c-node-n-requires t c = let w = c.requires in (omega (arith, w.inside, w.shaped.within), omega (arith, w.inside, w.shaped.small))

pub type_c-type_s-event-requires : goal.type_c-type_s-event-requires
type_c-type_s-event-requires t c = let k = read c.node-n.ensures.a_is (case_kid c.args.p.now.now c.args.j c.requires) in (omega (arith, k.less, c.decreases), k.node)

pub type_c-declared-requires : goal.type_c-declared-requires
type_c-declared-requires t c = c.requires.shaped.whole

pub type_c-under-requires : goal.type_c-under-requires
type_c-under-requires t c = omega (arith, c.requires.inside, c.requires.shaped.small)

pub type_c-returns-then-n-eq-LAST : goal.type_c-returns-then-n-eq-LAST
type_c-returns-then-n-eq-LAST t c = last_case_said c.args.p.now.now c.args.j c.requires (sym c.node-n.ensures.b_is ∙ c.if-n-eq-LAST.true) c.node-n.ensures.a_is c.node-n.ensures.c_is c.type_s-event.ensures c.type_in.ensures c.declared.ensures c.is_maybe-right.ensures c.place_in-event_at.ensures no_place c.under.ensures

pub type_c-type_c-rest-requires : goal.type_c-type_c-rest-requires
type_c-type_c-rest-requires t c = let k = read c.node-n.ensures.b_is (case_next c.args.p.now.now c.args.j c.requires (λ h. c.if-n-eq-LAST.false (c.node-n.ensures.b_is ∙ h))) in (omega (arith, k.less, c.decreases), k.node)

pub type_c-under-requires-2 : goal.type_c-under-requires-2
type_c-under-requires-2 t c = omega (arith, c.requires.inside, c.requires.shaped.small)

pub type_c-returns : goal.type_c-returns
type_c-returns t c = more_case_said c.args.p.now.now c.args.j c.requires (λ h. c.if-n-eq-LAST.false (c.node-n.ensures.b_is ∙ h)) c.node-n.ensures.a_is c.node-n.ensures.b_is c.node-n.ensures.c_is c.type_s-event.ensures c.type_in.ensures c.declared.ensures c.is_maybe-right.ensures c.place_in-event_at.ensures c.type_c-rest.ensures c.under-2.ensures

pub type_s-node-n-requires : goal.type_s-node-n-requires
type_s-node-n-requires t c = let w = c.requires in (omega (arith, w.inside, w.shaped.within), omega (arith, w.inside, w.shaped.small))

pub type_s-type_e-requires : goal.type_s-type_e-requires
type_s-type_e-requires t c = let k = read c.node-n.ensures.a_is (ext_kid c.args.p.now.now c.args.i c.requires (sym c.node-n.ensures.kind_is ∙ c.in-3.is)) in k.node

pub type_s-type_s-requires : goal.type_s-type_s-requires
type_s-type_s-requires t c = let k = read c.node-n.ensures.a_is (delay_kid c.args.p.now.now c.args.i c.requires (sym c.node-n.ensures.kind_is ∙ c.in-4.is)) in (omega (arith, k.less, c.decreases), k.node)

pub type_s-delayed-requires : goal.type_s-delayed-requires
type_s-delayed-requires t c = omega (arith, c.requires.inside, c.requires.shaped.small)

pub type_s-type_s-d-requires : goal.type_s-type_s-d-requires
type_s-type_s-d-requires t c = let k = read c.node-n.ensures.a_is (let_kids c.args.p.now.now c.args.i c.requires (sym c.node-n.ensures.kind_is ∙ c.in-5.is)).0 in (omega (arith, k.less, c.decreases), k.node)

pub type_s-type_s-b-requires : goal.type_s-type_s-b-requires
type_s-type_s-b-requires t c = let k = read c.node-n.ensures.b_is (let_kids c.args.p.now.now c.args.i c.requires (sym c.node-n.ensures.kind_is ∙ c.in-5.is)).1 in (omega (arith, k.less, c.decreases), k.node)

pub type_s-letting-requires : goal.type_s-letting-requires
type_s-letting-requires t c = omega (arith, c.requires.inside, c.requires.shaped.small)

pub type_s-type_s-x-requires : goal.type_s-type_s-x-requires
type_s-type_s-x-requires t c = let k = read c.node-n.ensures.a_is (switch_kids c.args.p.now.now c.args.i c.requires (sym c.node-n.ensures.kind_is ∙ c.in-6.is)).0 in (omega (arith, k.less, c.decreases), k.node)

pub type_s-type_s-e-requires : goal.type_s-type_s-e-requires
type_s-type_s-e-requires t c = let k = read c.node-n.ensures.b_is (switch_kids c.args.p.now.now c.args.i c.requires (sym c.node-n.ensures.kind_is ∙ c.in-6.is)).1 in (omega (arith, k.less, c.decreases), k.node)

pub type_s-type_s-y-requires : goal.type_s-type_s-y-requires
type_s-type_s-y-requires t c = let k = read c.node-n.ensures.c_is (switch_kids c.args.p.now.now c.args.i c.requires (sym c.node-n.ensures.kind_is ∙ c.in-6.is)).2 in (omega (arith, k.less, c.decreases), k.node)

pub type_s-switching-requires : goal.type_s-switching-requires
type_s-switching-requires t c = omega (arith, c.requires.inside, c.requires.shaped.small)

pub type_s-type_s-body-requires : goal.type_s-type_s-body-requires
type_s-type_s-body-requires t c = let k = read c.node-n.ensures.a_is (group_kids c.args.p.now.now c.args.i c.requires (sym c.node-n.ensures.kind_is ∙ c.in-7.is)).0 in (omega (arith, k.less, c.decreases), k.node)

pub type_s-type_b-brs-requires : goal.type_s-type_b-brs-requires
type_s-type_b-brs-requires t c = let k = read c.node-n.ensures.b_is (group_kids c.args.p.now.now c.args.i c.requires (sym c.node-n.ensures.kind_is ∙ c.in-7.is)).1 in (omega (arith, k.less, c.decreases), k.node)

pub type_s-grouping-requires : goal.type_s-grouping-requires
type_s-grouping-requires t c = omega (arith, c.requires.inside, c.requires.shaped.small)

pub type_s-type_s-s-requires : goal.type_s-type_s-s-requires
type_s-type_s-s-requires t c = let k = read c.node-n.ensures.a_is (until_kids c.args.p.now.now c.args.i c.requires (sym c.node-n.ensures.kind_is ∙ c.in-8.is)).0 in (omega (arith, k.less, c.decreases), k.node)

pub type_s-type_c-cases-requires : goal.type_s-type_c-cases-requires
type_s-type_c-cases-requires t c = let k = read c.node-n.ensures.b_is (until_kids c.args.p.now.now c.args.i c.requires (sym c.node-n.ensures.kind_is ∙ c.in-8.is)).1 in (omega (arith, k.less, c.decreases), k.node)

pub type_s-returns-in-1 : goal.type_s-returns-in-1
type_s-returns-in-1 t c = input_said c.args.p.now.now c.args.i c.requires (sym c.node-n.ensures.kind_is ∙ c.in-1.is) c.node-n.ensures.a_is c.channel_type.ensures no_place c.typed_at.ensures

pub type_s-returns-in-3 : goal.type_s-returns-in-3
type_s-returns-in-3 t c = ext_said c.args.p.now.now c.args.i c.requires (sym c.node-n.ensures.kind_is ∙ c.in-3.is) c.node-n.ensures.a_is c.type_e.ensures

pub type_s-returns-in-4 : goal.type_s-returns-in-4
type_s-returns-in-4 t c = delay_said c.args.p.now.now c.args.i c.requires (sym c.node-n.ensures.kind_is ∙ c.in-4.is) c.node-n.ensures.type_is c.node-n.ensures.a_is c.type_s.ensures c.delayed.ensures

pub type_s-returns-in-5 : goal.type_s-returns-in-5
type_s-returns-in-5 t c = let_said c.args.p.now.now c.args.i c.requires (sym c.node-n.ensures.kind_is ∙ c.in-5.is) c.node-n.ensures.type_is c.node-n.ensures.a_is c.node-n.ensures.b_is c.type_s-d.ensures c.type_s-b.ensures c.letting.ensures

pub type_s-returns-in-6 : goal.type_s-returns-in-6
type_s-returns-in-6 t c = switch_said c.args.p.now.now c.args.i c.requires (sym c.node-n.ensures.kind_is ∙ c.in-6.is) c.node-n.ensures.type_is c.node-n.ensures.a_is c.node-n.ensures.b_is c.node-n.ensures.c_is c.type_s-x.ensures c.type_s-e.ensures c.type_s-y.ensures c.switching.ensures

pub type_s-returns-in-7 : goal.type_s-returns-in-7
type_s-returns-in-7 t c = group_said c.args.p.now.now c.args.i c.requires (sym c.node-n.ensures.kind_is ∙ c.in-7.is) c.node-n.ensures.a_is c.node-n.ensures.b_is c.type_s-body.ensures c.type_in.ensures c.type_b-brs.ensures c.grouping.ensures

pub type_s-returns-in-8 : goal.type_s-returns-in-8
type_s-returns-in-8 t c = until_said c.args.p.now.now c.args.i c.requires (sym c.node-n.ensures.kind_is ∙ c.in-8.is) c.node-n.ensures.a_is c.node-n.ensures.b_is c.type_s-s.ensures c.type_in-in-8.ensures c.place_in-s_at.ensures c.type_c-cases.ensures c.sooner.ensures c.typed_at-in-8.ensures

pub type_s-returns-in_default : goal.type_s-returns-in_default
type_s-returns-in_default t c = time_said c.args.p.now.now c.args.i c.requires (time_left c.args.p.now.now c.args.i c.requires c.node-n.ensures.kind_is c.in_default.in_default-own.rest) no_place c.typed_at-in_default.ensures
