use Rattle.bound.proofs.SignalBounds.{input_bound, time_bound, ext_part, ext_said, delay_part, delay_said, let_parts, let_said, switch_parts, switch_said, group_parts, group_said, until_parts, until_said, branch_part, branch_more, branch_last_said, branch_more_said, case_part, case_more, case_last_said, case_more_said, alone_said}
use Rattle.bound.proofs.Parts.{read, bounded_s, bounded_b, bounded_c}
use Rattle.rules.proofs.Signals.{time_left}
use mathlib.Core.Path.{sym, ◌∙◌}
use native.Mathlib.Omega.{arith}
use Rattle.bound.proofs.+bound_b_bound_c_bound_s.Goals as goal

pub bound_b-node-n-requires : goal.bound_b-node-n-requires
bound_b-node-n-requires t c = let w = c.requires.node in (omega (arith, w.inside, w.shaped.within), omega (arith, w.inside, w.shaped.small))

pub bound_b-bound_s-body-requires : goal.bound_b-bound_s-body-requires
bound_b-bound_s-body-requires t c = let k = read c.node-n.ensures.a_is (branch_part c.args.p.now.now c.args.j c.requires) in (omega (arith, k.less, c.decreases), k.node)

pub bound_b-returns-then-n-eq-LAST : goal.bound_b-returns-then-n-eq-LAST
bound_b-returns-then-n-eq-LAST t c = let b = branch_last_said c.args.p.now.now c.args.j c.requires (sym c.node-n.ensures.b_is ∙ c.if-n-eq-LAST.true) c.node-n.ensures.a_is (c.bound_s-body.ensures.eval_is, c.bound_s-body.ensures.update_is) c.bounds.ensures c.largest.ensures in bounded_b c.args.p.now.now c.args.j c.requires b.0 b.1

pub bound_b-bound_b-rest-requires : goal.bound_b-bound_b-rest-requires
bound_b-bound_b-rest-requires t c = let k = read c.node-n.ensures.b_is (branch_more c.args.p.now.now c.args.j c.requires (λ h. c.if-n-eq-LAST.false (c.node-n.ensures.b_is ∙ h))) in (omega (arith, k.less, c.decreases), k.node)

pub bound_b-returns : goal.bound_b-returns
bound_b-returns t c = let b = branch_more_said c.args.p.now.now c.args.j c.requires (λ h. c.if-n-eq-LAST.false (c.node-n.ensures.b_is ∙ h)) c.node-n.ensures.a_is c.node-n.ensures.b_is (c.bound_s-body.ensures.eval_is, c.bound_s-body.ensures.update_is) (c.bound_b-rest.ensures.eval_is, c.bound_b-rest.ensures.update_is) c.largest-2.ensures in bounded_b c.args.p.now.now c.args.j c.requires b.0 b.1

pub bound_c-node-n-requires : goal.bound_c-node-n-requires
bound_c-node-n-requires t c = let w = c.requires.node in (omega (arith, w.inside, w.shaped.within), omega (arith, w.inside, w.shaped.small))

pub bound_c-bound_s-event-requires : goal.bound_c-bound_s-event-requires
bound_c-bound_s-event-requires t c = let k = read c.node-n.ensures.a_is (case_part c.args.p.now.now c.args.j c.requires) in (omega (arith, k.less, c.decreases), k.node)

pub bound_c-sum-requires : goal.bound_c-sum-requires
bound_c-sum-requires t c = (c.bound_s-event.ensures.most, record { eval_most = omega (arith, c.bounds.ensures.0); update_most = omega (arith, c.bounds.ensures.1) })

pub bound_c-returns-then-n-eq-LAST : goal.bound_c-returns-then-n-eq-LAST
bound_c-returns-then-n-eq-LAST t c = let b = case_last_said c.args.p.now.now c.args.j c.requires (sym c.node-n.ensures.b_is ∙ c.if-n-eq-LAST.true) c.node-n.ensures.a_is (c.bound_s-event.ensures.eval_is, c.bound_s-event.ensures.update_is) c.bounds.ensures c.sum.ensures in bounded_c c.args.p.now.now c.args.j c.requires b.0 b.1

pub bound_c-bound_c-rest-requires : goal.bound_c-bound_c-rest-requires
bound_c-bound_c-rest-requires t c = let k = read c.node-n.ensures.b_is (case_more c.args.p.now.now c.args.j c.requires (λ h. c.if-n-eq-LAST.false (c.node-n.ensures.b_is ∙ h))) in (omega (arith, k.less, c.decreases), k.node)

pub bound_c-sum-requires-2 : goal.bound_c-sum-requires-2
bound_c-sum-requires-2 t c = (c.bound_s-event.ensures.most, c.bound_c-rest.ensures.most)

pub bound_c-returns : goal.bound_c-returns
bound_c-returns t c = let b = case_more_said c.args.p.now.now c.args.j c.requires (λ h. c.if-n-eq-LAST.false (c.node-n.ensures.b_is ∙ h)) c.node-n.ensures.a_is c.node-n.ensures.b_is (c.bound_s-event.ensures.eval_is, c.bound_s-event.ensures.update_is) (c.bound_c-rest.ensures.eval_is, c.bound_c-rest.ensures.update_is) c.sum-2.ensures in bounded_c c.args.p.now.now c.args.j c.requires b.0 b.1

pub bound_s-node-n-requires : goal.bound_s-node-n-requires
bound_s-node-n-requires t c = let w = c.requires.node in (omega (arith, w.inside, w.shaped.within), omega (arith, w.inside, w.shaped.small))

pub bound_s-bound_e-requires : goal.bound_s-bound_e-requires
bound_s-bound_e-requires t c = let k = read c.node-n.ensures.a_is (ext_part c.args.p.now.now c.args.i c.requires (sym c.node-n.ensures.kind_is ∙ c.in-3.is)) in k.node

pub bound_s-evaluated-requires : goal.bound_s-evaluated-requires
bound_s-evaluated-requires t c = c.bound_e.ensures.1

pub bound_s-bound_s-requires : goal.bound_s-bound_s-requires
bound_s-bound_s-requires t c = let k = read c.node-n.ensures.a_is (delay_part c.args.p.now.now c.args.i c.requires (sym c.node-n.ensures.kind_is ∙ c.in-4.is)) in (omega (arith, k.less, c.decreases), k.node)

pub bound_s-delayed-requires : goal.bound_s-delayed-requires
bound_s-delayed-requires t c = c.bound_s.ensures.most

pub bound_s-bound_s-d-requires : goal.bound_s-bound_s-d-requires
bound_s-bound_s-d-requires t c = let k = read c.node-n.ensures.a_is (let_parts c.args.p.now.now c.args.i c.requires (sym c.node-n.ensures.kind_is ∙ c.in-5.is)).0 in (omega (arith, k.less, c.decreases), k.node)

pub bound_s-bound_s-b-requires : goal.bound_s-bound_s-b-requires
bound_s-bound_s-b-requires t c = let k = read c.node-n.ensures.b_is (let_parts c.args.p.now.now c.args.i c.requires (sym c.node-n.ensures.kind_is ∙ c.in-5.is)).1 in (omega (arith, k.less, c.decreases), k.node)

pub bound_s-letting-requires : goal.bound_s-letting-requires
bound_s-letting-requires t c = (c.bound_s-d.ensures.most, c.bound_s-b.ensures.most)

pub bound_s-bound_s-x-requires : goal.bound_s-bound_s-x-requires
bound_s-bound_s-x-requires t c = let k = read c.node-n.ensures.a_is (switch_parts c.args.p.now.now c.args.i c.requires (sym c.node-n.ensures.kind_is ∙ c.in-6.is)).0 in (omega (arith, k.less, c.decreases), k.node)

pub bound_s-bound_s-e-requires : goal.bound_s-bound_s-e-requires
bound_s-bound_s-e-requires t c = let k = read c.node-n.ensures.b_is (switch_parts c.args.p.now.now c.args.i c.requires (sym c.node-n.ensures.kind_is ∙ c.in-6.is)).1 in (omega (arith, k.less, c.decreases), k.node)

pub bound_s-bound_s-y-requires : goal.bound_s-bound_s-y-requires
bound_s-bound_s-y-requires t c = let k = read c.node-n.ensures.c_is (switch_parts c.args.p.now.now c.args.i c.requires (sym c.node-n.ensures.kind_is ∙ c.in-6.is)).2 in (omega (arith, k.less, c.decreases), k.node)

pub bound_s-switching-requires : goal.bound_s-switching-requires
bound_s-switching-requires t c = (c.bound_s-x.ensures.most, c.bound_s-e.ensures.most, c.bound_s-y.ensures.most)

pub bound_s-bound_s-body-requires : goal.bound_s-bound_s-body-requires
bound_s-bound_s-body-requires t c = let k = read c.node-n.ensures.a_is (group_parts c.args.p.now.now c.args.i c.requires (sym c.node-n.ensures.kind_is ∙ c.in-7.is)).0 in (omega (arith, k.less, c.decreases), k.node)

pub bound_s-bound_b-brs-requires : goal.bound_s-bound_b-brs-requires
bound_s-bound_b-brs-requires t c = let k = read c.node-n.ensures.b_is (group_parts c.args.p.now.now c.args.i c.requires (sym c.node-n.ensures.kind_is ∙ c.in-7.is)).1 in (omega (arith, k.less, c.decreases), k.node)

pub bound_s-grouping-requires : goal.bound_s-grouping-requires
bound_s-grouping-requires t c = (c.bound_s-body.ensures.most, c.bound_b-brs.ensures.most)

pub bound_s-bound_s-s-requires : goal.bound_s-bound_s-s-requires
bound_s-bound_s-s-requires t c = let k = read c.node-n.ensures.a_is (until_parts c.args.p.now.now c.args.i c.requires (sym c.node-n.ensures.kind_is ∙ c.in-8.is)).0 in (omega (arith, k.less, c.decreases), k.node)

pub bound_s-bound_c-cases-requires : goal.bound_s-bound_c-cases-requires
bound_s-bound_c-cases-requires t c = let k = read c.node-n.ensures.b_is (until_parts c.args.p.now.now c.args.i c.requires (sym c.node-n.ensures.kind_is ∙ c.in-8.is)).1 in (omega (arith, k.less, c.decreases), k.node)

pub bound_s-leaving-requires : goal.bound_s-leaving-requires
bound_s-leaving-requires t c = (c.bound_s-s.ensures.most, c.bound_c-cases.ensures.most)

pub bound_s-returns-in-1 : goal.bound_s-returns-in-1
bound_s-returns-in-1 t c = let b = alone_said c.args.p.now.now c.args.i c.requires (input_bound c.args.p.now.now c.args.i c.requires (sym c.node-n.ensures.kind_is ∙ c.in-1.is)) c.bounds.ensures in bounded_s c.args.p.now.now c.args.i c.requires b.0 b.1

pub bound_s-returns-in-3 : goal.bound_s-returns-in-3
bound_s-returns-in-3 t c = let b = ext_said c.args.p.now.now c.args.i c.requires (sym c.node-n.ensures.kind_is ∙ c.in-3.is) c.node-n.ensures.a_is c.bound_e.ensures.0 c.evaluated.ensures in bounded_s c.args.p.now.now c.args.i c.requires b.0 b.1

pub bound_s-returns-in-4 : goal.bound_s-returns-in-4
bound_s-returns-in-4 t c = let b = delay_said c.args.p.now.now c.args.i c.requires (sym c.node-n.ensures.kind_is ∙ c.in-4.is) c.node-n.ensures.a_is (c.bound_s.ensures.eval_is, c.bound_s.ensures.update_is) c.delayed.ensures in bounded_s c.args.p.now.now c.args.i c.requires b.0 b.1

pub bound_s-returns-in-5 : goal.bound_s-returns-in-5
bound_s-returns-in-5 t c = let b = let_said c.args.p.now.now c.args.i c.requires (sym c.node-n.ensures.kind_is ∙ c.in-5.is) c.node-n.ensures.a_is c.node-n.ensures.b_is (c.bound_s-d.ensures.eval_is, c.bound_s-d.ensures.update_is) (c.bound_s-b.ensures.eval_is, c.bound_s-b.ensures.update_is) c.letting.ensures in bounded_s c.args.p.now.now c.args.i c.requires b.0 b.1

pub bound_s-returns-in-6 : goal.bound_s-returns-in-6
bound_s-returns-in-6 t c = let b = switch_said c.args.p.now.now c.args.i c.requires (sym c.node-n.ensures.kind_is ∙ c.in-6.is) c.node-n.ensures.a_is c.node-n.ensures.b_is c.node-n.ensures.c_is (c.bound_s-x.ensures.eval_is, c.bound_s-x.ensures.update_is) (c.bound_s-e.ensures.eval_is, c.bound_s-e.ensures.update_is) (c.bound_s-y.ensures.eval_is, c.bound_s-y.ensures.update_is) c.switching.ensures in bounded_s c.args.p.now.now c.args.i c.requires b.0 b.1

pub bound_s-returns-in-7 : goal.bound_s-returns-in-7
bound_s-returns-in-7 t c = let b = group_said c.args.p.now.now c.args.i c.requires (sym c.node-n.ensures.kind_is ∙ c.in-7.is) c.node-n.ensures.a_is c.node-n.ensures.b_is (c.bound_s-body.ensures.eval_is, c.bound_s-body.ensures.update_is) (c.bound_b-brs.ensures.eval_is, c.bound_b-brs.ensures.update_is) c.grouping.ensures in bounded_s c.args.p.now.now c.args.i c.requires b.0 b.1

pub bound_s-returns-in-8 : goal.bound_s-returns-in-8
bound_s-returns-in-8 t c = let b = until_said c.args.p.now.now c.args.i c.requires (sym c.node-n.ensures.kind_is ∙ c.in-8.is) c.node-n.ensures.a_is c.node-n.ensures.b_is (c.bound_s-s.ensures.eval_is, c.bound_s-s.ensures.update_is) (c.bound_c-cases.ensures.eval_is, c.bound_c-cases.ensures.update_is) c.leaving.ensures in bounded_s c.args.p.now.now c.args.i c.requires b.0 b.1

pub bound_s-returns-in_default : goal.bound_s-returns-in_default
bound_s-returns-in_default t c = let b = alone_said c.args.p.now.now c.args.i c.requires (time_bound c.args.p.now.now c.args.i c.requires (time_left c.args.p.now.now c.args.i c.requires.node c.node-n.ensures.kind_is c.in_default.in_default-own.rest)) c.bounds-in_default.ensures in bounded_s c.args.p.now.now c.args.i c.requires b.0 b.1
