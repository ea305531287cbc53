-- Each arm is what is found in a signal of its kind, from what is found in its parts; a let's mark is put back.
use Rattle.rules.proofs.PutBack.{put_back}
use Rattle.places.proofs.NumberLaws.{no_place}
use mathlib.Core.Path.{refl, sym, ap, ◌∙◌}
use native.Mathlib.Omega.{arith}
use mathlib.Core.List.{List}
use lib.ListN.{set, get_or}
use Rattle.rules.proofs.Kids.{read}
use Rattle.rules.proofs.Signals.{time_left, ext_kid, delay_kid, let_kids, switch_kids, group_kids, until_kids, branch_kid, branch_next, case_kid, case_next}
use Rattle.rules.specs.Tree.{signal_at, cases_at}
use Rattle.rules.specs.Ready.{ready_c}
use Rattle.ready.specs.Regions.{marked_in}
use Rattle.ready.specs.Found.{Lets, adding, found_s}
use Rattle.ready.proofs.RegionLaws.{entered, marked, marked_entered}
use Rattle.ready.proofs.PassLaws.{delay_passed, switch_passed, event_passed, of_two, part_e, part_s, later_s, later_b}
use Rattle.ready.proofs.ReadyLaws.{case_last_ready, case_more_ready}
use Rattle.ready.proofs.FoundLaws.{input_found, time_found, ext_found, let_found, group_found, until_found, branch_last_found, branch_more_found}
use Prim.Native.Nat.{ℕ}
use Rattle.ready.proofs.+inside_pass_b_pass_c_pass_s.Goals as goal

pub inside-overflow_cast-marks : goal.inside-overflow_cast-marks
inside-overflow_cast-marks t c = omega (arith, c.requires.0.within, c.requires.0.node.shaped.small)

pub inside-pass_s-r-requires : goal.inside-pass_s-r-requires
inside-pass_s-r-requires t c = (omega (arith, c.decreases), marked_entered c.args.i c.requires.1 c.requires.0)

pub inside-returns : goal.inside-returns
inside-returns t c = (c.pass_s-r.ensures.0 ∙ ap (λ (N : Lets). found_s N (signal_at c.args.p.now.now c.args.k)) (marked c.args.marks.now c.args.i c.args.region c.requires.1), ap (λ (l : List ℕ). set l c.args.i (get_or c.args.marks.now c.args.i 0)) c.pass_s-r.ensures.1 ∙ put_back _ _ c.args.region)

pub pass_b-node-n-requires : goal.pass_b-node-n-requires
pass_b-node-n-requires t c = let w = c.requires.node in (omega (arith, w.inside, w.shaped.within), omega (arith, w.inside, w.shaped.small))

pub pass_b-pass_s-body-requires : goal.pass_b-pass_s-body-requires
pass_b-pass_s-body-requires t c = let k = read c.node-n.ensures.a_is (branch_kid c.args.p.now.now c.args.j c.requires.node) in (omega (arith, k.less, c.decreases), entered c.requires refl k (omega (arith, k.less, c.requires.above)) (omega (arith, k.less, c.requires.above)))

pub pass_b-returns-then-n-eq-LAST : goal.pass_b-returns-then-n-eq-LAST
pass_b-returns-then-n-eq-LAST t c = (of_two (branch_last_found c.args.p.now.now c.args.j c.requires.node (marked_in c.args.marks.now c.args.region) (sym c.node-n.ensures.b_is ∙ c.if-n-eq-LAST.true)) (part_s c.args.p.now.now (marked_in c.args.marks.now c.args.region) c.node-n.ensures.a_is c.pass_s-body.ensures.0) no_place c.sooner.ensures, c.pass_s-body.ensures.1)

pub pass_b-pass_b-rest-requires : goal.pass_b-pass_b-rest-requires
pass_b-pass_b-rest-requires t c = let k = read c.node-n.ensures.b_is (branch_next c.args.p.now.now c.args.j c.requires.node (λ h. c.if-n-eq-LAST.false (c.node-n.ensures.b_is ∙ h))) in (omega (arith, k.less, c.decreases), entered c.requires c.pass_s-body.ensures.1 k (omega (arith, k.less, c.requires.above)) (omega (arith, k.less, c.requires.above)))

pub pass_b-returns : goal.pass_b-returns
pass_b-returns t c = (of_two (branch_more_found c.args.p.now.now c.args.j c.requires.node (marked_in c.args.marks.now c.args.region) (λ h. c.if-n-eq-LAST.false (c.node-n.ensures.b_is ∙ h))) (part_s c.args.p.now.now (marked_in c.args.marks.now c.args.region) c.node-n.ensures.a_is c.pass_s-body.ensures.0) (later_b c.args.p.now.now c.args.region c.pass_s-body.ensures.1 c.node-n.ensures.b_is c.pass_b-rest.ensures.0) c.sooner-2.ensures, c.pass_b-rest.ensures.1 ∙ c.pass_s-body.ensures.1)

pub pass_c-node-n-requires : goal.pass_c-node-n-requires
pass_c-node-n-requires t c = let w = c.requires.node in (omega (arith, w.inside, w.shaped.within), omega (arith, w.inside, w.shaped.small))

pub pass_c-overflow_add-n : goal.pass_c-overflow_add-n
pass_c-overflow_add-n t c = let k = read c.node-n.ensures.a_is (case_kid c.args.p.now.now c.args.j c.requires.node) in omega (arith, k.less, k.node.inside, k.node.shaped.small)

pub pass_c-pass_s-event-requires : goal.pass_c-pass_s-event-requires
pass_c-pass_s-event-requires t c = let k = read c.node-n.ensures.a_is (case_kid c.args.p.now.now c.args.j c.requires.node) in (omega (arith, k.less, c.decreases), entered c.requires refl k (omega (arith, k.less, c.requires.above)) (omega (arith, k.less, c.requires.above)))

pub pass_c-returns-then-n-eq-LAST : goal.pass_c-returns-then-n-eq-LAST
pass_c-returns-then-n-eq-LAST t c = (of_two (case_last_ready c.args.p.now.now c.args.j c.requires.node (sym c.node-n.ensures.b_is ∙ c.if-n-eq-LAST.true)) (event_passed c.requires c.node-n.ensures.a_is c.pass_s-event.ensures.0) no_place c.sooner.ensures, c.pass_s-event.ensures.1)

pub pass_c-pass_c-rest-requires : goal.pass_c-pass_c-rest-requires
pass_c-pass_c-rest-requires t c = let k = read c.node-n.ensures.b_is (case_next c.args.p.now.now c.args.j c.requires.node (λ h. c.if-n-eq-LAST.false (c.node-n.ensures.b_is ∙ h))) in (omega (arith, k.less, c.decreases), entered c.requires c.pass_s-event.ensures.1 k (omega (arith, k.less, c.requires.above)) (omega (arith, k.less, c.requires.above)))

pub pass_c-returns : goal.pass_c-returns
pass_c-returns t c = (of_two (case_more_ready c.args.p.now.now c.args.j c.requires.node (λ h. c.if-n-eq-LAST.false (c.node-n.ensures.b_is ∙ h))) (event_passed c.requires c.node-n.ensures.a_is c.pass_s-event.ensures.0) (c.pass_c-rest.ensures.0 ∙ ap (λ (x : ℕ). ready_c (cases_at c.args.p.now.now x)) c.node-n.ensures.b_is) c.sooner-2.ensures, c.pass_c-rest.ensures.1 ∙ c.pass_s-event.ensures.1)

pub pass_s-node-n-requires : goal.pass_s-node-n-requires
pass_s-node-n-requires t c = let w = c.requires.node in (omega (arith, w.inside, w.shaped.within), omega (arith, w.inside, w.shaped.small))

pub pass_s-pass_e-requires : goal.pass_s-pass_e-requires
pass_s-pass_e-requires t c = let k = read c.node-n.ensures.a_is (ext_kid c.args.p.now.now c.args.i c.requires.node (sym c.node-n.ensures.kind_is ∙ c.in-3.is)) in entered c.requires refl k (omega (arith, k.less, c.requires.above)) (omega (arith, k.less, c.requires.above))

pub pass_s-overflow_add-apart : goal.pass_s-overflow_add-apart
pass_s-overflow_add-apart t c = let k = read c.node-n.ensures.a_is (delay_kid c.args.p.now.now c.args.i c.requires.node (sym c.node-n.ensures.kind_is ∙ c.in-4.is)) in omega (arith, k.less, k.node.inside, k.node.shaped.small)

pub pass_s-pass_s-requires : goal.pass_s-pass_s-requires
pass_s-pass_s-requires t c = let k = read c.node-n.ensures.a_is (delay_kid c.args.p.now.now c.args.i c.requires.node (sym c.node-n.ensures.kind_is ∙ c.in-4.is)) in (omega (arith, k.less, c.decreases), entered c.requires refl k (omega (arith, k.less, c.requires.above)) (omega (arith, k.less, c.requires.above)))

pub pass_s-inside-d-requires : goal.pass_s-inside-d-requires
pass_s-inside-d-requires t c = let k = read c.node-n.ensures.a_is (let_kids c.args.p.now.now c.args.i c.requires.node (sym c.node-n.ensures.kind_is ∙ c.in-5.is)).0 in (omega (arith, k.less, c.decreases), (entered c.requires refl k (omega (arith, k.less, c.requires.above)) (omega (arith, k.less, c.requires.above)), omega (arith, c.requires.room, c.requires.node.inside, c.requires.node.shaped.small)))

pub pass_s-pass_s-b-requires : goal.pass_s-pass_s-b-requires
pass_s-pass_s-b-requires t c = let k = read c.node-n.ensures.b_is (let_kids c.args.p.now.now c.args.i c.requires.node (sym c.node-n.ensures.kind_is ∙ c.in-5.is)).1 in (omega (arith, k.less, c.decreases), entered c.requires c.inside-d.ensures.1 k (omega (arith, k.less, c.requires.above)) (omega (arith, k.less, c.requires.above)))

pub pass_s-pass_s-x-requires : goal.pass_s-pass_s-x-requires
pass_s-pass_s-x-requires t c = let k = read c.node-n.ensures.a_is (switch_kids c.args.p.now.now c.args.i c.requires.node (sym c.node-n.ensures.kind_is ∙ c.in-6.is)).0 in (omega (arith, k.less, c.decreases), entered c.requires refl k (omega (arith, k.less, c.requires.above)) (omega (arith, k.less, c.requires.above)))

pub pass_s-overflow_add-n : goal.pass_s-overflow_add-n
pass_s-overflow_add-n t c = let k = read c.node-n.ensures.b_is (switch_kids c.args.p.now.now c.args.i c.requires.node (sym c.node-n.ensures.kind_is ∙ c.in-6.is)).1 in omega (arith, k.less, k.node.inside, k.node.shaped.small)

pub pass_s-pass_s-e-requires : goal.pass_s-pass_s-e-requires
pass_s-pass_s-e-requires t c = let k = read c.node-n.ensures.b_is (switch_kids c.args.p.now.now c.args.i c.requires.node (sym c.node-n.ensures.kind_is ∙ c.in-6.is)).1 in (omega (arith, k.less, c.decreases), entered c.requires c.pass_s-x.ensures.1 k (omega (arith, k.less, c.requires.above)) (omega (arith, k.less, c.requires.above)))

pub pass_s-pass_s-y-requires : goal.pass_s-pass_s-y-requires
pass_s-pass_s-y-requires t c = let k = read c.node-n.ensures.c_is (switch_kids c.args.p.now.now c.args.i c.requires.node (sym c.node-n.ensures.kind_is ∙ c.in-6.is)).2 in (omega (arith, k.less, c.decreases), entered c.requires (c.pass_s-e.ensures.1 ∙ c.pass_s-x.ensures.1) k (omega (arith, k.less, c.requires.above)) (omega (arith, k.less, c.requires.above)))

pub pass_s-pass_s-body-requires : goal.pass_s-pass_s-body-requires
pass_s-pass_s-body-requires t c = let k = read c.node-n.ensures.a_is (group_kids c.args.p.now.now c.args.i c.requires.node (sym c.node-n.ensures.kind_is ∙ c.in-7.is)).0 in (omega (arith, k.less, c.decreases), entered c.requires refl k (omega (arith, k.less, c.requires.above)) (omega (arith, k.less, c.requires.above)))

pub pass_s-pass_b-brs-requires : goal.pass_s-pass_b-brs-requires
pass_s-pass_b-brs-requires t c = let k = read c.node-n.ensures.b_is (group_kids c.args.p.now.now c.args.i c.requires.node (sym c.node-n.ensures.kind_is ∙ c.in-7.is)).1 in (omega (arith, k.less, c.decreases), entered c.requires c.pass_s-body.ensures.1 k (omega (arith, k.less, c.requires.above)) (omega (arith, k.less, c.requires.above)))

pub pass_s-pass_s-s-requires : goal.pass_s-pass_s-s-requires
pass_s-pass_s-s-requires t c = let k = read c.node-n.ensures.a_is (until_kids c.args.p.now.now c.args.i c.requires.node (sym c.node-n.ensures.kind_is ∙ c.in-8.is)).0 in (omega (arith, k.less, c.decreases), entered c.requires refl k (omega (arith, k.less, c.requires.above)) (omega (arith, k.less, c.requires.above)))

pub pass_s-pass_c-cases-requires : goal.pass_s-pass_c-cases-requires
pass_s-pass_c-cases-requires t c = let k = read c.node-n.ensures.b_is (until_kids c.args.p.now.now c.args.i c.requires.node (sym c.node-n.ensures.kind_is ∙ c.in-8.is)).1 in (omega (arith, k.less, c.decreases), entered c.requires c.pass_s-s.ensures.1 k (omega (arith, k.less, c.requires.above)) (omega (arith, k.less, c.requires.above)))

pub pass_s-returns-in-1 : goal.pass_s-returns-in-1
pass_s-returns-in-1 t c = (no_place ∙ sym (input_found c.args.p.now.now c.args.i c.requires.node (marked_in c.args.marks.now c.args.region) (sym c.node-n.ensures.kind_is ∙ c.in-1.is)), refl)

pub pass_s-returns-in-3 : goal.pass_s-returns-in-3
pass_s-returns-in-3 t c = (part_e c.args.p.now.now (marked_in c.args.marks.now c.args.region) c.node-n.ensures.a_is c.pass_e.ensures ∙ sym (ext_found c.args.p.now.now c.args.i c.requires.node (marked_in c.args.marks.now c.args.region) (sym c.node-n.ensures.kind_is ∙ c.in-3.is)), refl)

pub pass_s-returns-in-4 : goal.pass_s-returns-in-4
pass_s-returns-in-4 t c = let n = c.node-n.ensures in
    (delay_passed c.requires (sym n.kind_is ∙ c.in-4.is) n.a_is c.pass_s.ensures.0, c.pass_s.ensures.1)

pub pass_s-returns-in-5 : goal.pass_s-returns-in-5
pass_s-returns-in-5 t c = (of_two (let_found c.args.p.now.now c.args.i c.requires.node (marked_in c.args.marks.now c.args.region) (sym c.node-n.ensures.kind_is ∙ c.in-5.is)) (part_s c.args.p.now.now (adding c.args.i (marked_in c.args.marks.now c.args.region)) c.node-n.ensures.a_is c.inside-d.ensures.0) (later_s c.args.p.now.now c.args.region c.inside-d.ensures.1 c.node-n.ensures.b_is c.pass_s-b.ensures.0) c.sooner.ensures, c.pass_s-b.ensures.1 ∙ c.inside-d.ensures.1)

pub pass_s-returns-in-6 : goal.pass_s-returns-in-6
pass_s-returns-in-6 t c = let n = c.node-n.ensures in
    let x = c.pass_s-x.ensures in
    let v = c.pass_s-e.ensures in
    let y = c.pass_s-y.ensures in
    let e = sym n.kind_is ∙ c.in-6.is in (
      switch_passed c.requires e n.a_is n.b_is n.c_is x.1 (v.1 ∙ x.1) x.0 v.0 y.0 c.sooner-in-6.ensures c.sooner-in-6-2.ensures,
      y.1 ∙ v.1 ∙ x.1,
    )

pub pass_s-returns-in-7 : goal.pass_s-returns-in-7
pass_s-returns-in-7 t c = (of_two (group_found c.args.p.now.now c.args.i c.requires.node (marked_in c.args.marks.now c.args.region) (sym c.node-n.ensures.kind_is ∙ c.in-7.is)) (part_s c.args.p.now.now (marked_in c.args.marks.now c.args.region) c.node-n.ensures.a_is c.pass_s-body.ensures.0) (later_b c.args.p.now.now c.args.region c.pass_s-body.ensures.1 c.node-n.ensures.b_is c.pass_b-brs.ensures.0) c.sooner-in-7.ensures, c.pass_b-brs.ensures.1 ∙ c.pass_s-body.ensures.1)

pub pass_s-returns-in-8 : goal.pass_s-returns-in-8
pass_s-returns-in-8 t c = (of_two (until_found c.args.p.now.now c.args.i c.requires.node (marked_in c.args.marks.now c.args.region) (sym c.node-n.ensures.kind_is ∙ c.in-8.is)) (part_s c.args.p.now.now (marked_in c.args.marks.now c.args.region) c.node-n.ensures.a_is c.pass_s-s.ensures.0) (c.pass_c-cases.ensures.0 ∙ ap (λ (x : ℕ). ready_c (cases_at c.args.p.now.now x)) c.node-n.ensures.b_is) c.sooner-in-8.ensures, c.pass_c-cases.ensures.1 ∙ c.pass_s-s.ensures.1)

pub pass_s-returns-in_default : goal.pass_s-returns-in_default
pass_s-returns-in_default t c = (no_place ∙ sym (time_found c.args.p.now.now c.args.i c.requires.node (marked_in c.args.marks.now c.args.region) (time_left c.args.p.now.now c.args.i c.requires.node c.node-n.ensures.kind_is c.in_default.in_default-own.rest)), refl)
