use Rattle.scope.proofs.ByParts.{ext_part, delay_part, until_parts, last_branch_parts, more_branch_parts, let_parts, switch_parts, group_parts, last_case_parts, more_case_parts}
use mathlib.Core.Path.{refl, sym, ap, ◌∙◌}
use native.Mathlib.Omega.{arith}
use borrow.Author.Rules.{rules}
use mathlib.Core.List.{List}
use Prim.Native.Nat.{◌+◌}
use lib.ListN.{set, get_or}
use Rattle.rules.specs.Scope.{mark}
use Rattle.rules.specs.Layout.{edition}
use Rattle.rules.proofs.Kids.{read}
use Rattle.rules.proofs.Signals.{ext_kid, delay_kid, let_kids, switch_kids, group_kids, until_kids, branch_kid, branch_next, case_kid, case_next}
use Rattle.scope.specs.Open.{offers_below}
use Rattle.scope.proofs.DoorLaws.{has_edition, left_as, at_part, at_end, first_small, at_inside, at_all}
use Rattle.scope.proofs.SignalScope.{leaf_scope}
use Rattle.places.proofs.NumberLaws.{no_place}
use Rattle.rules.proofs.PutBack.{put_back}
use Prim.Native.Nat.{ℕ}
use Rattle.scope.proofs.+inside_g_inside_s_scope_b_scope_c_scope_s.Goals as goal

pub inside_g-offset_bounds-doors-first : goal.inside_g-offset_bounds-doors-first
inside_g-offset_bounds-doors-first t c = let l = first_small c.requires.4 c.requires.0 c.requires.1 c.requires.3 in search rules

pub inside_g-bounds-doors-first : goal.inside_g-bounds-doors-first
inside_g-bounds-doors-first t c = let l = first_small c.requires.4 c.requires.0 c.requires.1 c.requires.3 in search rules

pub inside_g-overflow_cast-doors : goal.inside_g-overflow_cast-doors
inside_g-overflow_cast-doors t c = omega (arith, c.requires.0.inside, c.requires.0.shaped.small)

pub inside_g-overflow_add-doors : goal.inside_g-overflow_add-doors
inside_g-overflow_add-doors t c = omega (arith, c.requires.0.inside, c.requires.0.shaped.small)

pub inside_g-offset_bounds-doors-first-2 : goal.inside_g-offset_bounds-doors-first-2
inside_g-offset_bounds-doors-first-2 t c = let l = first_small c.requires.4 c.requires.0 c.requires.1 c.requires.3 in search rules

pub inside_g-bounds-doors-first-2 : goal.inside_g-bounds-doors-first-2
inside_g-bounds-doors-first-2 t c = let l = first_small c.requires.4 c.requires.0 c.requires.1 c.requires.3 in search rules

pub inside_g-within-below-requires : goal.inside_g-within-below-requires
inside_g-within-below-requires t c = (has_edition c.requires.0, omega (arith, c.requires.0.inside, c.requires.0.shaped.small))

pub inside_g-scope_s-b-requires : goal.inside_g-scope_s-b-requires
inside_g-scope_s-b-requires t c = let k = read c.requires.2 (group_kids c.args.p.now.now c.args.i c.requires.0 c.requires.1).0 in (omega (arith, k.less, c.decreases), (k.node, let own = at_inside c.requires.4 c.requires.0 c.requires.1 {v = c.args.i + 1} c.requires.3 (omega arith) c.within-below.ensures k.less in let all = at_all c.requires.4 c.requires.0 c.requires.1 {v = c.args.i + 1} c.requires.3 (omega arith) k.less in search rules))

pub inside_g-scope_b-r-requires : goal.inside_g-scope_b-r-requires
inside_g-scope_b-r-requires t c = let k = read c.requires.3 (group_kids c.args.p.now.now c.args.i c.requires.0 c.requires.1).1 in (omega (arith, k.less, c.decreases), (k.node, left_as (at_inside c.requires.4 c.requires.0 c.requires.1 c.requires.3 (omega arith) c.within-below.ensures k.less) c.scope_s-b.ensures.2))

pub inside_g-offset_bounds-doors-first-3 : goal.inside_g-offset_bounds-doors-first-3
inside_g-offset_bounds-doors-first-3 t c = let l = first_small c.requires.4 c.requires.0 c.requires.1 c.requires.3 in search rules

pub inside_g-bounds-doors-first-3 : goal.inside_g-bounds-doors-first-3
inside_g-bounds-doors-first-3 t c = let l = first_small c.requires.4 c.requires.0 c.requires.1 c.requires.3 in search rules

pub inside_g-returns : goal.inside_g-returns
inside_g-returns t c = (group_parts c.args.marks.now c.requires.4 c.requires.0 {v = c.args.i + 1} c.requires.1 c.requires.2 c.requires.3 (omega arith) c.scope_s-b.ensures.0 (search rules) c.scope_s-b.ensures.1 c.scope_s-b.ensures.2 c.scope_b-r.ensures.0 (search rules) c.sooner.ensures, c.scope_b-r.ensures.1 ∙ c.scope_s-b.ensures.1, ap (λ (l : List ℕ). set l c.args.first (get_or c.args.doors.now c.args.first 0)) (c.scope_b-r.ensures.2 ∙ c.scope_s-b.ensures.2) ∙ put_back _ _ _)

pub inside_s-scope_s-r-requires : goal.inside_s-scope_s-r-requires
inside_s-scope_s-r-requires t c = (omega (arith, c.decreases), (c.requires.0, c.requires.1))

pub inside_s-returns : goal.inside_s-returns
unfolding mark
inside_s-returns t c = (c.scope_s-r.ensures.0, ap (λ (l : List ℕ). set l c.args.i (get_or c.args.marks.now c.args.i 0)) c.scope_s-r.ensures.1 ∙ put_back _ _ 1, c.scope_s-r.ensures.2)

pub scope_b-node-n-requires : goal.scope_b-node-n-requires
scope_b-node-n-requires t c = let w = c.requires.0 in (omega (arith, w.inside, w.shaped.within), omega (arith, w.inside, w.shaped.small))

pub scope_b-inside_s-body-requires : goal.scope_b-inside_s-body-requires
scope_b-inside_s-body-requires t c = let k = read c.node-n.ensures.a_is (branch_kid c.args.p.now.now c.args.j c.requires.0) in (omega (arith, k.less, c.decreases), (k.node, at_part c.requires.1 k.less, omega (arith, c.requires.0.inside, c.requires.0.shaped.small)))

pub scope_b-returns-then-n-eq-LAST : goal.scope_b-returns-then-n-eq-LAST
scope_b-returns-then-n-eq-LAST t c = (last_branch_parts c.args.marks.now c.requires.1 c.requires.0 (sym c.node-n.ensures.b_is ∙ c.if-n-eq-LAST.true) c.node-n.ensures.a_is c.inside_s-body.ensures.0 no_place c.sooner.ensures, c.inside_s-body.ensures.1, c.inside_s-body.ensures.2)

pub scope_b-scope_b-rest-requires : goal.scope_b-scope_b-rest-requires
scope_b-scope_b-rest-requires t c = let k = read c.node-n.ensures.b_is (branch_next c.args.p.now.now c.args.j c.requires.0 (λ h. c.if-n-eq-LAST.false (c.node-n.ensures.b_is ∙ h))) in (omega (arith, k.less, c.decreases), (k.node, left_as (at_part c.requires.1 k.less) c.inside_s-body.ensures.2))

pub scope_b-returns : goal.scope_b-returns
scope_b-returns t c = (more_branch_parts c.args.marks.now c.requires.1 c.requires.0 (λ h. c.if-n-eq-LAST.false (c.node-n.ensures.b_is ∙ h)) c.node-n.ensures.a_is c.node-n.ensures.b_is c.inside_s-body.ensures.0 c.inside_s-body.ensures.1 c.inside_s-body.ensures.2 c.scope_b-rest.ensures.0 c.sooner-2.ensures, c.scope_b-rest.ensures.1 ∙ c.inside_s-body.ensures.1, c.scope_b-rest.ensures.2 ∙ c.inside_s-body.ensures.2)

pub scope_c-node-n-requires : goal.scope_c-node-n-requires
scope_c-node-n-requires t c = let w = c.requires.0 in (omega (arith, w.inside, w.shaped.within), omega (arith, w.inside, w.shaped.small))

pub scope_c-offered-requires : goal.scope_c-offered-requires
scope_c-offered-requires t c = (c.requires.0, c.requires.1)

pub scope_c-wrong_unless-here-requires : goal.scope_c-wrong_unless-here-requires
scope_c-wrong_unless-here-requires t c = omega (arith, c.requires.0.inside, c.requires.0.shaped.small)

pub scope_c-scope_s-event-requires : goal.scope_c-scope_s-event-requires
scope_c-scope_s-event-requires t c = let k = read c.node-n.ensures.a_is (case_kid c.args.p.now.now c.args.j c.requires.0) in (omega (arith, k.less, c.decreases), (k.node, at_end c.requires.1 k.less))

pub scope_c-returns-then-n-eq-LAST : goal.scope_c-returns-then-n-eq-LAST
scope_c-returns-then-n-eq-LAST t c = (last_case_parts c.args.marks.now c.requires.1 c.requires.0 c.node-n.ensures.a_is c.node-n.ensures.b_is c.node-n.ensures.c_is c.if-n-eq-LAST.true c.offered.ensures c.wrong_unless-here.ensures c.scope_s-event.ensures.0 no_place c.sooner.ensures c.sooner-then-n-eq-LAST.ensures, c.scope_s-event.ensures.1, c.scope_s-event.ensures.2)

pub scope_c-scope_c-rest-requires : goal.scope_c-scope_c-rest-requires
scope_c-scope_c-rest-requires t c = let k = read c.node-n.ensures.b_is (case_next c.args.p.now.now c.args.j c.requires.0 (λ h. c.if-n-eq-LAST.false (c.node-n.ensures.b_is ∙ h))) in (omega (arith, k.less, c.decreases), (k.node, left_as (at_part c.requires.1 k.less) c.scope_s-event.ensures.2))

pub scope_c-returns : goal.scope_c-returns
scope_c-returns t c = (more_case_parts c.args.marks.now c.requires.1 c.requires.0 c.node-n.ensures.a_is c.node-n.ensures.b_is c.node-n.ensures.c_is c.if-n-eq-LAST.false c.offered.ensures c.wrong_unless-here.ensures c.scope_s-event.ensures.0 c.scope_s-event.ensures.1 c.scope_s-event.ensures.2 c.scope_c-rest.ensures.0 c.sooner-2.ensures c.sooner-3.ensures, c.scope_c-rest.ensures.1 ∙ c.scope_s-event.ensures.1, c.scope_c-rest.ensures.2 ∙ c.scope_s-event.ensures.2)

pub scope_s-node-n-requires : goal.scope_s-node-n-requires
scope_s-node-n-requires t c = let w = c.requires.0 in (omega (arith, w.inside, w.shaped.within), omega (arith, w.inside, w.shaped.small))

pub scope_s-scope_e-requires : goal.scope_s-scope_e-requires
scope_s-scope_e-requires t c = let k = read c.node-n.ensures.a_is (ext_kid c.args.p.now.now c.args.i c.requires.0 (sym c.node-n.ensures.kind_is ∙ c.in-3.is)) in k.node

pub scope_s-scope_s-requires : goal.scope_s-scope_s-requires
scope_s-scope_s-requires t c = let k = read c.node-n.ensures.a_is (delay_kid c.args.p.now.now c.args.i c.requires.0 (sym c.node-n.ensures.kind_is ∙ c.in-4.is)) in (omega (arith, k.less, c.decreases), (k.node, let none = at_end c.requires.1 k.less in let above = at_part c.requires.1 k.less in search rules))

pub scope_s-inside_s-d-requires : goal.scope_s-inside_s-d-requires
scope_s-inside_s-d-requires t c = let k = read c.node-n.ensures.a_is (let_kids c.args.p.now.now c.args.i c.requires.0 (sym c.node-n.ensures.kind_is ∙ c.in-5.is)).0 in (omega (arith, k.less, c.decreases), (k.node, at_end c.requires.1 k.less, omega (arith, c.requires.0.inside, c.requires.0.shaped.small)))

pub scope_s-inside_s-b-requires : goal.scope_s-inside_s-b-requires
scope_s-inside_s-b-requires t c = let k = read c.node-n.ensures.b_is (let_kids c.args.p.now.now c.args.i c.requires.0 (sym c.node-n.ensures.kind_is ∙ c.in-5.is)).1 in (omega (arith, k.less, c.decreases), (k.node, left_as (at_part c.requires.1 k.less) c.inside_s-d.ensures.2, omega (arith, c.requires.0.inside, c.requires.0.shaped.small)))

pub scope_s-scope_s-x-requires : goal.scope_s-scope_s-x-requires
scope_s-scope_s-x-requires t c = let k = read c.node-n.ensures.a_is (switch_kids c.args.p.now.now c.args.i c.requires.0 (sym c.node-n.ensures.kind_is ∙ c.in-6.is)).0 in (omega (arith, k.less, c.decreases), (k.node, at_end c.requires.1 k.less))

pub scope_s-scope_s-e-requires : goal.scope_s-scope_s-e-requires
scope_s-scope_s-e-requires t c = let k = read c.node-n.ensures.b_is (switch_kids c.args.p.now.now c.args.i c.requires.0 (sym c.node-n.ensures.kind_is ∙ c.in-6.is)).1 in (omega (arith, k.less, c.decreases), (k.node, left_as (at_end c.requires.1 k.less) c.scope_s-x.ensures.2))

pub scope_s-inside_s-y-requires : goal.scope_s-inside_s-y-requires
scope_s-inside_s-y-requires t c = let k = read c.node-n.ensures.c_is (switch_kids c.args.p.now.now c.args.i c.requires.0 (sym c.node-n.ensures.kind_is ∙ c.in-6.is)).2 in (omega (arith, k.less, c.decreases), (k.node, left_as (at_end c.requires.1 k.less) (c.scope_s-e.ensures.2 ∙ c.scope_s-x.ensures.2), omega (arith, c.requires.0.inside, c.requires.0.shaped.small)))

pub scope_s-inside_g-requires : goal.scope_s-inside_g-requires
scope_s-inside_g-requires t c = (omega (arith, c.decreases), (c.requires.0, (sym c.node-n.ensures.kind_is ∙ c.in-7.is), c.node-n.ensures.a_is, c.node-n.ensures.b_is, c.requires.1))

pub scope_s-scope_s-s-requires : goal.scope_s-scope_s-s-requires
scope_s-scope_s-s-requires t c = let k = read c.node-n.ensures.a_is (until_kids c.args.p.now.now c.args.i c.requires.0 (sym c.node-n.ensures.kind_is ∙ c.in-8.is)).0 in (omega (arith, k.less, c.decreases), (k.node, at_end c.requires.1 k.less))

pub scope_s-scope_c-cases-requires : goal.scope_s-scope_c-cases-requires
scope_s-scope_c-cases-requires t c = let k = read c.node-n.ensures.b_is (until_kids c.args.p.now.now c.args.i c.requires.0 (sym c.node-n.ensures.kind_is ∙ c.in-8.is)).1 in (omega (arith, k.less, c.decreases), (k.node, left_as (at_part c.requires.1 k.less) c.scope_s-s.ensures.2))

pub scope_s-returns-in-3 : goal.scope_s-returns-in-3
scope_s-returns-in-3 t c = (ext_part c.args.marks.now c.requires.1 c.requires.0 (sym c.node-n.ensures.kind_is ∙ c.in-3.is) c.node-n.ensures.a_is c.scope_e.ensures.0, c.scope_e.ensures.1, refl)

pub scope_s-returns-in-4 : goal.scope_s-returns-in-4
scope_s-returns-in-4 t c = (delay_part c.args.marks.now c.requires.1 c.requires.0 (sym c.node-n.ensures.kind_is ∙ c.in-4.is) c.node-n.ensures.a_is c.scope_s.ensures.0, c.scope_s.ensures.1, c.scope_s.ensures.2)

pub scope_s-returns-in-5 : goal.scope_s-returns-in-5
scope_s-returns-in-5 t c = (let_parts c.args.marks.now c.requires.1 c.requires.0 (sym c.node-n.ensures.kind_is ∙ c.in-5.is) c.node-n.ensures.a_is c.node-n.ensures.b_is c.inside_s-d.ensures.0 c.inside_s-d.ensures.1 c.inside_s-d.ensures.2 c.inside_s-b.ensures.0 c.sooner.ensures, c.inside_s-b.ensures.1 ∙ c.inside_s-d.ensures.1, c.inside_s-b.ensures.2 ∙ c.inside_s-d.ensures.2)

pub scope_s-returns-in-6 : goal.scope_s-returns-in-6
scope_s-returns-in-6 t c = (switch_parts c.args.marks.now c.requires.1 c.requires.0 (sym c.node-n.ensures.kind_is ∙ c.in-6.is) c.node-n.ensures.a_is c.node-n.ensures.b_is c.node-n.ensures.c_is c.scope_s-x.ensures.0 c.scope_s-x.ensures.1 c.scope_s-x.ensures.2 c.scope_s-e.ensures.0 c.scope_s-e.ensures.1 c.scope_s-e.ensures.2 c.inside_s-y.ensures.0 c.sooner-in-6.ensures c.sooner-in-6-2.ensures, c.inside_s-y.ensures.1 ∙ c.scope_s-e.ensures.1 ∙ c.scope_s-x.ensures.1, c.inside_s-y.ensures.2 ∙ c.scope_s-e.ensures.2 ∙ c.scope_s-x.ensures.2)

pub scope_s-returns-in-7 : goal.scope_s-returns-in-7
scope_s-returns-in-7 t c = c.inside_g.ensures

pub scope_s-returns-in-8 : goal.scope_s-returns-in-8
scope_s-returns-in-8 t c = (until_parts c.args.marks.now c.requires.1 c.requires.0 (sym c.node-n.ensures.kind_is ∙ c.in-8.is) c.node-n.ensures.a_is c.node-n.ensures.b_is c.scope_s-s.ensures.0 c.scope_s-s.ensures.1 c.scope_s-s.ensures.2 c.scope_c-cases.ensures.0 c.sooner-in-8.ensures, c.scope_c-cases.ensures.1 ∙ c.scope_s-s.ensures.1, c.scope_c-cases.ensures.2 ∙ c.scope_s-s.ensures.2)

pub scope_s-returns-in_default : goal.scope_s-returns-in_default
scope_s-returns-in_default t c = (no_place ∙ sym (leaf_scope (edition c.args.p.now.now) c.args.p.now.now c.args.i c.requires.0 c.args.marks.now (offers_below c.args.p.now.now c.args.doors.now c.args.limit) c.node-n.ensures.kind_is c.in_default.in_default-own.rest), refl, refl)
