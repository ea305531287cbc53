-- The measure (μ) by which each update and walk of the cycle goes down in node numbers, its entry at a measure and below one, and the claims of what it calls. Assumes nothing.
use Prim.Native.Nat.{ℕ}
-- The needs of the update of a delay. In a need a are the arguments, h is what was required of the node, x the evaluation, r the update of the part. Assumes nothing.
use Rattle.moves.proofs.SmallLaws.{done_work, calm_work, delay_sum}
use Rattle.moves.proofs.ReadyLaws.{ready_again, delay_part, celled, cell_number}
use Rattle.evaluate.proofs.SignalLaws.{delay_cell}
use Rattle.update.proofs.Evaluable.{evaluable}
use Rattle.moves.proofs.KindLaws.{delay_stuck, delay_broken, delay_done}
use Rattle.moves.specs.Outcomes.{moved_in}
use Rattle.noted.specs.Noted.{memory_in}
use Rattle.outcomes.proofs.Outcomes.{shown_value, shown_exact, shown_stuck}
use Rattle.rules.specs.Work.{moved}
use Rattle.rules.specs.Tree.{signal_at}
use mathlib.Core.Path.{refl, sym, ◌∙◌}
use native.Mathlib.Omega.{arith}
use borrow.Author.Rules.{rules}
-- The needs of going to a node, of going inside a binding and of the update by a node's kind. In a need a are the arguments, h is what was required of the node, r the update. Assumes nothing.
use Rattle.moves.proofs.ReadyLaws.{ready_bound}
use Rattle.rules.proofs.PutBack.{put_back}
use Rattle.moves.proofs.KindLaws.{leaf_updates, low_updates}
use Rattle.rules.proofs.Signals.{until_left}
use Rattle.rules.specs.Evaluate.{bind}
use Rattle.recalled.specs.Recall.{recall_s}
use Rattle.rules.specs.Values.{unpacked}
use Rattle.outcomes.proofs.Outcomes.{bind_value}
use lib.ListN.{get_or, set}
use mathlib.Core.List.{List}
use mathlib.Core.Path.{ap}
-- The needs of the update of a group. In a need a are the arguments, h is what was required of the node, m the cell, d whether it has a branch, f the branch, r the update of the part. Assumes nothing.
use Rattle.moves.proofs.SmallLaws.{number_work, group_sum, branch_sum}
use Rattle.moves.proofs.ReadyLaws.{group_part, branch_node, branch_part, placed}
use Rattle.evaluate.proofs.SignalLaws.{group_cell}
use Rattle.moves.proofs.KindLaws.{group_first, group_branch, group_missing}
use Rattle.moves.specs.Outcomes.{count_in}
use Rattle.branches.proofs.ByTable.{group_first as list-first}
use Rattle.outcomes.specs.Outcome.{IsValue}
use Rattle.outcomes.proofs.Outcomes.{exact_value, exact_same}
use lib.ListN.{length}
use mathlib.Core.Path.{subst}
-- The needs of the update of a let. In a need a are the arguments, h is what was required of the node, r and q the updates of parts. Assumes nothing.
use Rattle.moves.proofs.SmallLaws.{let_sum}
use Rattle.moves.proofs.NumberLaws.{later_fits, later_by}
use Rattle.moves.proofs.ReadyLaws.{let_parts}
use Rattle.moves.proofs.KindLaws.{let_stuck, let_broken, let_done}
-- The needs of the update of a switch and of the part that it is in. In a need a are the arguments, h is what was required of the node, x the evaluation, m the cell, r and q the updates of parts. Assumes nothing.
use Rattle.moves.proofs.SmallLaws.{parts_work, switch_work, switch_sum}
use Rattle.moves.proofs.ReadyLaws.{as_again, switch_parts}
use Rattle.evaluate.proofs.SignalLaws.{switch_cell}
use Rattle.moves.proofs.KindLaws.{switch_wrong, switch_broken, switch_caught, switch_quiet, switch_first, switch_second}
use Rattle.outcomes.specs.Outcome.{outcome_in}
use Rattle.outcomes.proofs.Outcomes.{take_value, parts_with}
-- The needs of the update of an until. In a need a are the arguments, h is what was required of the node, o the walk, r the update of the part. Assumes nothing.
use Rattle.moves.proofs.SmallLaws.{walk_sum, until_sum}
use Rattle.moves.proofs.NumberLaws.{count_of}
use Rattle.moves.proofs.ReadyLaws.{until_parts}
use Rattle.moves.proofs.WalkLaws.{until_broken, until_still, walk_count, walk_still}
-- The needs of the walk over an until's cases. In a need a are the arguments, h is what was required of the case, x the evaluation, o the walk, r and q the updates of parts. Assumes nothing.
use Rattle.moves.proofs.SmallLaws.{event_sum, rest_sum}
use Rattle.moves.proofs.ReadyLaws.{walk_again, case_part, case_rest}
use Rattle.moves.proofs.WalkLaws.{walk_wrong, walk_took, walk_quiet, rest_work, last_on, broken_on, goes_on, walked_within, occurs_plain}
use Rattle.moves.specs.Outcomes.{walked}
use Rattle.rules.specs.Evaluate.{Env}
use Rattle.update.proofs.QuietLaws.{known_by, known_again}
use Rattle.update.proofs.PassLaws.{passes_from, passes_fit, walk_passed}
use Rattle.rules.specs.Tree.{cases_at}
-- The update of a signal, of each kind, and the walk over an until's cases, which call each other: each goes down in node numbers, and each need
-- is a law of the crate moves; the needs stand by member in the folder Proof. Assumes nothing.
use Rattle.update.proofs.+goes_in_switch_inside_update_delay_update_group_update_let_update_s_update_switch_update_until_walk_walk_case_walk_on.Goals as goal

pub update_delay-evaluated-e-requires : goal.update_delay-evaluated-e-requires
update_delay-evaluated-e-requires t c = let a = c.args in
    (evaluable a.st.now a.env.now (delay_part c.requires.0), c.requires.1)

pub update_delay-shape_of-st-in_default : goal.update_delay-shape_of-st-in_default
update_delay-shape_of-st-in_default t c = refl

pub update_delay-returns-in_default : goal.update_delay-returns-in_default
unfolding moved moved_in
update_delay-returns-in_default t c = let a = c.args in
    let h = c.requires.0 in
    let x = c.evaluated-e in
    let z = c.show in
    let e = shown_stuck x.result (sym z.ensures ∙ c.in_default.is) in
    (delay_stuck a.p.now.now a.i h.ready.node h.fields a.rec.now.now a.env.now a.st.now (memory_in a.memo.now) h.kind x.ensures.0 x.ensures.3.filled e, x.ensures.2, x.ensures.3.noted)

pub update_delay-goes-r-requires : goal.update_delay-goes-r-requires
update_delay-goes-r-requires t c = let h = c.requires.0 in
    let x = c.evaluated-e in
    let k = delay_part h in (
      omega (arith, k.less, c.decreases),
      (ready_again refl x.ensures.2 k.ready, x.ensures.3.noted),
    )

pub update_delay-shape_of-st-in_default-settled : goal.update_delay-shape_of-st-in_default-settled
update_delay-shape_of-st-in_default-settled t c = c.goes-r.auto.st

pub update_delay-returns-in_default-settled : goal.update_delay-returns-in_default-settled
unfolding moved moved_in
update_delay-returns-in_default-settled t c = let a = c.args in
    let h = c.requires.0 in
    let x = c.evaluated-e in
    let z = c.show in
    let r = c.goes-r in
    let w = c.settled in
    let e = shown_value x.result (sym z.ensures ∙ c.in-Some.is) in
    let k = sym w.ensures ∙ c.in_default-settled.is in (
      delay_broken a.p.now.now a.i h.ready.node h.fields a.rec.now.now a.env.now a.st.now (memory_in a.memo.now) h.kind x.ensures.0 x.ensures.3.filled e x.ensures.2
          (moved_in r.result) r.new.st r.ensures.0 k,
      r.ensures.1 ∙ x.ensures.2,
      r.ensures.2,
    )

pub update_delay-hold-requires : goal.update_delay-hold-requires
update_delay-hold-requires t c = let h = c.requires.0 in
    let r = c.goes-r in
    let x = c.evaluated-e in
    let z = c.show in (
      celled h.ready.node h.ready.lent.table (omega (arith, h.ready.lent.cells, r.auto.st)) (delay_cell h.kind),
      shown_exact x.result
          x.ensures.1 (sym z.ensures ∙ c.in-Some.is),
    )

pub update_delay-stayed-requires : goal.update_delay-stayed-requires
update_delay-stayed-requires t c = let a = c.args in
    let h = c.requires.0 in
    let x = c.evaluated-e in
    let z = c.show in
    let r = c.goes-r in
    let w = c.settled in
    let e = shown_value x.result (sym z.ensures
    ∙ c.in-Some.is) in
    let k = sym w.ensures ∙ c.in-Some-settled.is in
    delay_sum h (done_work a.rec.now.now a.st.now a.env.now (signal_at a.p.now.now a.n.a) x.ensures.0 e)
    (calm_work a.n.a (delay_part h).ready.node x.ensures.3.noted a.rec.now.now _ a.st.now r.result r.new.st r.ensures.0 k)

pub update_delay-shape_of-st : goal.update_delay-shape_of-st
update_delay-shape_of-st t c = c.hold.auto.st
    ∙ c.goes-r.auto.st

pub update_delay-returns : goal.update_delay-returns
update_delay-returns t c = let a = c.args in
    let h = c.requires.0 in
    let x = c.evaluated-e in
    let z = c.show in
    let r = c.goes-r in
    let w = c.settled in
    let e = shown_value x.result (sym z.ensures
    ∙ c.in-Some.is) in
    let k = sym w.ensures ∙ c.in-Some-settled.is in
    let i = cell_number h.ready.node h.ready.lent.table in (
      delay_done a.p.now.now a.i h.ready.node h.fields a.rec.now.now a.env.now a.st.now (memory_in a.memo.now) h.kind x.ensures.0 x.ensures.3.filled e x.ensures.2
          (moved_in r.result) r.new.st r.ensures.0 k c.hold.ensures i
          (c.stayed.ensures c.hold.new.st),
      r.ensures.1 ∙ x.ensures.2,
      r.ensures.2,
    )

pub goes-kind_by-kind-requires : goal.goes-kind_by-kind-requires
goes-kind_by-kind-requires t c = let h = c.requires.0 in (h.lent.table, h.node.shaped, h.node.inside)

pub goes-returns-then-kind-le3 : goal.goes-returns-then-kind-le3
goes-returns-then-kind-le3 t c = let a = c.args in
    let h = c.requires.0 in
    (low_updates a.p.now.now a.i h.node a.rec.now.now a.env.now a.st.now (memory_in a.memo.now) c.kind_by-kind.ensures c.if-kind-le3.true, refl, c.requires.1)

pub goes-update_s-requires : goal.goes-update_s-requires
goes-update_s-requires t c = (omega (arith, c.decreases), c.requires)

pub goes-shape_of-st : goal.goes-shape_of-st
goes-shape_of-st t c = c.update_s.auto.st

pub goes-returns : goal.goes-returns
goes-returns t c = c.update_s.ensures

pub inside-kind_by-requires : goal.inside-kind_by-requires
inside-kind_by-requires t c = let h = c.requires.0 in (h.lent.table, h.node.shaped, h.node.inside)

pub inside-returns-then-kind_by-le3 : goal.inside-returns-then-kind_by-le3
inside-returns-then-kind_by-le3 t c = let a = c.args in
    let h = c.requires in
    (low_updates a.p.now.now a.k h.0.node a.rec.now.now (bind a.env.now a.i (unpacked a.v)) a.st.now (memory_in a.memo.now) c.kind_by.ensures c.if-kind_by-le3.true, refl, h.3)

pub inside-bounds-env-i : goal.inside-bounds-env-i
inside-bounds-env-i t c = c.requires.1

pub inside-bounds-env-i-2 : goal.inside-bounds-env-i-2
inside-bounds-env-i-2 t c = c.requires.1

pub inside-update_s-r-requires : goal.inside-update_s-r-requires
inside-update_s-r-requires t c = let a = c.args in
    let h = c.requires in
    (omega (arith, c.decreases), (ready_bound a.i a.v h.2 h.0, h.3))

pub inside-bounds-env-i-3 : goal.inside-bounds-env-i-3
inside-bounds-env-i-3 t c = c.requires.1

pub inside-shape_of-st : goal.inside-shape_of-st
inside-shape_of-st t c = c.update_s-r.auto.st

pub inside-returns : goal.inside-returns
inside-returns t c = let a = c.args in
    let h = c.requires in
    let env = a.env.now in let i = a.i in let v = a.v in let r = c.update_s-r in (
      r.ensures.0 ∙ ap (λ (l : List ℕ). recall_s a.rec.now.now l (signal_at a.p.now.now a.k) a.st.now (memory_in a.memo.now)) (sym (bind_value env i v h.2)),
      ◌∙◌ {b = set (set env i v) i (get_or env i 0)} (ap (λ (l : List ℕ). set l i (get_or env i 0)) r.ensures.1) (put_back env i v),
      r.ensures.2,
    )

pub update_s-node_by-n-requires : goal.update_s-node_by-n-requires
update_s-node_by-n-requires t c = let h = c.requires.0 in (h.lent.table, h.node.shaped, h.node.inside)

pub update_s-update_let-requires : goal.update_s-update_let-requires
update_s-update_let-requires t c = let h = c.requires.0 in
    let f = c.node_by-n in (
      omega (arith, c.decreases),
      (record { ready = h; fields = f.ensures; kind = sym f.ensures.kind_is ∙ c.if-k-eq5.true }, c.requires.1),
    )

pub update_s-shape_of-st-then-k-eq5 : goal.update_s-shape_of-st-then-k-eq5
update_s-shape_of-st-then-k-eq5 t c = c.update_let.auto.st

pub update_s-returns-then-k-eq5 : goal.update_s-returns-then-k-eq5
update_s-returns-then-k-eq5 t c = c.update_let.ensures

pub update_s-update_delay-requires : goal.update_s-update_delay-requires
update_s-update_delay-requires t c = let h = c.requires.0 in
    let f = c.node_by-n in (
      omega (arith, c.decreases),
      (record { ready = h; fields = f.ensures; kind = sym f.ensures.kind_is ∙ c.if-k-eq4.true }, c.requires.1),
    )

pub update_s-shape_of-st-then-k-eq4 : goal.update_s-shape_of-st-then-k-eq4
update_s-shape_of-st-then-k-eq4 t c = c.update_delay.auto.st

pub update_s-returns-then-k-eq4 : goal.update_s-returns-then-k-eq4
update_s-returns-then-k-eq4 t c = c.update_delay.ensures

pub update_s-returns-then-k-le5 : goal.update_s-returns-then-k-le5
update_s-returns-then-k-le5 t c = let a = c.args in
    let h = c.requires.0 in
    (leaf_updates a.p.now.now a.i h.node a.rec.now.now a.env.now a.st.now (memory_in a.memo.now) c.node_by-n.ensures.kind_is c.if-k-le5.true c.if-k-eq5.false c.if-k-eq4.false, refl, c.requires.1)

pub update_s-update_switch-requires : goal.update_s-update_switch-requires
update_s-update_switch-requires t c = let h = c.requires.0 in
    let f = c.node_by-n in (
      omega (arith, c.decreases),
      (record { ready = h; fields = f.ensures; kind = sym f.ensures.kind_is ∙ c.in-6.is }, c.requires.1),
    )

pub update_s-update_group-requires : goal.update_s-update_group-requires
update_s-update_group-requires t c = let h = c.requires.0 in
    let f = c.node_by-n in (
      omega (arith, c.decreases),
      (record { ready = h; fields = f.ensures; kind = sym f.ensures.kind_is ∙ c.in-7.is }, c.requires.1),
    )

pub update_s-update_until-requires : goal.update_s-update_until-requires
update_s-update_until-requires t c = let h = c.requires.0 in
    let rest = c.in_default.in_default-own.rest in
    let f = c.node_by-n in (
      omega (arith, c.decreases),
      (record { ready = h; fields = f.ensures; kind = until_left _ _ h.node f.ensures.kind_is c.if-k-le5.false rest.0.1 rest.1 }, c.requires.1),
    )

pub update_s-shape_of-st-in-6 : goal.update_s-shape_of-st-in-6
update_s-shape_of-st-in-6 t c = c.update_switch.auto.st

pub update_s-returns-in-6 : goal.update_s-returns-in-6
update_s-returns-in-6 t c = c.update_switch.ensures

pub update_s-shape_of-st-in-7 : goal.update_s-shape_of-st-in-7
update_s-shape_of-st-in-7 t c = c.update_group.auto.st

pub update_s-returns-in-7 : goal.update_s-returns-in-7
update_s-returns-in-7 t c = c.update_group.ensures

pub update_s-shape_of-st-in_default : goal.update_s-shape_of-st-in_default
update_s-shape_of-st-in_default t c = c.update_until.auto.st

pub update_s-returns-in_default : goal.update_s-returns-in_default
update_s-returns-in_default t c = c.update_until.ensures

pub update_group-own_cell-m-requires : goal.update_group-own_cell-m-requires
update_group-own_cell-m-requires t c = let a = c.args in
    let h = c.requires.0 in
    let k = celled {s = length a.st.now} h.ready.node h.ready.lent.table (omega (arith, h.ready.lent.cells)) (group_cell h.kind) in
    (k.listed, k.room)

pub update_group-goes-r-requires : goal.update_group-goes-r-requires
update_group-goes-r-requires t c = let k = group_part c.requires.0 in
    (omega (arith, k.less, c.decreases), (k.ready, c.requires.1))

pub update_group-catches-requires : goal.update_group-catches-requires
update_group-catches-requires t c = let a = c.args in
    let h = c.requires.0 in
    let r = c.goes-r in (
      placed r.auto.st h,
      (group_part h).ready.node,
      group_sum h
          (number_work a.n.a (group_part h).ready.node c.requires.1 a.rec.now.now _ a.st.now r.result r.new.st r.ensures.0),
    )

pub update_group-shape_of-st-then-m-eq0 : goal.update_group-shape_of-st-then-m-eq0
update_group-shape_of-st-then-m-eq0 t c = c.catches.auto.st ∙ c.goes-r.auto.st

pub update_group-returns-then-m-eq0 : goal.update_group-returns-then-m-eq0
update_group-returns-then-m-eq0 t c = let a = c.args in
    let h = c.requires.0 in
    let m = c.own_cell-m in
    let r = c.goes-r in
    let i = cell_number h.ready.node h.ready.lent.table in (
      group_first a.p.now.now a.i h.ready.node h.fields a.rec.now.now a.env.now a.st.now (memory_in a.memo.now) m.ensures i h.kind
          c.if-m-eq0.true r.ensures.0 c.catches.ensures,
      r.ensures.1,
      r.ensures.2,
    )

pub update_group-has_branch-requires : goal.update_group-has_branch-requires
update_group-has_branch-requires t c = let n = c.requires.0 in list-first n.ready.lent.table n.ready.node n.kind n.fields.b_is

pub update_group-node_by-branch-requires : goal.update_group-node_by-branch-requires
update_group-node_by-branch-requires t c = let h = c.requires.0 in let k = branch_node h
    c.has_branch.ensures c.if-has_branch.true in (h.ready.lent.table, k.shaped, k.inside)

pub update_group-kind_by-requires : goal.update_group-kind_by-requires
update_group-kind_by-requires t c = let h = c.requires.0 in
    let d = c.has_branch in
    let f = c.node_by-branch in
    let k = (branch_part h d.ensures c.if-has_branch.true f.ensures).ready.node in (h.ready.lent.table, k.shaped, k.inside)

pub update_group-catches-requires-then-kind_by-le3 : goal.update_group-catches-requires-then-kind_by-le3
unfolding count_in
update_group-catches-requires-then-kind_by-le3 t c = let h = c.requires.0 in
    let d = c.has_branch in
    let f = c.node_by-branch in
    (placed refl h, (branch_part h d.ensures c.if-has_branch.true f.ensures).ready.node, omega arith)

pub update_group-shape_of-st-then-kind_by-le3 : goal.update_group-shape_of-st-then-kind_by-le3
update_group-shape_of-st-then-kind_by-le3 t c = c.catches-then-kind_by-le3.auto.st

pub update_group-returns-then-kind_by-le3 : goal.update_group-returns-then-kind_by-le3
update_group-returns-then-kind_by-le3 t c = let a = c.args in
    let h = c.requires.0 in
    let d = c.has_branch in
    let f = c.node_by-branch in
    let m = c.own_cell-m in
    let i = cell_number h.ready.node h.ready.lent.table in (
      group_branch a.p.now.now a.i h.ready.node h.fields a.rec.now.now a.env.now a.st.now (memory_in a.memo.now) m.ensures i h.kind
          c.if-m-eq0.false
          c.branch_in-which.ensures
          d.ensures
          c.if-has_branch.true
          refl f.ensures
          (low_updates a.p.now.now f.result.a (branch_part h d.ensures c.if-has_branch.true f.ensures).ready.node a.rec.now.now (bind a.env.now c.branch_in-which.result (unpacked m.result)) a.st.now (memory_in a.memo.now) c.kind_by.ensures c.if-kind_by-le3.true)
          c.catches-then-kind_by-le3.ensures,
      refl,
      c.requires.1,
    )

pub update_group-inside-r-requires : goal.update_group-inside-r-requires
update_group-inside-r-requires t c = let h = c.requires.0 in
    let d = c.has_branch in
    let f = c.node_by-branch in
    let m = c.own_cell-m in
    let k = branch_part h d.ensures c.if-has_branch.true f.ensures in let b = branch_node h d.ensures
    c.if-has_branch.true in (
      omega (arith, k.less, c.decreases),
      (k.ready, omega (arith, b.inside, b.shaped.small), subst IsValue (sym c.exactly.ensures) (exact_value m.result), c.requires.1),
    )

pub update_group-catches-requires-then-has_branch : goal.update_group-catches-requires-then-has_branch
update_group-catches-requires-then-has_branch t c = let a = c.args in
    let h = c.requires.0 in
    let d = c.has_branch in
    let f = c.node_by-branch in
    let r = c.inside-r in (
      placed r.auto.st h,
      (branch_part h d.ensures c.if-has_branch.true f.ensures).ready.node,
      branch_sum h d.ensures c.if-has_branch.true f.ensures
          (number_work f.result.a (branch_part h d.ensures c.if-has_branch.true f.ensures).ready.node c.requires.1 a.rec.now.now _ a.st.now r.result r.new.st r.ensures.0),
    )

pub update_group-shape_of-st-then-has_branch : goal.update_group-shape_of-st-then-has_branch
update_group-shape_of-st-then-has_branch t c = c.catches-then-has_branch.auto.st ∙ c.inside-r.auto.st

pub update_group-returns-then-has_branch : goal.update_group-returns-then-has_branch
update_group-returns-then-has_branch t c = let a = c.args in
    let h = c.requires.0 in
    let d = c.has_branch in
    let f = c.node_by-branch in
    let m = c.own_cell-m in
    let r = c.inside-r in
    let i = cell_number h.ready.node h.ready.lent.table in (
      group_branch a.p.now.now a.i h.ready.node h.fields a.rec.now.now a.env.now a.st.now (memory_in a.memo.now) m.ensures i h.kind
          c.if-m-eq0.false
          c.branch_in-which.ensures
          d.ensures
          c.if-has_branch.true
          (ap unpacked c.exactly.ensures ∙ exact_same m.result) f.ensures r.ensures.0
          c.catches-then-has_branch.ensures,
      r.ensures.1,
      r.ensures.2,
    )

pub update_group-shape_of-st : goal.update_group-shape_of-st
update_group-shape_of-st t c = refl

pub update_group-returns : goal.update_group-returns
unfolding moved moved_in
update_group-returns t c = let a = c.args in
    let h = c.requires.0 in
    let m = c.own_cell-m in
    let i = cell_number h.ready.node h.ready.lent.table in (
      group_missing a.p.now.now a.i h.ready.node h.fields a.rec.now.now a.env.now a.st.now (memory_in a.memo.now) m.ensures i h.kind
          c.if-m-eq0.false c.branch_in-which.ensures c.has_branch.ensures c.if-has_branch.false,
      refl,
      c.requires.1,
    )

pub update_let-bounds-memo-i : goal.update_let-bounds-memo-i
update_let-bounds-memo-i t c = let h = c.requires.0.ready.node in
    omega (arith, h.inside, h.shaped.small)

pub update_let-returns-in_default : goal.update_let-returns-in_default
unfolding moved moved_in memory_in
update_let-returns-in_default t c = let a = c.args in
    let h = c.requires.0 in
    let z = c.show in
    let e = shown_stuck (get_or a.memo.now a.i 0) (sym z.ensures ∙ c.in_default.is) in
    (let_stuck a.p.now.now a.i h.ready.node h.fields a.rec.now.now a.env.now a.st.now (memory_in a.memo.now) h.kind e, refl, c.requires.1)

pub update_let-inside-d-requires : goal.update_let-inside-d-requires
update_let-inside-d-requires t c = let a = c.args in
    let h = c.requires.0 in
    let z = c.show in
    let k = (let_parts h).0 in (
      omega (arith, k.less, c.decreases),
      (
        k.ready,
        omega (arith, h.ready.node.inside, h.ready.node.shaped.small),
        shown_exact (get_or a.memo.now a.i 0) (c.requires.1.outcomes a.i) (sym z.ensures ∙ c.in-Some.is),
        c.requires.1,
      ),
    )

pub update_let-shape_of-st-in_default-settled : goal.update_let-shape_of-st-in_default-settled
update_let-shape_of-st-in_default-settled t c = c.inside-d.auto.st

pub update_let-returns-in_default-settled : goal.update_let-returns-in_default-settled
unfolding moved moved_in memory_in
update_let-returns-in_default-settled t c = let a = c.args in
    let h = c.requires.0 in
    let z = c.show in
    let r = c.inside-d in
    let w = c.settled in
    let e = shown_value (get_or a.memo.now a.i 0) (sym z.ensures ∙ c.in-Some.is) in
    let k = sym w.ensures ∙ c.in_default-settled.is in (
      let_broken a.p.now.now a.i h.ready.node h.fields a.rec.now.now a.env.now a.st.now (memory_in a.memo.now) h.kind e
          (moved_in r.result) r.new.st r.ensures.0 k,
      r.ensures.1,
      r.ensures.2,
    )

pub update_let-together-t-requires : goal.update_let-together-t-requires
unfolding memory_in
update_let-together-t-requires t c = let a = c.args in
    let h = c.requires.0 in
    let z = c.show in
    let r = c.inside-d in
    let w = c.settled in
    let e = shown_value (get_or a.memo.now a.i 0) (sym z.ensures ∙ c.in-Some.is) in
    let k = sym w.ensures ∙ c.in-Some-settled.is in
    omega (arith, let_sum h c.requires.1 e a.rec.now.now _ a.st.now r.result r.new.st r.ensures.0 k {k = 0} (omega arith))

pub update_let-inside-b-requires : goal.update_let-inside-b-requires
update_let-inside-b-requires t c = let a = c.args in
    let h = c.requires.0 in
    let r = c.inside-d in
    let z = c.show in
    let k = (let_parts h).1 in (
      omega (arith, k.less, c.decreases),
      (
        ready_again r.auto.st r.ensures.1 k.ready,
        omega (arith, h.ready.node.inside, h.ready.node.shaped.small),
        shown_exact (get_or a.memo.now a.i 0) (c.requires.1.outcomes a.i) (sym z.ensures ∙ c.in-Some.is),
        r.ensures.2,
      ),
    )

pub update_let-after-requires : goal.update_let-after-requires
unfolding memory_in
update_let-after-requires t c = let a = c.args in
    let h = c.requires.0 in
    let z = c.show in
    let r = c.inside-d in
    let w = c.settled in
    let q = c.inside-b in
    let e = shown_value (get_or a.memo.now a.i 0) (sym z.ensures ∙ c.in-Some.is) in
    let k = sym w.ensures ∙ c.in-Some-settled.is in
    later_fits _ _ _ c.together-t.ensures (let_sum h c.requires.1 e a.rec.now.now _ a.st.now r.result r.new.st r.ensures.0 k
    (number_work a.n.b (let_parts h).1.ready.node r.ensures.2 a.rec.now.now _ r.new.st q.result q.new.st q.ensures.0))

pub update_let-shape_of-st : goal.update_let-shape_of-st
update_let-shape_of-st t c = c.inside-b.auto.st ∙ c.inside-d.auto.st

pub update_let-returns : goal.update_let-returns
unfolding memory_in
update_let-returns t c = let a = c.args in
    let h = c.requires.0 in
    let z = c.show in
    let r = c.inside-d in
    let w = c.settled in
    let q = c.inside-b in
    let e = shown_value (get_or a.memo.now a.i 0) (sym z.ensures ∙ c.in-Some.is) in
    let k = sym w.ensures ∙ c.in-Some-settled.is in (
      let_done a.p.now.now a.i h.ready.node h.fields a.rec.now.now a.env.now a.st.now (memory_in a.memo.now) h.kind e
          (moved_in r.result) r.new.st r.ensures.0 k r.ensures.1 q.ensures.0
          (c.after.ensures.0 q.new.st ∙ later_by _ _ q.result q.new.st c.together-t.ensures),
      q.ensures.1 ∙ r.ensures.1,
      q.ensures.2,
    )

pub in_switch-own_cell-m-requires : goal.in_switch-own_cell-m-requires
in_switch-own_cell-m-requires t c = let a = c.args in
    let h = c.requires.0 in
    let k = celled {s = length a.st.now} h.ready.node h.ready.lent.table (omega (arith, h.ready.lent.cells)) (switch_cell h.kind) in
    (k.listed, k.room)

pub in_switch-goes-requires : goal.in_switch-goes-requires
in_switch-goes-requires t c = let h = c.requires.0 in
    let k = switch_parts h in let first = k.0.ready in let second = k.2.ready in
    (omega (arith, k.0.less, k.2.less, c.decreases), (search rules, c.requires.1))

pub in_switch-shape_of-st-then-m-eq0 : goal.in_switch-shape_of-st-then-m-eq0
in_switch-shape_of-st-then-m-eq0 t c = c.goes.auto.st

pub in_switch-returns-then-m-eq0 : goal.in_switch-returns-then-m-eq0
in_switch-returns-then-m-eq0 t c = let a = c.args in
    let h = c.requires.0 in
    let m = c.own_cell-m in
    let r = c.goes in
    let i = cell_number h.ready.node h.ready.lent.table in (
      switch_first a.p.now.now a.i h.ready.node h.fields a.rec.now.now a.env.now a.st.now (memory_in a.memo.now) m.ensures i
          c.if-m-eq0.true r.ensures.0,
      r.ensures.1,
      r.ensures.2,
    )

pub in_switch-inside-requires : goal.in_switch-inside-requires
in_switch-inside-requires t c = let h = c.requires.0 in
    let m = c.own_cell-m in
    let k = (switch_parts h).2 in (
      omega (arith, k.less, c.decreases),
      (k.ready, omega (arith, h.ready.node.inside, h.ready.node.shaped.small), subst IsValue (sym c.exactly.ensures) (exact_value m.result), c.requires.1),
    )

pub in_switch-shape_of-st : goal.in_switch-shape_of-st
in_switch-shape_of-st t c = c.inside.auto.st

pub in_switch-returns : goal.in_switch-returns
in_switch-returns t c = let a = c.args in
    let h = c.requires.0 in
    let m = c.own_cell-m in
    let r = c.inside in
    let i = cell_number h.ready.node h.ready.lent.table in (
      switch_second a.p.now.now a.i h.ready.node h.fields a.rec.now.now a.env.now a.st.now (memory_in a.memo.now) m.ensures i
          c.if-m-eq0.false (ap unpacked c.exactly.ensures ∙ exact_same m.result)
          r.ensures.0,
      r.ensures.1,
      r.ensures.2,
    )

pub update_switch-evaluated-e-requires : goal.update_switch-evaluated-e-requires
update_switch-evaluated-e-requires t c = let a = c.args in
    (evaluable a.st.now a.env.now (switch_parts c.requires.0).1, c.requires.1)

pub update_switch-shape_of-st-in_default : goal.update_switch-shape_of-st-in_default
update_switch-shape_of-st-in_default t c = refl

pub update_switch-returns-in_default : goal.update_switch-returns-in_default
unfolding moved moved_in
update_switch-returns-in_default t c = let a = c.args in
    let h = c.requires.0 in
    let x = c.evaluated-e in
    let z = c.apart in (
      switch_wrong a.p.now.now a.i h.ready.node h.fields a.rec.now.now a.env.now a.st.now (memory_in a.memo.now) h.kind x.ensures.0 x.ensures.3.filled
          (sym z.ensures ∙ c.in_default.is),
      x.ensures.2,
      x.ensures.3.noted,
    )

pub update_switch-goes-r-requires : goal.update_switch-goes-r-requires
update_switch-goes-r-requires t c = let h = c.requires.0 in
    let x = c.evaluated-e in
    let k = (switch_parts h).1 in (
      omega (arith, k.less, c.decreases),
      (ready_again refl x.ensures.2 k.ready, x.ensures.3.noted),
    )

pub update_switch-shape_of-st-in_default-settled : goal.update_switch-shape_of-st-in_default-settled
update_switch-shape_of-st-in_default-settled t c = c.goes-r.auto.st

pub update_switch-returns-in_default-settled : goal.update_switch-returns-in_default-settled
unfolding moved moved_in
update_switch-returns-in_default-settled t c = let a = c.args in
    let h = c.requires.0 in
    let x = c.evaluated-e in
    let z = c.apart in
    let r = c.goes-r in
    let w = c.settled in
    let k = sym w.ensures ∙ c.in_default-settled.is in (
      switch_broken a.p.now.now a.i h.ready.node h.fields a.rec.now.now a.env.now a.st.now (memory_in a.memo.now) h.kind x.ensures.0 x.ensures.3.filled x.ensures.2
          (moved_in r.result) r.new.st r.ensures.0 (sym z.ensures ∙ c.in-Some.is) k,
      r.ensures.1 ∙ x.ensures.2,
      r.ensures.2,
    )

pub update_switch-in_switch-q-requires : goal.update_switch-in_switch-q-requires
update_switch-in_switch-q-requires t c = let h = c.requires.0 in
    let r = c.goes-r in (
      omega (
        arith,
        c.decreases,
      ),
      (as_again r.auto.st (r.ensures.1 ∙ c.evaluated-e.ensures.2) h, r.ensures.2),
    )

pub update_switch-later-requires : goal.update_switch-later-requires
update_switch-later-requires t c = let a = c.args in
    let h = c.requires.0 in
    let x = c.evaluated-e in
    let z = c.apart in
    let r = c.goes-r in
    let w = c.settled in
    let l = c.stay in
    let q = c.in_switch-q in
    let k = sym w.ensures ∙ c.in-Some-settled.is in
    switch_sum h (parts_work a.rec.now.now a.st.now a.env.now (signal_at a.p.now.now a.n.b) x.ensures.0 (sym z.ensures ∙ c.in-Some.is))
    (calm_work a.n.b (switch_parts h).1.ready.node x.ensures.3.noted a.rec.now.now _ a.st.now r.result r.new.st r.ensures.0 k)
    (omega (
      arith,
      l.ensures.1,
      (switch_work a.i h.ready.node h.kind r.ensures.2 a.rec.now.now _ r.new.st q.result q.new.st
          q.ensures.0),
    ))

pub update_switch-shape_of-st-in_default-event : goal.update_switch-shape_of-st-in_default-event
update_switch-shape_of-st-in_default-event t c = c.in_switch-q.auto.st
    ∙ c.goes-r.auto.st

pub update_switch-returns-in_default-event : goal.update_switch-returns-in_default-event
update_switch-returns-in_default-event t c = let a = c.args in
    let h = c.requires.0 in
    let x = c.evaluated-e in
    let r = c.goes-r in
    let z = c.apart in
    let w = c.settled in
    let q = c.in_switch-q in
    let l = c.stay in
    let e = parts_with (sym z.ensures ∙ c.in-Some.is) c.in_default-event.is in
    let k = sym w.ensures ∙ c.in-Some-settled.is in (
      switch_quiet a.p.now.now a.i h.ready.node h.fields a.rec.now.now a.env.now a.st.now (memory_in a.memo.now) h.kind x.ensures.0 x.ensures.3.filled x.ensures.2
          (moved_in r.result) r.new.st r.ensures.0 e k (r.ensures.1 ∙ x.ensures.2) q.ensures.0 (l.ensures.0 q.new.st)
          (c.later.ensures q.new.st),
      q.ensures.1 ∙ r.ensures.1 ∙ x.ensures.2,
      q.ensures.2,
    )

pub update_switch-switches-requires : goal.update_switch-switches-requires
update_switch-switches-requires t c = let h = c.requires.0 in
    let r = c.goes-r in
    let x = c.evaluated-e in
    let z = c.apart in
    (placed r.auto.st h, take_value (outcome_in x.result) (sym z.ensures ∙ c.in-Some.is) c.in-Some-event.is)

pub update_switch-stayed-requires : goal.update_switch-stayed-requires
update_switch-stayed-requires t c = let a = c.args in
    let h = c.requires.0 in
    let x = c.evaluated-e in
    let z = c.apart in
    let r = c.goes-r in
    let w = c.settled in
    let k = sym w.ensures ∙ c.in-Some-settled.is in
    omega (
      arith,
      switch_sum h {k = 0} (parts_work a.rec.now.now a.st.now a.env.now (signal_at a.p.now.now a.n.b) x.ensures.0
          (sym z.ensures ∙ c.in-Some.is)) (calm_work a.n.b (switch_parts h).1.ready.node x.ensures.3.noted a.rec.now.now _ a.st.now r.result r.new.st
          r.ensures.0 k) (omega arith),
    )

pub update_switch-shape_of-st : goal.update_switch-shape_of-st
update_switch-shape_of-st t c = c.switches.auto.st
    ∙ c.goes-r.auto.st

pub update_switch-returns : goal.update_switch-returns
update_switch-returns t c = let a = c.args in
    let h = c.requires.0 in
    let x = c.evaluated-e in
    let r = c.goes-r in
    let z = c.apart in
    let w = c.settled in
    let e = parts_with (sym z.ensures ∙ c.in-Some.is) c.in-Some-event.is in
    let k = sym w.ensures ∙ c.in-Some-settled.is in (
      switch_caught a.p.now.now a.i h.ready.node h.fields a.rec.now.now a.env.now a.st.now (memory_in a.memo.now) h.kind x.ensures.0 x.ensures.3.filled x.ensures.2
          (moved_in r.result) r.new.st r.ensures.0 e k c.switches.ensures
          (c.stayed.ensures c.switches.new.st),
      r.ensures.1 ∙ x.ensures.2,
      r.ensures.2,
    )

pub update_until-walk-o-requires : goal.update_until-walk-o-requires
update_until-walk-o-requires t c = let k = (until_parts c.requires.0).1 in (omega (arith, k.0, c.decreases), (k.1, c.requires.1))

pub update_until-ruled-requires : goal.update_until-ruled-requires
update_until-ruled-requires t c = let a = c.args in
    let h = c.requires.0 in
    let o = c.walk-o in
    walk_sum h (omega (
      arith,
      count_of o.result,
      walk_count a.n.b (until_parts h).1.1.node c.requires.1 a.rec.now.now a.env.now a.st.now (moved_in o.result) o.new.st o.ensures.0,
    ))

pub update_until-shape_of-st-in_default : goal.update_until-shape_of-st-in_default
update_until-shape_of-st-in_default t c = c.walk-o.auto.st

pub update_until-returns-in_default : goal.update_until-returns-in_default
update_until-returns-in_default t c = let a = c.args in
    let h = c.requires.0 in
    let o = c.walk-o in
    let w = c.settled in
    let k = sym w.ensures ∙ c.in_default.is in (
      until_broken a.p.now.now a.i h.ready.node h.fields h.kind a.rec.now.now a.env.now a.st.now (memory_in a.memo.now) (moved_in o.result)
          o.new.st o.ensures.0 k (c.ruled.ensures o.new.st),
      o.ensures.1,
      o.ensures.2,
    )

pub update_until-goes-r-requires : goal.update_until-goes-r-requires
update_until-goes-r-requires t c = let h = c.requires.0 in
    let o = c.walk-o in
    let k = (until_parts h).0 in (
      omega (arith, k.less, c.decreases),
      (ready_again o.auto.st o.ensures.1 k.ready, o.ensures.2),
    )

pub update_until-after-requires : goal.update_until-after-requires
update_until-after-requires t c = let a = c.args in
    let h = c.requires.0 in
    let l = c.stay in
    let o = c.walk-o in
    let w = c.settled in
    let r = c.goes-r in
    let k = sym w.ensures ∙ c.in-Some.is in
    omega (
      arith,
      l.ensures.1,
      until_sum h (walk_still a.n.b (until_parts h).1.1.node c.requires.1 a.rec.now.now a.env.now a.st.now (moved_in o.result) o.new.st o.ensures.0 k)
          (number_work a.n.a (until_parts h).0.ready.node o.ensures.2 a.rec.now.now _ o.new.st r.result r.new.st r.ensures.0),
    )

pub update_until-ruled-requires-2 : goal.update_until-ruled-requires-2
update_until-ruled-requires-2 t c = let a = c.args in
    let h = c.requires.0 in
    let l = c.stay in
    let o = c.walk-o in
    let w = c.settled in
    let r = c.goes-r in
    let k = sym w.ensures ∙ c.in-Some.is in
    omega (
      arith,
      c.after.ensures.1,
      l.ensures.1,
      until_sum h
          (walk_still a.n.b (until_parts h).1.1.node c.requires.1 a.rec.now.now a.env.now a.st.now (moved_in o.result) o.new.st o.ensures.0 k)
          (number_work a.n.a (until_parts h).0.ready.node o.ensures.2 a.rec.now.now _ o.new.st r.result r.new.st r.ensures.0),
    )

pub update_until-shape_of-st : goal.update_until-shape_of-st
update_until-shape_of-st t c = c.goes-r.auto.st
    ∙ c.walk-o.auto.st

pub update_until-returns : goal.update_until-returns
update_until-returns t c = let a = c.args in
    let h = c.requires.0 in
    let o = c.walk-o in
    let w = c.settled in
    let r = c.goes-r in
    let l = c.stay in
    let k = sym w.ensures ∙ c.in-Some.is in (
      until_still a.p.now.now a.i h.ready.node h.fields h.kind a.rec.now.now a.env.now a.st.now (memory_in a.memo.now) (moved_in o.result)
          o.new.st o.ensures.0 k o.ensures.1 (moved_in r.result) r.new.st r.ensures.0 (l.ensures.0 r.new.st)
          (c.after.ensures.0 r.new.st) (c.ruled-2.ensures r.new.st),
      r.ensures.1 ∙ o.ensures.1,
      r.ensures.2,
    )

pub walk-pass-reached-requires : goal.walk-pass-reached-requires
walk-pass-reached-requires t c = c.requires.0

pub walk-walk_case-o-requires : goal.walk-walk_case-o-requires
walk-walk_case-o-requires t c = let a = c.args in
    let h = c.requires.0 in
    let y = c.pass-reached in
    let s = passes_from a.rec.now.now a.st.now h y.ensures.0 in
    (omega (arith, s.down, c.decreases), (walk_again refl y.ensures.1 s.ready, c.requires.1, known_again y.ensures.1 y.ensures.2))

pub walk-added-requires : goal.walk-added-requires
walk-added-requires t c = let a = c.args in
    let h = c.requires.0 in
    let y = c.pass-reached in
    let o = c.walk_case-o in
    passes_fit h (passes_from a.rec.now.now a.st.now h y.ensures.0) c.requires.1 o.result o.new.st
    (o.ensures.0 ∙ ap (λ (e : Env). walked a.rec.now.now e (cases_at a.p.now.now y.result.passed.at) a.st.now (memory_in a.memo.now)) y.ensures.1)

pub walk-shape_of-st : goal.walk-shape_of-st
walk-shape_of-st t c = c.walk_case-o.auto.st

pub walk-returns : goal.walk-returns
walk-returns t c = let a = c.args in
    let h = c.requires.0 in
    let y = c.pass-reached in
    let o = c.walk_case-o in
    let s = passes_from a.rec.now.now a.st.now h y.ensures.0 in
    let m = memory_in a.memo.now in (
      walk_passed a.rec.now.now a.st.now s m y.ensures.1 o.ensures.0 (c.added.ensures o.new.st),
      o.ensures.1 ∙ y.ensures.1,
      o.ensures.2,
    )

pub walk_case-node_by-n-requires : goal.walk_case-node_by-n-requires
walk_case-node_by-n-requires t c = let h = c.requires.0 in (h.lent.table, h.node.shaped, h.node.inside)

pub walk_case-event_of-e-requires : goal.walk_case-event_of-e-requires
walk_case-event_of-e-requires t c = let a = c.args in
    let h = c.requires.0 in
    let f = c.node_by-n in
    (evaluable a.st.now a.env.now (case_part (record { ready = h; fields = f.ensures })), c.requires.1, known_by f.ensures.a_is c.requires.2)

pub walk_case-shape_of-st-in_default : goal.walk_case-shape_of-st-in_default
walk_case-shape_of-st-in_default t c = refl

pub walk_case-returns-in_default : goal.walk_case-returns-in_default
unfolding moved moved_in
walk_case-returns-in_default t c = let a = c.args in
    let h = c.requires.0 in
    let f = c.node_by-n in
    let x = c.event_of-e in
    let z = c.apart in (
      walk_wrong a.p.now.now a.j h.node f.ensures a.rec.now.now a.env.now a.st.now (memory_in a.memo.now) x.ensures.0 x.ensures.3.filled
          (sym z.ensures ∙ c.in_default.is),
      x.ensures.2,
      x.ensures.3.noted,
    )

pub walk_case-walk_on-rest-requires : goal.walk_case-walk_on-rest-requires
walk_case-walk_on-rest-requires t c = let h = c.requires.0 in
    let x = c.event_of-e in (
      omega (arith, c.decreases),
      (record { ready = walk_again refl x.ensures.2 h; fields = c.node_by-n.ensures }, x.ensures.3.noted),
    )

pub walk_case-after-requires : goal.walk_case-after-requires
walk_case-after-requires t c = let a = c.args in
    let h = c.requires.0 in
    let o = c.walk_on-rest in
    let f = c.node_by-n in
    let x = c.event_of-e in
    let z = c.apart in
    let e = parts_with (sym z.ensures ∙ c.in-Some.is) c.in_default-event.is in
    omega (
      arith,
      h.small,
      count_of o.result,
      rest_work a.p.now.now a.j h.node f.ensures a.rec.now.now a.env.now a.st.now (memory_in a.memo.now) x.ensures.0 x.ensures.3.filled e x.ensures.2 (moved_in o.result) o.new.st o.ensures.0
          (walked_within a.j h.node c.requires.1 a.rec.now.now a.env.now a.st.now)
          (event_sum {n = f.result} (record { ready = h; fields = f.ensures })
          (parts_work a.rec.now.now a.st.now a.env.now (signal_at a.p.now.now f.result.a) x.ensures.0 (sym z.ensures ∙ c.in-Some.is))),
    )

pub walk_case-shape_of-st-in_default-event : goal.walk_case-shape_of-st-in_default-event
walk_case-shape_of-st-in_default-event t c = c.walk_on-rest.auto.st

pub walk_case-returns-in_default-event : goal.walk_case-returns-in_default-event
walk_case-returns-in_default-event t c = let a = c.args in
    let h = c.requires.0 in
    let f = c.node_by-n in
    let x = c.event_of-e in
    let z = c.apart in
    let o = c.walk_on-rest in
    let e = parts_with (sym z.ensures ∙ c.in-Some.is) c.in_default-event.is in (
      walk_quiet a.p.now.now a.j h.node f.ensures a.rec.now.now a.env.now a.st.now (memory_in a.memo.now) x.ensures.0 x.ensures.3.filled e x.ensures.2 (moved_in o.result)
          o.new.st o.ensures.0 (c.after.ensures.0 o.new.st),
      o.ensures.1 ∙ x.ensures.2,
      o.ensures.2,
    )

pub walk_case-jump-requires : goal.walk_case-jump-requires
walk_case-jump-requires t c = let a = c.args in
    let h = c.requires.0 in
    let x = c.event_of-e in
    let z = c.apart in
    let f = c.node_by-n in
    let e = parts_with (sym z.ensures ∙ c.in-Some.is) c.in-Some-event.is in
    let k = occurs_plain (outcome_in x.result) e in (
      k.0,
      k.1,
      omega (
        arith,
        h.small,
        (event_sum {n = f.result} (record { ready = h; fields = f.ensures })
            (parts_work a.rec.now.now a.st.now a.env.now (signal_at a.p.now.now f.result.a) x.ensures.0 (sym z.ensures ∙ c.in-Some.is))),
      ),
    )

pub walk_case-shape_of-st : goal.walk_case-shape_of-st
walk_case-shape_of-st t c = refl

pub walk_case-returns : goal.walk_case-returns
walk_case-returns t c = let a = c.args in
    let h = c.requires.0 in
    let f = c.node_by-n in
    let x = c.event_of-e in
    let z = c.apart in
    let e = parts_with (sym z.ensures ∙ c.in-Some.is) c.in-Some-event.is in (
      walk_took a.p.now.now a.j h.node f.ensures a.rec.now.now a.env.now a.st.now (memory_in a.memo.now) x.ensures.0 x.ensures.3.filled e (c.jump.ensures a.st.now),
      x.ensures.2,
      x.ensures.3.noted,
    )

pub walk_on-goes-last-requires : goal.walk_on-goes-last-requires
walk_on-goes-last-requires t c = let k = case_part c.requires.0 in (omega (arith, k.less, c.decreases), (k.ready, c.requires.1))

pub walk_on-shape_of-st-then-n-eq-LAST : goal.walk_on-shape_of-st-then-n-eq-LAST
walk_on-shape_of-st-then-n-eq-LAST t c = c.goes-last.auto.st

pub walk_on-returns-then-n-eq-LAST : goal.walk_on-returns-then-n-eq-LAST
walk_on-returns-then-n-eq-LAST t c = let a = c.args in
    let h = c.requires.0 in
    let r = c.goes-last in
    let l = c.stay in (
      last_on a.p.now.now a.j h.ready.node h.fields a.rec.now.now a.env.now a.st.now (memory_in a.memo.now)
          c.if-n-eq-LAST.true (moved_in r.result) r.new.st r.ensures.0
          (l.ensures.0 r.new.st),
      r.ensures.1,
      r.ensures.2,
    )

pub walk_on-walk-rest-requires : goal.walk_on-walk-rest-requires
walk_on-walk-rest-requires t c = let k = case_rest c.requires.0 c.if-n-eq-LAST.false in
    (omega (arith, k.0, c.decreases), (k.1, c.requires.1))

pub walk_on-shape_of-st-in_default : goal.walk_on-shape_of-st-in_default
walk_on-shape_of-st-in_default t c = c.walk-rest.auto.st

pub walk_on-returns-in_default : goal.walk_on-returns-in_default
walk_on-returns-in_default t c = let a = c.args in
    let h = c.requires.0 in
    let o = c.walk-rest in
    let w = c.settled in
    let k = sym w.ensures ∙ c.in_default.is in (
      broken_on a.p.now.now a.j h.ready.node h.fields a.rec.now.now a.env.now a.st.now (memory_in a.memo.now)
          c.if-n-eq-LAST.false (moved_in o.result) o.new.st o.ensures.0 k,
      o.ensures.1,
      o.ensures.2,
    )

pub walk_on-goes-r-requires : goal.walk_on-goes-r-requires
walk_on-goes-r-requires t c = let h = c.requires.0 in
    let o = c.walk-rest in
    let k = case_part h in (
      omega (arith, k.less, c.decreases),
      (ready_again o.auto.st o.ensures.1 k.ready, o.ensures.2),
    )

pub walk_on-after-requires : goal.walk_on-after-requires
walk_on-after-requires t c = let a = c.args in
    let h = c.requires.0 in
    let l = c.stay-2 in
    let o = c.walk-rest in
    let w = c.settled in
    let q = c.goes-r in
    let k = sym w.ensures ∙ c.in-Some.is in
    omega (
      arith,
      l.ensures.1,
      rest_sum h
          c.if-n-eq-LAST.false
          (walk_still a.n.b (case_rest h c.if-n-eq-LAST.false).1.node c.requires.1 a.rec.now.now a.env.now a.st.now (moved_in o.result) o.new.st o.ensures.0 k)
          (number_work a.n.a (case_part h).ready.node o.ensures.2 a.rec.now.now _ o.new.st q.result q.new.st q.ensures.0),
    )

pub walk_on-shape_of-st : goal.walk_on-shape_of-st
walk_on-shape_of-st t c = c.goes-r.auto.st
    ∙ c.walk-rest.auto.st

pub walk_on-returns : goal.walk_on-returns
walk_on-returns t c = let a = c.args in
    let h = c.requires.0 in
    let o = c.walk-rest in
    let w = c.settled in
    let q = c.goes-r in
    let l = c.stay-2 in
    let k = sym w.ensures ∙ c.in-Some.is in (
      goes_on a.p.now.now a.j h.ready.node h.fields a.rec.now.now a.env.now a.st.now (memory_in a.memo.now)
          c.if-n-eq-LAST.false
          (moved_in o.result) o.new.st o.ensures.0 k o.ensures.1 (moved_in q.result) q.new.st q.ensures.0
          (l.ensures.0 q.new.st) (c.after.ensures.0 q.new.st),
      q.ensures.1 ∙ o.ensures.1,
      q.ensures.2,
    )
