use Rattle.rules.proofs.PutBack.{put_back}
use Rattle.evaluate.proofs.SignalLaws.{read_s, part_work_s, own_work, let_work, let_pair, ext_part, let_parts, switch_parts, group_part, branch_part, until_part, until_alone, cell_in, held_work, switch_cell, group_cell, ext_said, until_said, ruled_part, let_goes, let_stuck, bound_goes, delay_eval, switch_first, switch_second, group_body, group_branch, group_stuck}
use Rattle.rules.specs.Work.{rule}
use Rattle.rules.specs.Bytes.{◌or◌}
use Rattle.rules.specs.Layout.{has_cell}
use Rattle.evaluate.proofs.ExprLaws.{read as read-e, part_work}
use Rattle.outcomes.specs.Outcome.{IsValue, Slots}
use Rattle.outcomes.proofs.Outcomes.{shown_value, shown_exact, shown_work, shown_stuck, slots_set, bind_value, exact_value, exact_same}
use Rattle.outcomes.proofs.Counted.{gives_stuck}
use Rattle.rules.specs.Values.{unpacked}
use Rattle.rules.specs.Tree.{signal_at}
use Rattle.recalled.specs.Recall.{fill_s}
use Rattle.noted.proofs.FillLaws.{notes_none, notes_part, noted_set, few_fills, ext_fills, delay_fills, until_fills, let_notes, let_noted_stuck, switch_first_fills, switch_second_fills, group_body_fills, group_branch_fills, group_stuck_fills}
use Rattle.branches.proofs.ByTable.{group_first}
use Rattle.rules.specs.Evaluate.{eval_s}
use lib.ListN.{set, get_or}
use mathlib.Core.List.{List}
use mathlib.Core.Path.{refl, sym, ap, ◌∙◌, subst}
use borrow.Author.Rules.{rules}
use native.Mathlib.Omega.{arith}
use Prim.Native.Nat.{ℕ, ◌≤◌}
use Rattle.evaluate.proofs.+eval_s_inside_s_part_through.Goals as goal

pub eval_s-node_by-n-requires : goal.eval_s-node_by-n-requires
eval_s-node_by-n-requires t c = let ready = c.requires.0 in (ready.indexed, ready.node.shaped, ready.node.inside)

pub eval_s-at_once-requires : goal.eval_s-at_once-requires
eval_s-at_once-requires t c = (c.requires.0, subst (λ (k : ℕ). k ≤ 4) c.node_by-n.ensures.kind_is c.if-k-le4.true)

pub eval_s-returns-then-k-le4 : goal.eval_s-returns-then-k-le4
eval_s-returns-then-k-le4 t c = let p = c.args.p.now.now in
    let i = c.args.i in
    let few = subst (λ (k : ℕ). k ≤ 4) c.node_by-n.ensures.kind_is c.if-k-le4.true in
    (c.at_once.ensures.0, c.at_once.ensures.1, c.at_once.ensures.2, notes_none c.requires.1 (few_fills p i c.requires.0.node c.args.rec.now.now c.args.st.now.now c.args.env.now few))

pub eval_s-part-d-requires : goal.eval_s-part-d-requires
eval_s-part-d-requires t c = let p = c.args.p.now.now in
    let i = c.args.i in
    let w = c.requires.0.node in
    let small = c.requires.0.small in
    let node = c.node_by-n.ensures in
    let k = read_s node.a_is (let_parts p i w small (sym node.kind_is ∙ c.in-5.is)).0 in
    (omega (arith, k.less, c.decreases), (record { node = k.node; indexed = c.requires.0.indexed; state = c.requires.0.state; slots = c.requires.0.slots; small = k.small }, c.requires.1))

pub eval_s-bounds-memo-i : goal.eval_s-bounds-memo-i
eval_s-bounds-memo-i t c = let w = c.requires.0.node in omega (arith, w.inside, w.shaped.small)

pub eval_s-returns-in_default-show : goal.eval_s-returns-in_default-show
eval_s-returns-in_default-show t c = let p = c.args.p.now.now in
    let i = c.args.i in
    let w = c.requires.0.node in
    let env = c.args.env.now in
    let rec = c.args.rec.now.now in
    let st = c.args.st.now.now in
    let node = c.node_by-n.ensures in
    let g = gives_stuck (let_stuck p i w rec st env (sym node.kind_is ∙ c.in-5.is) node.a_is c.part-d.ensures.0 (shown_stuck c.part-d.result (sym c.show.ensures ∙ c.in_default-show.is))) in
    (g.0, g.1, c.part-d.ensures.2, let_noted_stuck p i w rec st env (sym node.kind_is ∙ c.in-5.is) c.part-d.result node.a_is c.part-d.ensures.0 (shown_stuck c.part-d.result (sym c.show.ensures ∙ c.in_default-show.is)) (omega (arith, w.inside, w.shaped.small)) c.part-d.ensures.1 c.part-d.ensures.3)

pub eval_s-inside_s-requires : goal.eval_s-inside_s-requires
eval_s-inside_s-requires t c = let p = c.args.p.now.now in
    let i = c.args.i in
    let w = c.requires.0.node in
    let small = c.requires.0.small in
    let node = c.node_by-n.ensures in
    let env = c.args.env.now in
    let rec = c.args.rec.now.now in
    let st = c.args.st.now.now in
    let k = read_s node.b_is (let_parts p i w small (sym node.kind_is ∙ c.in-5.is)).1 in
    (omega (arith, k.less, c.decreases), (record { node = k.node; indexed = c.requires.0.indexed; state = c.requires.0.state; slots = subst Slots (sym c.part-d.ensures.2) c.requires.0.slots; small = k.small }, omega (arith, w.inside, w.shaped.small), shown_exact c.part-d.result c.part-d.ensures.1 (sym c.show.ensures ∙ c.in-Some.is), noted_set i c.part-d.result rec st env w c.part-d.ensures.3.noted c.part-d.ensures.1 (c.part-d.ensures.0 ∙ ap (λ (a : ℕ). eval_s rec st env (signal_at p a)) node.a_is) (omega (arith, w.inside, w.shaped.small))))

pub eval_s-later-requires : goal.eval_s-later-requires
eval_s-later-requires t c = let p = c.args.p.now.now in
    let i = c.args.i in
    let w = c.requires.0.node in
    let small = c.requires.0.small in
    let node = c.node_by-n.ensures in
    (c.inside_s.ensures.1, omega (arith, shown_work c.part-d.result (sym c.show.ensures ∙ c.in-Some.is), let_work p c.node_by-n.result.a c.node_by-n.result.b _ _ _ _ (let_pair p i w small (sym node.kind_is ∙ c.in-5.is) node.a_is node.b_is) c.part-d.ensures.0 c.inside_s.ensures.0))

pub eval_s-own_cell-m-requires : goal.eval_s-own_cell-m-requires
eval_s-own_cell-m-requires t c = let p = c.args.p.now.now in
    let i = c.args.i in
    let w = c.requires.0.node in
    let st = c.args.st.now.now in
    let node = c.node_by-n.ensures in
    cell_in p i w c.args.ix.now c.requires.0.indexed st c.requires.0.state (switch_cell (sym node.kind_is ∙ c.in-6.is))

pub eval_s-eval_s-requires : goal.eval_s-eval_s-requires
eval_s-eval_s-requires t c = let p = c.args.p.now.now in
    let i = c.args.i in
    let w = c.requires.0.node in
    let small = c.requires.0.small in
    let node = c.node_by-n.ensures in
    let k = read_s node.a_is (switch_parts p i w small (sym node.kind_is ∙ c.in-6.is)).0 in
    (omega (arith, k.less, c.decreases), (record { node = k.node; indexed = c.requires.0.indexed; state = c.requires.0.state; slots = c.requires.0.slots; small = k.small }, c.requires.1))

pub eval_s-ruled-requires : goal.eval_s-ruled-requires
eval_s-ruled-requires t c = let p = c.args.p.now.now in
    let i = c.args.i in
    let w = c.requires.0.node in
    let small = c.requires.0.small in
    let node = c.node_by-n.ensures in
    (c.eval_s.ensures.1, (part_work_s _ _ _ (read_s node.a_is (switch_parts p i w small (sym node.kind_is ∙ c.in-6.is)).0) c.eval_s.ensures.0))

pub eval_s-returns-then-m-eq0 : goal.eval_s-returns-then-m-eq0
eval_s-returns-then-m-eq0 t c = let p = c.args.p.now.now in
    let i = c.args.i in
    let w = c.requires.0.node in
    let env = c.args.env.now in
    let rec = c.args.rec.now.now in
    let st = c.args.st.now.now in
    let node = c.node_by-n.ensures in
    (ruled_part p rec st env node.a_is c.eval_s.ensures.0 c.ruled.ensures.0 ∙ sym (switch_first p i w rec st env c.own_cell-m.ensures (c.requires.0.indexed.numbers i c.requires.0.node) (sym node.kind_is ∙ c.in-6.is) c.if-m-eq0.true), c.ruled.ensures.1, c.eval_s.ensures.2, notes_part c.eval_s.ensures.3 (switch_first_fills p i w rec st env c.own_cell-m.ensures (c.requires.0.indexed.numbers i w) (sym node.kind_is ∙ c.in-6.is) c.if-m-eq0.true node.a_is))

pub eval_s-inside_s-requires-in-6 : goal.eval_s-inside_s-requires-in-6
eval_s-inside_s-requires-in-6 t c = let p = c.args.p.now.now in
    let i = c.args.i in
    let w = c.requires.0.node in
    let small = c.requires.0.small in
    let node = c.node_by-n.ensures in
    let parts = switch_parts p i w small (sym node.kind_is ∙ c.in-6.is) in
    let first = read_s node.a_is parts.0 in
    let second = read_s node.c_is parts.1 in
    (omega (arith, first.less, second.less, c.decreases), (record { node = search rules; indexed = c.requires.0.indexed; state = c.requires.0.state; slots = c.requires.0.slots; small = search rules }, omega (arith, w.inside, w.shaped.small), subst IsValue (sym c.exactly.ensures) (exact_value _), c.requires.1))

pub eval_s-ruled-requires-in-6 : goal.eval_s-ruled-requires-in-6
eval_s-ruled-requires-in-6 t c = let p = c.args.p.now.now in
    let i = c.args.i in
    let w = c.requires.0.node in
    let small = c.requires.0.small in
    let node = c.node_by-n.ensures in
    let parts = switch_parts p i w small (sym node.kind_is ∙ c.in-6.is) in
    let first = read_s node.a_is parts.0 in
    let second = read_s node.c_is parts.1 in
    (c.inside_s-in-6.ensures.1, (part_work_s {n = i} _ _ _ (search rules) c.inside_s-in-6.ensures.0))

pub eval_s-own_cell-m-requires-in-7 : goal.eval_s-own_cell-m-requires-in-7
eval_s-own_cell-m-requires-in-7 t c = let p = c.args.p.now.now in
    let i = c.args.i in
    let w = c.requires.0.node in
    let st = c.args.st.now.now in
    let node = c.node_by-n.ensures in
    cell_in p i w c.args.ix.now c.requires.0.indexed st c.requires.0.state (group_cell (sym node.kind_is ∙ c.in-7.is))

pub eval_s-eval_s-requires-then-m-eq0-2 : goal.eval_s-eval_s-requires-then-m-eq0-2
eval_s-eval_s-requires-then-m-eq0-2 t c = let p = c.args.p.now.now in
    let i = c.args.i in
    let w = c.requires.0.node in
    let small = c.requires.0.small in
    let node = c.node_by-n.ensures in
    let k = read_s node.a_is (group_part p i w small (sym node.kind_is ∙ c.in-7.is)) in
    (omega (arith, k.less, c.decreases), (record { node = k.node; indexed = c.requires.0.indexed; state = c.requires.0.state; slots = c.requires.0.slots; small = k.small }, c.requires.1))

pub eval_s-ruled-requires-then-m-eq0-2 : goal.eval_s-ruled-requires-then-m-eq0-2
eval_s-ruled-requires-then-m-eq0-2 t c = let p = c.args.p.now.now in
    let i = c.args.i in
    let w = c.requires.0.node in
    let small = c.requires.0.small in
    let node = c.node_by-n.ensures in
    (c.eval_s-then-m-eq0-2.ensures.1, (part_work_s _ _ _ (read_s node.a_is (group_part p i w small (sym node.kind_is ∙ c.in-7.is))) c.eval_s-then-m-eq0-2.ensures.0))

pub eval_s-returns-then-m-eq0-2 : goal.eval_s-returns-then-m-eq0-2
eval_s-returns-then-m-eq0-2 t c = let p = c.args.p.now.now in
    let i = c.args.i in
    let w = c.requires.0.node in
    let env = c.args.env.now in
    let rec = c.args.rec.now.now in
    let st = c.args.st.now.now in
    let node = c.node_by-n.ensures in
    (ruled_part p rec st env node.a_is c.eval_s-then-m-eq0-2.ensures.0 c.ruled-then-m-eq0-2.ensures.0 ∙ sym (group_body p i w rec st env c.own_cell-m-in-7.ensures (c.requires.0.indexed.numbers i c.requires.0.node) (sym node.kind_is ∙ c.in-7.is) c.if-m-eq0-2.true), c.ruled-then-m-eq0-2.ensures.1, c.eval_s-then-m-eq0-2.ensures.2, notes_part c.eval_s-then-m-eq0-2.ensures.3 (group_body_fills p i w rec st env c.own_cell-m-in-7.ensures (c.requires.0.indexed.numbers i w) (sym node.kind_is ∙ c.in-7.is) c.if-m-eq0-2.true node.a_is))

pub eval_s-has_branch-requires : goal.eval_s-has_branch-requires
eval_s-has_branch-requires t c = let ready = c.requires.0 in
    let node = c.node_by-n.ensures in
    group_first ready.indexed ready.node (sym node.kind_is ∙ c.in-7.is) node.b_is

pub eval_s-node_by-branch-requires : goal.eval_s-node_by-branch-requires
eval_s-node_by-branch-requires t c = let p = c.args.p.now.now in
    let i = c.args.i in
    let w = c.requires.0.node in
    let small = c.requires.0.small in
    let node = c.node_by-n.ensures in
    let which = (branch_part p i w small (sym node.kind_is ∙ c.in-7.is) node.b_is c.has_branch.ensures c.if-has_branch.true).node in
    (c.requires.0.indexed, w.shaped, which.inside)

pub eval_s-inside_s-requires-then-has_branch : goal.eval_s-inside_s-requires-then-has_branch
eval_s-inside_s-requires-then-has_branch t c = let p = c.args.p.now.now in
    let i = c.args.i in
    let w = c.requires.0.node in
    let small = c.requires.0.small in
    let node = c.node_by-n.ensures in
    let k = read_s c.node_by-branch.ensures.a_is (branch_part p i w small (sym node.kind_is ∙ c.in-7.is) node.b_is c.has_branch.ensures c.if-has_branch.true).body in
    (omega (arith, k.less, c.decreases), (record { node = k.node; indexed = c.requires.0.indexed; state = c.requires.0.state; slots = c.requires.0.slots; small = k.small }, omega (arith, (branch_part p i w small (sym node.kind_is ∙ c.in-7.is) node.b_is c.has_branch.ensures c.if-has_branch.true).less, w.inside, w.shaped.small), subst IsValue (sym c.exactly-then-has_branch.ensures) (exact_value _), c.requires.1))

pub eval_s-ruled-requires-then-has_branch : goal.eval_s-ruled-requires-then-has_branch
eval_s-ruled-requires-then-has_branch t c = let p = c.args.p.now.now in
    let i = c.args.i in
    let w = c.requires.0.node in
    let small = c.requires.0.small in
    let node = c.node_by-n.ensures in
    (c.inside_s-then-has_branch.ensures.1, (part_work_s _ _ _ (read_s c.node_by-branch.ensures.a_is (branch_part p i w small (sym node.kind_is ∙ c.in-7.is) node.b_is c.has_branch.ensures c.if-has_branch.true).body) c.inside_s-then-has_branch.ensures.0))

pub eval_s-returns-then-has_branch : goal.eval_s-returns-then-has_branch
eval_s-returns-then-has_branch t c = let p = c.args.p.now.now in
    let i = c.args.i in
    let w = c.requires.0.node in
    let env = c.args.env.now in
    let rec = c.args.rec.now.now in
    let st = c.args.st.now.now in
    let node = c.node_by-n.ensures in
    let same = ap unpacked c.exactly-then-has_branch.ensures ∙ exact_same c.own_cell-m-in-7.result in
    (bound_goes p i w rec st env c.branch_in-which.result same c.node_by-branch.ensures.a_is c.inside_s-then-has_branch.ensures.0 c.ruled-then-has_branch.ensures.0 ∙ sym (group_branch p i w rec st env c.own_cell-m-in-7.ensures (c.requires.0.indexed.numbers i c.requires.0.node) (sym node.kind_is ∙ c.in-7.is) c.if-m-eq0-2.false node.b_is c.branch_in-which.ensures c.has_branch.ensures c.if-has_branch.true), c.ruled-then-has_branch.ensures.1, c.inside_s-then-has_branch.ensures.2, notes_part c.inside_s-then-has_branch.ensures.3 (group_branch_fills p i w rec st env c.own_cell-m-in-7.ensures (c.requires.0.indexed.numbers i w) (sym node.kind_is ∙ c.in-7.is) c.if-m-eq0-2.false node.b_is c.branch_in-which.ensures c.has_branch.ensures c.if-has_branch.true c.node_by-branch.ensures.a_is same))

pub eval_s-through-requires : goal.eval_s-through-requires
eval_s-through-requires t c = let p = c.args.p.now.now in
    let i = c.args.i in
    let w = c.requires.0.node in
    let small = c.requires.0.small in
    let node = c.node_by-n.ensures in
    let k = read_s node.a_is (until_part p i w small (until_alone p i w node.kind_is c.if-k-le4.false c.in_default.in_default-own.rest)) in
    (omega (arith, k.less, c.decreases), (record { node = k.node; indexed = c.requires.0.indexed; state = c.requires.0.state; slots = c.requires.0.slots; small = k.small }, c.requires.1))

pub eval_s-returns-in-Some : goal.eval_s-returns-in-Some
eval_s-returns-in-Some t c = let p = c.args.p.now.now in
    let i = c.args.i in
    let w = c.requires.0.node in
    let env = c.args.env.now in
    let rec = c.args.rec.now.now in
    let st = c.args.st.now.now in
    let node = c.node_by-n.ensures in
    let told = sym c.show.ensures ∙ c.in-Some.is in
    (let_goes p i w rec st env (sym node.kind_is ∙ c.in-5.is) node.a_is node.b_is c.part-d.ensures.0 (shown_value c.part-d.result told) c.part-d.ensures.2 c.inside_s.ensures.0 c.later.ensures.0, c.later.ensures.1, c.inside_s.ensures.2 ∙ c.part-d.ensures.2, let_notes p i w rec st env (sym node.kind_is ∙ c.in-5.is) c.part-d.result node.a_is node.b_is c.part-d.ensures.0 (shown_value c.part-d.result told) c.part-d.ensures.2 (omega (arith, w.inside, w.shaped.small)) c.part-d.ensures.3 c.inside_s.ensures.3)

pub eval_s-returns-else-m-eq0 : goal.eval_s-returns-else-m-eq0
eval_s-returns-else-m-eq0 t c = let p = c.args.p.now.now in
    let i = c.args.i in
    let w = c.requires.0.node in
    let env = c.args.env.now in
    let rec = c.args.rec.now.now in
    let st = c.args.st.now.now in
    let node = c.node_by-n.ensures in
    let same = ap unpacked c.exactly.ensures ∙ exact_same c.own_cell-m.result in
    (bound_goes p i w rec st env i same node.c_is c.inside_s-in-6.ensures.0 c.ruled-in-6.ensures.0 ∙ sym (switch_second p i w rec st env c.own_cell-m.ensures (c.requires.0.indexed.numbers i c.requires.0.node) (sym node.kind_is ∙ c.in-6.is) c.if-m-eq0.false), c.ruled-in-6.ensures.1, c.inside_s-in-6.ensures.2, notes_part c.inside_s-in-6.ensures.3 (switch_second_fills p i w rec st env c.own_cell-m.ensures (c.requires.0.indexed.numbers i w) (sym node.kind_is ∙ c.in-6.is) c.if-m-eq0.false node.c_is same))

pub eval_s-returns-else-has_branch : goal.eval_s-returns-else-has_branch
eval_s-returns-else-has_branch t c = let p = c.args.p.now.now in
    let i = c.args.i in
    let w = c.requires.0.node in
    let env = c.args.env.now in
    let rec = c.args.rec.now.now in
    let st = c.args.st.now.now in
    let node = c.node_by-n.ensures in
    let g = gives_stuck (group_stuck p i w rec st env c.own_cell-m-in-7.ensures (c.requires.0.indexed.numbers i c.requires.0.node) (sym node.kind_is ∙ c.in-7.is) c.if-m-eq0-2.false node.b_is c.branch_in-which.ensures c.has_branch.ensures c.if-has_branch.false) in
    (g.0, g.1, refl, notes_none c.requires.1 (group_stuck_fills p i w rec st env c.own_cell-m-in-7.ensures (c.requires.0.indexed.numbers i w) (sym node.kind_is ∙ c.in-7.is) c.if-m-eq0-2.false node.b_is c.branch_in-which.ensures c.has_branch.ensures c.if-has_branch.false))

pub eval_s-returns-in_default : goal.eval_s-returns-in_default
eval_s-returns-in_default t c = let p = c.args.p.now.now in
    let i = c.args.i in
    let w = c.requires.0.node in
    let env = c.args.env.now in
    let rec = c.args.rec.now.now in
    let st = c.args.st.now.now in
    let node = c.node_by-n.ensures in
    (until_said p i w rec st env (until_alone p i w node.kind_is c.if-k-le4.false c.in_default.in_default-own.rest) node.a_is c.through.ensures.0, c.through.ensures.1, c.through.ensures.2, notes_part c.through.ensures.3 (until_fills p i w rec st env (until_alone p i w node.kind_is c.if-k-le4.false c.in_default.in_default-own.rest) node.a_is))

pub inside_s-bounds-env-i : goal.inside_s-bounds-env-i
inside_s-bounds-env-i t c = c.requires.1

pub inside_s-bounds-env-i-2 : goal.inside_s-bounds-env-i-2
inside_s-bounds-env-i-2 t c = c.requires.1

pub inside_s-part-r-requires : goal.inside_s-part-r-requires
inside_s-part-r-requires t c = (omega (arith, c.decreases), (record { node = c.requires.0.node; indexed = c.requires.0.indexed; state = c.requires.0.state; slots = slots_set c.args.env.now c.args.i c.args.v c.requires.0.slots c.requires.2; small = c.requires.0.small }, c.requires.3))

pub inside_s-bounds-env-i-3 : goal.inside_s-bounds-env-i-3
inside_s-bounds-env-i-3 t c = c.requires.1

pub inside_s-returns : goal.inside_s-returns
inside_s-returns t c = let env = c.args.env.now in
    let i = c.args.i in
    let v = c.args.v in
    (c.part-r.ensures.0 ∙ ap (λ (l : List ℕ). eval_s c.args.rec.now.now c.args.st.now.now l (signal_at c.args.p.now.now c.args.k)) (sym (bind_value env i v c.requires.2)), c.part-r.ensures.1, ◌∙◌ {b = set (set env i v) i (get_or env i 0)} (ap (λ (l : List ℕ). set l i (get_or env i 0)) c.part-r.ensures.2) (put_back env i v), notes_part c.part-r.ensures.3 (λ m. ap (λ (l : List ℕ). fill_s c.args.rec.now.now c.args.st.now.now l (signal_at c.args.p.now.now c.args.k) m) (bind_value env i v c.requires.2)))

pub part-node_by-n-requires : goal.part-node_by-n-requires
part-node_by-n-requires t c = let ready = c.requires.0 in (ready.indexed, ready.node.shaped, ready.node.inside)

pub part-operand-requires : goal.part-operand-requires
part-operand-requires t c = let p = c.args.p.now.now in
    let i = c.args.i in
    let ready = c.requires.0 in
    let node = c.node_by-n.ensures in
    let k = read-e node.a_is (ext_part p i ready.node ready.small (sym node.kind_is ∙ c.if-n-eq3.true)) in
    record { node = k.node; indexed = ready.indexed; slots = ready.slots; small = k.small }

pub part-ruled-requires : goal.part-ruled-requires
part-ruled-requires t c = let p = c.args.p.now.now in
    let i = c.args.i in
    let ready = c.requires.0 in
    let node = c.node_by-n.ensures in
    (c.operand.ensures.1, part_work _ (read-e node.a_is (ext_part p i ready.node ready.small (sym node.kind_is ∙ c.if-n-eq3.true))) c.operand.ensures.0)

pub part-returns-then-n-eq3 : goal.part-returns-then-n-eq3
part-returns-then-n-eq3 t c = let p = c.args.p.now.now in
    let i = c.args.i in
    let ready = c.requires.0 in
    let node = c.node_by-n.ensures in
    let rec = c.args.rec.now.now in
    let st = c.args.st.now.now in
    let env = c.args.env.now in
    let is = sym node.kind_is ∙ c.if-n-eq3.true in
    (ext_said p i ready.node rec st env is node.a_is c.operand.ensures.0 c.ruled.ensures.0, c.ruled.ensures.1, c.operand.ensures.2, notes_none c.requires.1 (ext_fills p i ready.node rec st env is))

pub part-eval_s-requires : goal.part-eval_s-requires
part-eval_s-requires t c = (omega (arith, c.decreases), c.requires)

pub part-returns : goal.part-returns
part-returns t c = c.eval_s.ensures

pub through-kind_by-requires : goal.through-kind_by-requires
through-kind_by-requires t c = let ready = c.requires.0 in (ready.indexed, ready.node.shaped, ready.node.inside)

pub through-own_cell-requires : goal.through-own_cell-requires
unfolding has_cell ◌or◌
through-own_cell-requires t c = let ready = c.requires.0 in
    cell_in c.args.p.now.now c.args.i ready.node c.args.ix.now ready.indexed c.args.st.now.now ready.state (ap has_cell (sym c.kind_by.ensures ∙ c.if-kind_by-eq4.true))

pub through-ruled-requires : goal.through-ruled-requires
through-ruled-requires t c = (c.held.ensures.1, held_work _ c.held.ensures.0)

pub through-returns-then-kind_by-eq4 : goal.through-returns-then-kind_by-eq4
through-returns-then-kind_by-eq4 t c = let p = c.args.p.now.now in
    let i = c.args.i in
    let ready = c.requires.0 in
    let env = c.args.env.now in
    let rec = c.args.rec.now.now in
    let st = c.args.st.now.now in
    (c.ruled.ensures.0 ∙ ap rule (c.held.ensures.0 ∙ sym (delay_eval p i ready.node rec st env c.own_cell.ensures (ready.indexed.numbers i ready.node) (sym c.kind_by.ensures ∙ c.if-kind_by-eq4.true))), c.ruled.ensures.1, refl, notes_none c.requires.1 (delay_fills p i ready.node rec st env (sym c.kind_by.ensures ∙ c.if-kind_by-eq4.true)))

pub through-eval_s-r-requires : goal.through-eval_s-r-requires
through-eval_s-r-requires t c = (omega (arith, c.decreases), c.requires)

pub through-ruled-requires-2 : goal.through-ruled-requires-2
through-ruled-requires-2 t c = let a = c.args in
    (c.eval_s-r.ensures.1, own_work a.p.now.now a.i a.rec.now.now a.st.now.now a.env.now c.requires.0.small c.eval_s-r.ensures.0)

pub through-returns : goal.through-returns
through-returns t c = (c.ruled-2.ensures.0 ∙ ap rule c.eval_s-r.ensures.0, c.ruled-2.ensures.1, c.eval_s-r.ensures.2, c.eval_s-r.ensures.3)
