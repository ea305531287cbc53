use Rattle.rules.proofs.PutBack.{put_back}
use Rattle.evaluate.proofs.SignalLaws.{ruled_part, read_s, part_work_s, let_work, let_pair, let_parts, switch_parts, group_part, branch_part, until_part, cell_in, switch_cell, group_cell, until_eval, let_goes, let_stuck, bound_goes, switch_first, switch_second, group_body, group_branch, group_stuck}
use Rattle.outcomes.specs.Outcome.{IsValue}
use Rattle.outcomes.proofs.Counted.{gives_stuck}
use Rattle.outcomes.proofs.Outcomes.{shown_value, shown_exact, shown_work, shown_stuck, slots_set, bind_value, exact_value, exact_same}
use Rattle.rules.specs.Evaluate.{eval_s}
use Rattle.rules.specs.Values.{unpacked}
use Rattle.rules.specs.Tree.{signal_at}
use Rattle.branches.proofs.ByTable.{group_first}
use Rattle.watched.specs.Note.{note_s}
use Rattle.recalled.specs.Recall.{fill_s}
use Rattle.noted.proofs.FillLaws.{notes_none, notes_part, noted_set, until_fills, let_notes, let_noted_stuck, switch_first_fills, switch_second_fills, group_body_fills, group_branch_fills, group_stuck_fills}
use Rattle.notes.proofs.NoteLaws.{part_ready, own_noted, leaf_noted, until_noted, let_stops, let_noted, switch_first_noted, switch_second_noted, group_body_noted, group_branch_noted, group_none_noted}
use lib.ListN.{set, get_or}
use mathlib.Core.List.{List}
use mathlib.Core.Path.{refl, sym, ap, ◌∙◌, subst}
use native.Mathlib.Omega.{arith}
use Prim.Native.Nat.{ℕ}
use Rattle.notes.proofs.+inside_n_note_s_parts_n.Goals as goal

pub inside_n-bounds-env-i : goal.inside_n-bounds-env-i
inside_n-bounds-env-i t c = c.requires.2

pub inside_n-bounds-env-i-2 : goal.inside_n-bounds-env-i-2
inside_n-bounds-env-i-2 t c = c.requires.2

pub inside_n-note_s-r-requires : goal.inside_n-note_s-r-requires
inside_n-note_s-r-requires t c = let a = c.args in
    let ready = c.requires.0 in
    (omega (arith, c.decreases), (record { node = ready.node; indexed = ready.indexed; state = ready.state; slots = slots_set a.env.now a.i a.v ready.slots c.requires.3; small = ready.small }, c.requires.1, c.requires.4))

pub inside_n-bounds-env-i-3 : goal.inside_n-bounds-env-i-3
inside_n-bounds-env-i-3 t c = c.requires.2

pub inside_n-shape_of-room : goal.inside_n-shape_of-room
inside_n-shape_of-room t c = omega (arith, c.room-1.given)

pub inside_n-returns : goal.inside_n-returns
inside_n-returns t c = let a = c.args in
    let env = a.env.now in
    let same = sym (bind_value env a.i a.v c.requires.3) in
    let got = c.note_s-r.ensures in
    (got.0 ∙ ap (λ (l : List ℕ). eval_s a.rec.now.now a.st.now.now l (signal_at a.p.now.now a.k)) same, got.1, ◌∙◌ {b = set (set env a.i a.v) a.i (get_or env a.i 0)} (ap (λ (l : List ℕ). set l a.i (get_or env a.i 0)) got.2) (put_back env a.i a.v), got.3 ∙ ap (λ (l : List ℕ). note_s a.list.now.now a.at a.rec.now.now a.st.now.now l (signal_at a.p.now.now a.k) a.room.now) same, notes_part got.4 (λ m. ap (λ (l : List ℕ). fill_s a.rec.now.now a.st.now.now l (signal_at a.p.now.now a.k) m) (sym same)))

pub note_s-parts_n-r-requires : goal.note_s-parts_n-r-requires
note_s-parts_n-r-requires t c = (omega (arith, c.decreases), (c.requires.0, c.requires.1, c.requires.2))

pub note_s-keep-requires : goal.note_s-keep-requires
note_s-keep-requires t c = (c.parts_n-r.ensures.1, omega (arith, c.requires.1, c.room-1.given))

pub note_s-shape_of-room : goal.note_s-shape_of-room
note_s-shape_of-room t c = omega (arith, c.room-1.given, c.room-2-1.given)

pub note_s-returns : goal.note_s-returns
note_s-returns t c = let a = c.args in
    let got = c.parts_n-r.ensures in
    (got.0, got.1, got.2, own_noted a.p.now.now a.i c.requires.0.node a.list.now.now a.at a.rec.now.now a.st.now.now a.env.now a.room.now got.0 got.3 c.keep.ensures, got.4)

pub parts_n-node_by-n-requires : goal.parts_n-node_by-n-requires
parts_n-node_by-n-requires t c = let ready = c.requires.0 in (ready.indexed, ready.node.shaped, ready.node.inside)

pub parts_n-note_s-d-requires : goal.parts_n-note_s-d-requires
parts_n-note_s-d-requires t c = let a = c.args in
    let p = a.p.now.now in
    let i = a.i in
    let rec = a.rec.now.now in
    let st = a.st.now.now in
    let env = a.env.now in
    let l = a.list.now.now in
    let at = a.at in
    let room = a.room.now in
    let ready = c.requires.0 in
    let w = ready.node in
    let node = c.node_by-n.ensures in
    let kind = sym node.kind_is ∙ c.in-5.is in
    let k = read_s node.a_is (let_parts p i w ready.small kind).0 in
    (omega (arith, k.less, c.decreases), (part_ready ready k refl, c.requires.1, c.requires.2))

pub parts_n-bounds-memo-i : goal.parts_n-bounds-memo-i
parts_n-bounds-memo-i t c = let w = c.requires.0.node in omega (arith, w.inside, w.shaped.small)

pub parts_n-shape_of-room-in_default-show : goal.parts_n-shape_of-room-in_default-show
parts_n-shape_of-room-in_default-show t c = omega (arith, c.room-1.given)

pub parts_n-returns-in_default-show : goal.parts_n-returns-in_default-show
parts_n-returns-in_default-show t c = let a = c.args in
    let p = a.p.now.now in
    let i = a.i in
    let rec = a.rec.now.now in
    let st = a.st.now.now in
    let env = a.env.now in
    let l = a.list.now.now in
    let at = a.at in
    let room = a.room.now in
    let ready = c.requires.0 in
    let w = ready.node in
    let node = c.node_by-n.ensures in
    let kind = sym node.kind_is ∙ c.in-5.is in
    let stuck = shown_stuck c.note_s-d.result (sym c.show.ensures ∙ c.in_default-show.is) in
    let g = gives_stuck (let_stuck p i w rec st env kind node.a_is c.note_s-d.ensures.0 stuck) in
    (g.0, g.1, c.note_s-d.ensures.2, let_stops p i w l at rec st env room kind node.a_is c.note_s-d.ensures.3 c.note_s-d.ensures.0 stuck, let_noted_stuck p i w rec st env kind c.note_s-d.result node.a_is c.note_s-d.ensures.0 stuck (omega (arith, w.inside, w.shaped.small)) c.note_s-d.ensures.1 c.note_s-d.ensures.4)

pub parts_n-inside_n-requires : goal.parts_n-inside_n-requires
parts_n-inside_n-requires t c = let a = c.args in
    let p = a.p.now.now in
    let i = a.i in
    let rec = a.rec.now.now in
    let st = a.st.now.now in
    let env = a.env.now in
    let l = a.list.now.now in
    let at = a.at in
    let room = a.room.now in
    let ready = c.requires.0 in
    let w = ready.node in
    let node = c.node_by-n.ensures in
    let kind = sym node.kind_is ∙ c.in-5.is in
    let told = sym c.show.ensures ∙ c.in-Some.is in
    let k = read_s node.b_is (let_parts p i w ready.small kind).1 in
    (omega (arith, k.less, c.decreases), (part_ready ready k c.note_s-d.ensures.2, omega (arith, c.requires.1, c.room-1.given), omega (arith, w.inside, w.shaped.small), shown_exact c.note_s-d.result c.note_s-d.ensures.1 told, noted_set i c.note_s-d.result rec st env w c.note_s-d.ensures.4.noted c.note_s-d.ensures.1 (c.note_s-d.ensures.0 ∙ ap (λ (x : ℕ). eval_s rec st env (signal_at p x)) node.a_is) (omega (arith, w.inside, w.shaped.small))))

pub parts_n-later-requires : goal.parts_n-later-requires
parts_n-later-requires t c = let a = c.args in
    let p = a.p.now.now in
    let i = a.i in
    let rec = a.rec.now.now in
    let st = a.st.now.now in
    let env = a.env.now in
    let l = a.list.now.now in
    let at = a.at in
    let room = a.room.now in
    let ready = c.requires.0 in
    let w = ready.node in
    let node = c.node_by-n.ensures in
    let kind = sym node.kind_is ∙ c.in-5.is in
    let told = sym c.show.ensures ∙ c.in-Some.is in
    (c.inside_n.ensures.1, omega (arith, shown_work c.note_s-d.result told, let_work p c.node_by-n.result.a c.node_by-n.result.b _ _ _ _ (let_pair p i w ready.small kind node.a_is node.b_is) c.note_s-d.ensures.0 c.inside_n.ensures.0))

pub parts_n-own_cell-m-requires : goal.parts_n-own_cell-m-requires
parts_n-own_cell-m-requires t c = let a = c.args in
    let p = a.p.now.now in
    let i = a.i in
    let rec = a.rec.now.now in
    let st = a.st.now.now in
    let env = a.env.now in
    let l = a.list.now.now in
    let at = a.at in
    let room = a.room.now in
    let ready = c.requires.0 in
    let w = ready.node in
    let node = c.node_by-n.ensures in
    let kind = sym node.kind_is ∙ c.in-6.is in
    cell_in p i w a.ix.now ready.indexed st ready.state (switch_cell kind)

pub parts_n-note_s-requires : goal.parts_n-note_s-requires
parts_n-note_s-requires t c = let a = c.args in
    let p = a.p.now.now in
    let i = a.i in
    let rec = a.rec.now.now in
    let st = a.st.now.now in
    let env = a.env.now in
    let l = a.list.now.now in
    let at = a.at in
    let room = a.room.now in
    let ready = c.requires.0 in
    let w = ready.node in
    let node = c.node_by-n.ensures in
    let kind = sym node.kind_is ∙ c.in-6.is in
    let k = read_s node.a_is (switch_parts p i w ready.small kind).0 in
    (omega (arith, k.less, c.decreases), (part_ready ready k refl, c.requires.1, c.requires.2))

pub parts_n-ruled-requires : goal.parts_n-ruled-requires
parts_n-ruled-requires t c = let a = c.args in
    let p = a.p.now.now in
    let i = a.i in
    let rec = a.rec.now.now in
    let st = a.st.now.now in
    let env = a.env.now in
    let l = a.list.now.now in
    let at = a.at in
    let room = a.room.now in
    let ready = c.requires.0 in
    let w = ready.node in
    let node = c.node_by-n.ensures in
    let kind = sym node.kind_is ∙ c.in-6.is in
    (c.note_s.ensures.1, part_work_s _ _ _ (read_s node.a_is (switch_parts p i w ready.small kind).0) c.note_s.ensures.0)

pub parts_n-shape_of-room-then-m-eq0 : goal.parts_n-shape_of-room-then-m-eq0
parts_n-shape_of-room-then-m-eq0 t c = omega (arith, c.room-then-m-eq0-1.given)

pub parts_n-returns-then-m-eq0 : goal.parts_n-returns-then-m-eq0
parts_n-returns-then-m-eq0 t c = let a = c.args in
    let p = a.p.now.now in
    let i = a.i in
    let rec = a.rec.now.now in
    let st = a.st.now.now in
    let env = a.env.now in
    let l = a.list.now.now in
    let at = a.at in
    let room = a.room.now in
    let ready = c.requires.0 in
    let w = ready.node in
    let node = c.node_by-n.ensures in
    let kind = sym node.kind_is ∙ c.in-6.is in
    let number = ready.indexed.numbers i w in
    (ruled_part p rec st env node.a_is c.note_s.ensures.0 c.ruled.ensures.0 ∙ sym (switch_first p i w rec st env c.own_cell-m.ensures number kind c.if-m-eq0.true), c.ruled.ensures.1, c.note_s.ensures.2, switch_first_noted p i w l at rec st env room c.own_cell-m.ensures number kind c.if-m-eq0.true node.a_is c.note_s.ensures.3, notes_part c.note_s.ensures.4 (switch_first_fills p i w rec st env c.own_cell-m.ensures number kind c.if-m-eq0.true node.a_is))

pub parts_n-inside_n-requires-in-6 : goal.parts_n-inside_n-requires-in-6
parts_n-inside_n-requires-in-6 t c = let a = c.args in
    let p = a.p.now.now in
    let i = a.i in
    let rec = a.rec.now.now in
    let st = a.st.now.now in
    let env = a.env.now in
    let l = a.list.now.now in
    let at = a.at in
    let room = a.room.now in
    let ready = c.requires.0 in
    let w = ready.node in
    let node = c.node_by-n.ensures in
    let kind = sym node.kind_is ∙ c.in-6.is in
    let k = read_s node.c_is (switch_parts p i w ready.small kind).1 in
    (omega (arith, k.less, c.decreases), (part_ready ready k refl, c.requires.1, omega (arith, w.inside, w.shaped.small), subst IsValue (sym c.exactly.ensures) (exact_value _), c.requires.2))

pub parts_n-ruled-requires-in-6 : goal.parts_n-ruled-requires-in-6
parts_n-ruled-requires-in-6 t c = let a = c.args in
    let p = a.p.now.now in
    let i = a.i in
    let rec = a.rec.now.now in
    let st = a.st.now.now in
    let env = a.env.now in
    let l = a.list.now.now in
    let at = a.at in
    let room = a.room.now in
    let ready = c.requires.0 in
    let w = ready.node in
    let node = c.node_by-n.ensures in
    let kind = sym node.kind_is ∙ c.in-6.is in
    let k = read_s node.c_is (switch_parts p i w ready.small kind).1 in
    (c.inside_n-in-6.ensures.1, part_work_s {n = i} _ _ _ k c.inside_n-in-6.ensures.0)

pub parts_n-own_cell-m-requires-in-7 : goal.parts_n-own_cell-m-requires-in-7
parts_n-own_cell-m-requires-in-7 t c = let a = c.args in
    let p = a.p.now.now in
    let i = a.i in
    let rec = a.rec.now.now in
    let st = a.st.now.now in
    let env = a.env.now in
    let l = a.list.now.now in
    let at = a.at in
    let room = a.room.now in
    let ready = c.requires.0 in
    let w = ready.node in
    let node = c.node_by-n.ensures in
    let kind = sym node.kind_is ∙ c.in-7.is in
    cell_in p i w a.ix.now ready.indexed st ready.state (group_cell kind)

pub parts_n-note_s-requires-then-m-eq0-2 : goal.parts_n-note_s-requires-then-m-eq0-2
parts_n-note_s-requires-then-m-eq0-2 t c = let a = c.args in
    let p = a.p.now.now in
    let i = a.i in
    let rec = a.rec.now.now in
    let st = a.st.now.now in
    let env = a.env.now in
    let l = a.list.now.now in
    let at = a.at in
    let room = a.room.now in
    let ready = c.requires.0 in
    let w = ready.node in
    let node = c.node_by-n.ensures in
    let kind = sym node.kind_is ∙ c.in-7.is in
    let k = read_s node.a_is (group_part p i w ready.small kind) in
    (omega (arith, k.less, c.decreases), (part_ready ready k refl, c.requires.1, c.requires.2))

pub parts_n-ruled-requires-then-m-eq0-2 : goal.parts_n-ruled-requires-then-m-eq0-2
parts_n-ruled-requires-then-m-eq0-2 t c = let a = c.args in
    let p = a.p.now.now in
    let i = a.i in
    let rec = a.rec.now.now in
    let st = a.st.now.now in
    let env = a.env.now in
    let l = a.list.now.now in
    let at = a.at in
    let room = a.room.now in
    let ready = c.requires.0 in
    let w = ready.node in
    let node = c.node_by-n.ensures in
    let kind = sym node.kind_is ∙ c.in-7.is in
    (c.note_s-then-m-eq0-2.ensures.1, part_work_s _ _ _ (read_s node.a_is (group_part p i w ready.small kind)) c.note_s-then-m-eq0-2.ensures.0)

pub parts_n-shape_of-room-then-m-eq0-2 : goal.parts_n-shape_of-room-then-m-eq0-2
parts_n-shape_of-room-then-m-eq0-2 t c = omega (arith, c.room-then-m-eq0-2-1.given)

pub parts_n-returns-then-m-eq0-2 : goal.parts_n-returns-then-m-eq0-2
parts_n-returns-then-m-eq0-2 t c = let a = c.args in
    let p = a.p.now.now in
    let i = a.i in
    let rec = a.rec.now.now in
    let st = a.st.now.now in
    let env = a.env.now in
    let l = a.list.now.now in
    let at = a.at in
    let room = a.room.now in
    let ready = c.requires.0 in
    let w = ready.node in
    let node = c.node_by-n.ensures in
    let kind = sym node.kind_is ∙ c.in-7.is in
    let number = ready.indexed.numbers i w in
    (ruled_part p rec st env node.a_is c.note_s-then-m-eq0-2.ensures.0 c.ruled-then-m-eq0-2.ensures.0 ∙ sym (group_body p i w rec st env c.own_cell-m-in-7.ensures number kind c.if-m-eq0-2.true), c.ruled-then-m-eq0-2.ensures.1, c.note_s-then-m-eq0-2.ensures.2, group_body_noted p i w l at rec st env room c.own_cell-m-in-7.ensures number kind c.if-m-eq0-2.true node.a_is c.note_s-then-m-eq0-2.ensures.3, notes_part c.note_s-then-m-eq0-2.ensures.4 (group_body_fills p i w rec st env c.own_cell-m-in-7.ensures number kind c.if-m-eq0-2.true node.a_is))

pub parts_n-has_branch-requires : goal.parts_n-has_branch-requires
parts_n-has_branch-requires t c = let a = c.args in
    let p = a.p.now.now in
    let i = a.i in
    let rec = a.rec.now.now in
    let st = a.st.now.now in
    let env = a.env.now in
    let l = a.list.now.now in
    let at = a.at in
    let room = a.room.now in
    let ready = c.requires.0 in
    let w = ready.node in
    let node = c.node_by-n.ensures in
    let kind = sym node.kind_is ∙ c.in-7.is in
    group_first ready.indexed w kind node.b_is

pub parts_n-node_by-branch-requires : goal.parts_n-node_by-branch-requires
parts_n-node_by-branch-requires t c = let a = c.args in
    let p = a.p.now.now in
    let i = a.i in
    let rec = a.rec.now.now in
    let st = a.st.now.now in
    let env = a.env.now in
    let l = a.list.now.now in
    let at = a.at in
    let room = a.room.now in
    let ready = c.requires.0 in
    let w = ready.node in
    let node = c.node_by-n.ensures in
    let kind = sym node.kind_is ∙ c.in-7.is in
    let part = branch_part p i w ready.small kind node.b_is c.has_branch.ensures c.if-has_branch.true in
    (ready.indexed, w.shaped, part.node.inside)

pub parts_n-inside_n-requires-then-has_branch : goal.parts_n-inside_n-requires-then-has_branch
parts_n-inside_n-requires-then-has_branch t c = let a = c.args in
    let p = a.p.now.now in
    let i = a.i in
    let rec = a.rec.now.now in
    let st = a.st.now.now in
    let env = a.env.now in
    let l = a.list.now.now in
    let at = a.at in
    let room = a.room.now in
    let ready = c.requires.0 in
    let w = ready.node in
    let node = c.node_by-n.ensures in
    let kind = sym node.kind_is ∙ c.in-7.is in
    let part = branch_part p i w ready.small kind node.b_is c.has_branch.ensures c.if-has_branch.true in
    let k = read_s c.node_by-branch.ensures.a_is part.body in
    (omega (arith, k.less, c.decreases), (part_ready ready k refl, c.requires.1, omega (arith, part.less, w.inside, w.shaped.small), subst IsValue (sym c.exactly-then-has_branch.ensures) (exact_value _), c.requires.2))

pub parts_n-ruled-requires-then-has_branch : goal.parts_n-ruled-requires-then-has_branch
parts_n-ruled-requires-then-has_branch t c = let a = c.args in
    let p = a.p.now.now in
    let i = a.i in
    let rec = a.rec.now.now in
    let st = a.st.now.now in
    let env = a.env.now in
    let l = a.list.now.now in
    let at = a.at in
    let room = a.room.now in
    let ready = c.requires.0 in
    let w = ready.node in
    let node = c.node_by-n.ensures in
    let kind = sym node.kind_is ∙ c.in-7.is in
    let part = branch_part p i w ready.small kind node.b_is c.has_branch.ensures c.if-has_branch.true in
    (c.inside_n-then-has_branch.ensures.1, part_work_s _ _ _ (read_s c.node_by-branch.ensures.a_is part.body) c.inside_n-then-has_branch.ensures.0)

pub parts_n-shape_of-room-then-has_branch : goal.parts_n-shape_of-room-then-has_branch
parts_n-shape_of-room-then-has_branch t c = omega (arith, c.room-then-has_branch-1.given)

pub parts_n-returns-then-has_branch : goal.parts_n-returns-then-has_branch
parts_n-returns-then-has_branch t c = let a = c.args in
    let p = a.p.now.now in
    let i = a.i in
    let rec = a.rec.now.now in
    let st = a.st.now.now in
    let env = a.env.now in
    let l = a.list.now.now in
    let at = a.at in
    let room = a.room.now in
    let ready = c.requires.0 in
    let w = ready.node in
    let node = c.node_by-n.ensures in
    let kind = sym node.kind_is ∙ c.in-7.is in
    let number = ready.indexed.numbers i w in
    let same = ap unpacked c.exactly-then-has_branch.ensures ∙ exact_same c.own_cell-m-in-7.result in
    (bound_goes p i w rec st env c.branch_in-which.result same c.node_by-branch.ensures.a_is c.inside_n-then-has_branch.ensures.0 c.ruled-then-has_branch.ensures.0 ∙ sym (group_branch p i w rec st env c.own_cell-m-in-7.ensures number kind c.if-m-eq0-2.false node.b_is c.branch_in-which.ensures c.has_branch.ensures c.if-has_branch.true), c.ruled-then-has_branch.ensures.1, c.inside_n-then-has_branch.ensures.2, group_branch_noted p i w l at rec st env room c.own_cell-m-in-7.ensures number kind c.if-m-eq0-2.false node.b_is c.branch_in-which.ensures c.has_branch.ensures c.if-has_branch.true c.node_by-branch.ensures.a_is same c.inside_n-then-has_branch.ensures.3, notes_part c.inside_n-then-has_branch.ensures.4 (group_branch_fills p i w rec st env c.own_cell-m-in-7.ensures number kind c.if-m-eq0-2.false node.b_is c.branch_in-which.ensures c.has_branch.ensures c.if-has_branch.true c.node_by-branch.ensures.a_is same))

pub parts_n-note_s-requires-in-8 : goal.parts_n-note_s-requires-in-8
parts_n-note_s-requires-in-8 t c = let a = c.args in
    let p = a.p.now.now in
    let i = a.i in
    let rec = a.rec.now.now in
    let st = a.st.now.now in
    let env = a.env.now in
    let l = a.list.now.now in
    let at = a.at in
    let room = a.room.now in
    let ready = c.requires.0 in
    let w = ready.node in
    let node = c.node_by-n.ensures in
    let kind = sym node.kind_is ∙ c.in-8.is in
    let k = read_s node.a_is (until_part p i w ready.small kind) in
    (omega (arith, k.less, c.decreases), (part_ready ready k refl, c.requires.1, c.requires.2))

pub parts_n-ruled-requires-in-8 : goal.parts_n-ruled-requires-in-8
parts_n-ruled-requires-in-8 t c = let a = c.args in
    let p = a.p.now.now in
    let i = a.i in
    let rec = a.rec.now.now in
    let st = a.st.now.now in
    let env = a.env.now in
    let l = a.list.now.now in
    let at = a.at in
    let room = a.room.now in
    let ready = c.requires.0 in
    let w = ready.node in
    let node = c.node_by-n.ensures in
    let kind = sym node.kind_is ∙ c.in-8.is in
    (c.note_s-in-8.ensures.1, part_work_s _ _ _ (read_s node.a_is (until_part p i w ready.small kind)) c.note_s-in-8.ensures.0)

pub parts_n-evaluated-requires : goal.parts_n-evaluated-requires
parts_n-evaluated-requires t c = (c.requires.0, c.requires.2)

pub parts_n-shape_of-room-in-Some : goal.parts_n-shape_of-room-in-Some
parts_n-shape_of-room-in-Some t c = omega (arith, c.room-1.given, c.room-in-5-1.given)

pub parts_n-returns-in-Some : goal.parts_n-returns-in-Some
parts_n-returns-in-Some t c = let a = c.args in
    let p = a.p.now.now in
    let i = a.i in
    let rec = a.rec.now.now in
    let st = a.st.now.now in
    let env = a.env.now in
    let l = a.list.now.now in
    let at = a.at in
    let room = a.room.now in
    let ready = c.requires.0 in
    let w = ready.node in
    let node = c.node_by-n.ensures in
    let kind = sym node.kind_is ∙ c.in-5.is in
    let told = sym c.show.ensures ∙ c.in-Some.is in
    (let_goes p i w rec st env kind node.a_is node.b_is c.note_s-d.ensures.0 (shown_value c.note_s-d.result told) c.note_s-d.ensures.2 c.inside_n.ensures.0 c.later.ensures.0, c.later.ensures.1, c.inside_n.ensures.2 ∙ c.note_s-d.ensures.2, let_noted p i w l at rec st env room kind node.a_is c.note_s-d.ensures.3 c.note_s-d.ensures.0 (shown_value c.note_s-d.result told) c.note_s-d.ensures.2 node.b_is c.inside_n.ensures.3, let_notes p i w rec st env kind c.note_s-d.result node.a_is node.b_is c.note_s-d.ensures.0 (shown_value c.note_s-d.result told) c.note_s-d.ensures.2 (omega (arith, w.inside, w.shaped.small)) c.note_s-d.ensures.4 c.inside_n.ensures.4)

pub parts_n-shape_of-room-else-m-eq0 : goal.parts_n-shape_of-room-else-m-eq0
parts_n-shape_of-room-else-m-eq0 t c = omega (arith, c.room-in-6-1.given)

pub parts_n-returns-else-m-eq0 : goal.parts_n-returns-else-m-eq0
parts_n-returns-else-m-eq0 t c = let a = c.args in
    let p = a.p.now.now in
    let i = a.i in
    let rec = a.rec.now.now in
    let st = a.st.now.now in
    let env = a.env.now in
    let l = a.list.now.now in
    let at = a.at in
    let room = a.room.now in
    let ready = c.requires.0 in
    let w = ready.node in
    let node = c.node_by-n.ensures in
    let kind = sym node.kind_is ∙ c.in-6.is in
    let number = ready.indexed.numbers i w in
    let same = ap unpacked c.exactly.ensures ∙ exact_same c.own_cell-m.result in
    (bound_goes p i w rec st env i same node.c_is c.inside_n-in-6.ensures.0 c.ruled-in-6.ensures.0 ∙ sym (switch_second p i w rec st env c.own_cell-m.ensures number kind c.if-m-eq0.false), c.ruled-in-6.ensures.1, c.inside_n-in-6.ensures.2, switch_second_noted p i w l at rec st env room c.own_cell-m.ensures number kind c.if-m-eq0.false node.c_is same c.inside_n-in-6.ensures.3, notes_part c.inside_n-in-6.ensures.4 (switch_second_fills p i w rec st env c.own_cell-m.ensures number kind c.if-m-eq0.false node.c_is same))

pub parts_n-returns-else-has_branch : goal.parts_n-returns-else-has_branch
parts_n-returns-else-has_branch t c = let a = c.args in
    let p = a.p.now.now in
    let i = a.i in
    let rec = a.rec.now.now in
    let st = a.st.now.now in
    let env = a.env.now in
    let l = a.list.now.now in
    let at = a.at in
    let room = a.room.now in
    let ready = c.requires.0 in
    let w = ready.node in
    let node = c.node_by-n.ensures in
    let kind = sym node.kind_is ∙ c.in-7.is in
    let number = ready.indexed.numbers i w in
    let g = gives_stuck (group_stuck p i w rec st env c.own_cell-m-in-7.ensures number kind c.if-m-eq0-2.false node.b_is c.branch_in-which.ensures c.has_branch.ensures c.if-has_branch.false) in
    (g.0, g.1, refl, group_none_noted p i w l at rec st env room c.own_cell-m-in-7.ensures number kind c.if-m-eq0-2.false node.b_is c.branch_in-which.ensures c.has_branch.ensures c.if-has_branch.false, notes_none c.requires.2 (group_stuck_fills p i w rec st env c.own_cell-m-in-7.ensures number kind c.if-m-eq0-2.false node.b_is c.branch_in-which.ensures c.has_branch.ensures c.if-has_branch.false))

pub parts_n-shape_of-room-in-8 : goal.parts_n-shape_of-room-in-8
parts_n-shape_of-room-in-8 t c = omega (arith, c.room-in-8-1.given)

pub parts_n-returns-in-8 : goal.parts_n-returns-in-8
parts_n-returns-in-8 t c = let a = c.args in
    let p = a.p.now.now in
    let i = a.i in
    let rec = a.rec.now.now in
    let st = a.st.now.now in
    let env = a.env.now in
    let l = a.list.now.now in
    let at = a.at in
    let room = a.room.now in
    let ready = c.requires.0 in
    let w = ready.node in
    let node = c.node_by-n.ensures in
    let kind = sym node.kind_is ∙ c.in-8.is in
    (ruled_part p rec st env node.a_is c.note_s-in-8.ensures.0 c.ruled-in-8.ensures.0 ∙ sym (until_eval p i w rec st env kind), c.ruled-in-8.ensures.1, c.note_s-in-8.ensures.2, until_noted p i w l at rec st env room kind node.a_is c.note_s-in-8.ensures.3, notes_part c.note_s-in-8.ensures.4 (until_fills p i w rec st env kind node.a_is))

pub parts_n-returns-in_default : goal.parts_n-returns-in_default
parts_n-returns-in_default t c = let a = c.args in
    let p = a.p.now.now in
    let i = a.i in
    let rec = a.rec.now.now in
    let st = a.st.now.now in
    let env = a.env.now in
    let l = a.list.now.now in
    let at = a.at in
    let room = a.room.now in
    let ready = c.requires.0 in
    let w = ready.node in
    let node = c.node_by-n.ensures in
    (c.evaluated.ensures.0, c.evaluated.ensures.1, c.evaluated.ensures.2, leaf_noted p i w l at rec st env room node.kind_is c.in_default.in_default-own.rest, c.evaluated.ensures.3)
