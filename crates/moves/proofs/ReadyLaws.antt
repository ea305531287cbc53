-- The parts of a signal or a case are ready as the whole is: smaller, of the right sort, with the same memory lent and small bounds.
-- Assumes nothing.
use mathlib.Core.Path.{◌≡◌, refl, sym, ap, ◌∙◌, subst}
use mathlib.Core.Bool.{Bool, true}
use mathlib.Core.List.{List}
use Prim.Native.Nat.{ℕ, ◌≤◌, ◌<◌}
use native.Mathlib.Omega.{arith}
use lib.ListN.{get_or, set}
use Rattle.rules.specs.Bytes.{Bytes, ◌or◌}
use Rattle.rules.specs.Layout.{kind_at, a_at, b_at, has_cell, cell_at, cells_before, state_length}
use Rattle.rules.specs.Kinds.{is_signal, is_branch}
use Rattle.rules.specs.Node.{IsNode}
use Rattle.rules.specs.Shaped.{NodeOf}
use Rattle.rules.specs.Tree.{signal_at, branches_at}
use Rattle.rules.specs.Bound.{bound_s, bound_sc, bound_u, bound_ub, bound_uc}
use Rattle.rules.specs.Size.{size_s, size_b, size_c}
use Rattle.rules.specs.Evaluate.{Env}
use Rattle.rules.specs.Scope.{has_branch}
use Rattle.rules.specs.declared.Node.{Node}
use Rattle.rules.proofs.Signals.{delay_kid, delay_tree, let_kids, let_tree, switch_kids, switch_tree, group_kids, group_tree, until_kids, until_tree, branch_kid, case_kid, case_next, case_law, case_on}
use Rattle.rules.proofs.CellNumbers.{cell_below}
use Rattle.rules.proofs.Bounds.{bound_s≤}
use Rattle.rules.proofs.Branches.{found}
use Rattle.outcomes.specs.Outcome.{Slots, IsValue}
use Rattle.outcomes.proofs.Outcomes.{slots_set}
use Rattle.cells.specs.Indexed.{Indexed}
use Rattle.moves.specs.Lent.{Lent, Celled, Ready, ReadyAs, Placed, ReadyC, CaseAs}

-- Memory of the same lengths.
module _ {p : Bytes} {index : List ℕ} {s s' : ℕ} {e e' : Env} (hs : s' ≡ s) (he : e' ≡ e) where
  lent_again : Lent p index s e → Lent p index s' e'
  lent_again l = record { table = l.table; cells = omega (arith, l.cells); slots = subst Slots (sym he) l.slots }

  pub ready_again : {x : ℕ} → Ready p index s e x → Ready p index s' e' x
  ready_again r = record { node = r.node; lent = lent_again r.lent; small = r.small; few = r.few }

  pub as_again : {k i : ℕ} {n : Node} → ReadyAs k p index s e i n → ReadyAs k p index s' e' i n
  as_again r = record { ready = ready_again r.ready; fields = r.fields; kind = r.kind }

  pub walk_again : {j : ℕ} → ReadyC p index s e j → ReadyC p index s' e' j
  walk_again r = record { node = r.node; lent = lent_again r.lent; small = r.small; few = r.few }

-- A value more in a slot.
pub ready_bound : {p : Bytes} {index : List ℕ} {s x : ℕ} {e : Env} (i v : ℕ) → IsValue v → Ready p index s e x → Ready p index s (set e i v) x
ready_bound {e = e} i v h r =
    record {
      node = r.node;
      lent = record { table = r.lent.table; cells = r.lent.cells; slots = slots_set e i v r.lent.slots h };
      small = r.small;
      few = r.few;
    }

-- A signal below signal i.
pub record Part (p : Bytes) (index : List ℕ) (s : ℕ) (e : Env) (i x : ℕ) : Type 0 where
  pub less : x < i
  pub ready : Ready p index s e x

-- The evaluation of a signal that is ready counts little.
pub seen_small : {p : Bytes} {index : List ℕ} {s x : ℕ} {e : Env} → Ready p index s e x → bound_s (signal_at p x) < 32767
seen_small {p} {index} {s} {x} r = omega (arith, bound_s≤ (signal_at p x), r.few)

part : {p : Bytes} {index : List ℕ} {s i x y : ℕ} {e : Env} → x ≡ y → Part p index s e i y → Part p index s e i x
part {p} {index} {s} {i} {e = e} q k = subst (Part p index s e i) (sym q) k

module _ {p : Bytes} {index : List ℕ} {s i : ℕ} {e : Env} {n : Node} where
  pub delay_part : ReadyAs 4 p index s e i n → Part p index s e i n.a
  unfolding bound_u size_s
  delay_part r =
      let k = delay_kid p i r.ready.node r.kind in
      let b = ap bound_u (delay_tree p i r.ready.node r.kind) in
      let z = ap size_s (delay_tree p i r.ready.node r.kind) in
      part r.fields.a_is
      (record {
        less = k.less;
        ready = record { node = k.node; lent = r.ready.lent; small = omega (arith, r.ready.small); few = omega (arith, r.ready.few) };
      })

  pub let_parts : ReadyAs 5 p index s e i n → Part p index s e i n.a × Part p index s e i n.b
  unfolding bound_u size_s
  let_parts r =
      let k = let_kids p i r.ready.node r.kind in
      let b = ap bound_u (let_tree p i r.ready.node r.kind) in
      let z = ap size_s (let_tree p i r.ready.node r.kind) in (
        part r.fields.a_is
            (record {
              less = k.0.less;
              ready = record { node = k.0.node; lent = r.ready.lent; small = omega (arith, r.ready.small); few = omega (arith, r.ready.few) };
            }),
        part r.fields.b_is
            (record {
              less = k.1.less;
              ready = record { node = k.1.node; lent = r.ready.lent; small = omega (arith, r.ready.small); few = omega (arith, r.ready.few) };
            }),
      )

  pub switch_parts : ReadyAs 6 p index s e i n → Part p index s e i n.a × Part p index s e i n.b × Part p index s e i n.c
  unfolding bound_u size_s
  switch_parts r =
      let k = switch_kids p i r.ready.node r.kind in
      let b = ap bound_u (switch_tree p i r.ready.node r.kind) in
      let z = ap size_s (switch_tree p i r.ready.node r.kind) in (
        part r.fields.a_is
            (record {
              less = k.0.less;
              ready = record { node = k.0.node; lent = r.ready.lent; small = omega (arith, r.ready.small); few = omega (arith, r.ready.few) };
            }),
        part r.fields.b_is
            (record {
              less = k.1.less;
              ready = record { node = k.1.node; lent = r.ready.lent; small = omega (arith, r.ready.small); few = omega (arith, r.ready.few) };
            }),
        part r.fields.c_is
            (record {
              less = k.2.less;
              ready = record { node = k.2.node; lent = r.ready.lent; small = omega (arith, r.ready.small); few = omega (arith, r.ready.few) };
            }),
      )

  pub group_part : ReadyAs 7 p index s e i n → Part p index s e i n.a
  unfolding bound_u size_s
  group_part r =
      let k = group_kids p i r.ready.node r.kind in
      let b = ap bound_u (group_tree p i r.ready.node r.kind) in
      let z = ap size_s (group_tree p i r.ready.node r.kind) in
      part r.fields.a_is
      (record {
        less = k.0.less;
        ready = record { node = k.0.node; lent = r.ready.lent; small = omega (arith, r.ready.small); few = omega (arith, r.ready.few) };
      })

  pub group_list : ReadyAs 7 p index s e i n → NodeOf is_branch p n.b
  group_list r = subst (NodeOf is_branch p) (sym r.fields.b_is) (group_kids p i r.ready.node r.kind).1.node

  -- The branch of the group by its number: a node of the table, and its body.
  pub branch_node : ReadyAs 7 p index s e i n → {which : ℕ} {t : Bool} → t ≡ has_branch which (branches_at p n.b) → t ≡ true → NodeOf is_branch p which
  branch_node r {which} h g = (found p n.b which (group_list r) (sym h ∙ g)).node

  pub branch_part : ReadyAs 7 p index s e i n → {which : ℕ} {t : Bool} {m : Node} → t ≡ has_branch which (branches_at p n.b) → t ≡ true → IsNode p which m
      → Part p index s e i m.a
  unfolding bound_u size_s
  branch_part r {which} h g q =
      let k = group_kids p i r.ready.node r.kind in
      let f = found p n.b which (group_list r) (sym h ∙ g) in
      let c = branch_kid p which f.node in
      let b = ap bound_u (group_tree p i r.ready.node r.kind) in
      let z = ap size_s (group_tree p i r.ready.node r.kind) in
      let u : bound_u (signal_at p (a_at p which)) ≤ bound_ub (branches_at p (b_at p i)) = rw r.fields.b_is at f.update in
      let y : size_s (signal_at p (a_at p which)) ≤ size_b (branches_at p (b_at p i)) = rw r.fields.b_is at f.size in
      part q.a_is
      (record {
        less = omega (arith, f.most, r.fields.b_is, k.1.less, c.less);
        ready = record { node = c.node; lent = r.ready.lent; small = omega (arith, r.ready.small); few = omega (arith, r.ready.few) };
      })

  pub until_parts : ReadyAs 8 p index s e i n → Part p index s e i n.a × ((n.b < i) × ReadyC p index s e n.b)
  unfolding bound_u size_s
  until_parts r =
      let k = until_kids p i r.ready.node r.kind in
      let b = ap bound_u (until_tree p i r.ready.node r.kind) in
      let z = ap size_s (until_tree p i r.ready.node r.kind) in (
        part r.fields.a_is
            (record {
              less = k.0.less;
              ready = record { node = k.0.node; lent = r.ready.lent; small = omega (arith, r.ready.small); few = omega (arith, r.ready.few) };
            }),
        (
          omega (arith, r.fields.b_is, k.1.less),
          subst (ReadyC p index s e) (sym r.fields.b_is)
              (record { node = k.1.node; lent = r.ready.lent; small = omega (arith, r.ready.small); few = omega (arith, r.ready.few) }),
        ),
      )

  -- The event of a case, and the cases after it.
  pub case_part : CaseAs p index s e i n → Part p index s e i n.a
  unfolding bound_sc bound_uc size_c
  case_part r =
      let k = case_kid p i r.ready.node in
      let t = case_law p i r.ready.node refl in
      let b = ap bound_sc t in
      let c = ap bound_uc t in
      let z = ap size_c t in
      part r.fields.a_is
      (record {
        less = k.less;
        ready = record { node = k.node; lent = r.ready.lent; small = omega (arith, r.ready.small); few = omega (arith, r.ready.few) };
      })

  pub case_rest : CaseAs p index s e i n → (n.b ≡ 65535 → ⊥) → (n.b < i) × ReadyC p index s e n.b
  unfolding bound_sc bound_uc size_c
  case_rest r d =
      let d' : b_at p i ≡ 65535 → ⊥ = λ q. d (r.fields.b_is ∙ q) in
      let k = case_next p i r.ready.node d' in
      let t = case_on p i r.ready.node d' in
      let b = ap bound_sc t in
      let c = ap bound_uc t in
      let z = ap size_c t in (
        omega (arith, r.fields.b_is, k.less),
        subst (ReadyC p index s e) (sym r.fields.b_is)
            (record { node = k.node; lent = r.ready.lent; small = omega (arith, r.ready.small); few = omega (arith, r.ready.few) }),
      )

  -- Signal i, to store in its cells.
  pub placed : {k : ℕ} {s' : ℕ} → s' ≡ s → ReadyAs k p index s e i n → Placed k p index s' i n
  placed h r =
      record {
        node = r.ready.node;
        table = r.ready.lent.table;
        cells = omega (arith, r.ready.lent.cells);
        fields = r.fields;
        kind = r.kind;
      }

-- The cell of a node of kind 4, 6 or 7 is in the state.
pub celled : {p : Bytes} {index : List ℕ} {s i : ℕ} → NodeOf is_signal p i → Indexed p index → state_length p ≤ s → has_cell (kind_at p i) ≡ true → Celled index s i
unfolding state_length cell_at
celled {p} {index} {s} {i} w x h e =
    record {
      listed = omega (arith, w.inside, x.room);
      room = omega (arith, x.numbers i w, cell_below p i w.inside e, h);
    }

pub cell_number : {p : Bytes} {index : List ℕ} {i : ℕ} → NodeOf is_signal p i → Indexed p index → get_or index i 0 ≡ cells_before p i
cell_number {p} {index} {i} w x = x.numbers i w
