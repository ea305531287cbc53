-- No count is too large: each part's is at most its bound, and the sum of the parts' is below what a number's count may be, since the bound of
-- the whole is.
-- Assumes nothing.
use Rattle.std.specs.Prelude.{if◌then◌else◌, Option, Some}
use mathlib.Core.Path.{◌≡◌, refl, sym, ap, ◌∙◌}
use mathlib.Core.Bool.{Bool, true, false}
use mathlib.Core.List.{List}
use Prim.Native.Nat.{ℕ, ◌+◌, ◌≤◌, ◌<◌, max}
use native.Mathlib.Omega.{arith}
use Rattle.rules.specs.Bytes.{Bytes}
use Rattle.rules.specs.Layout.{kind_at, a_at, b_at, c_at, cells_before, held, is_clear, hold_branch}
use Rattle.rules.specs.Kinds.{is_signal}
use Rattle.rules.specs.Node.{IsNode}
use Rattle.rules.specs.Shaped.{NodeOf}
use Rattle.rules.specs.Scope.{has_branch}
use Rattle.rules.specs.Tree.{Signal, Branches, signal_at, branches_at, cases_at}
use Rattle.rules.specs.Bound.{bound_s, bound_sc, bound_u, bound_ub, bound_uc}
use Rattle.rules.specs.Reset.{reset_s}
use Rattle.rules.specs.Work.{Updated, Next, Jump, moved, ruleᵘ}
use Rattle.rules.specs.Evaluate.{Env, bind, eval_s}
use Rattle.rules.specs.declared.Node.{Node}
use Rattle.rules.specs.declared.Tally.{Tally}
use Rattle.rules.specs.declared.Value.{Value}
use Rattle.rules.specs.Moved.{Moved, Stay}
use Rattle.rules.specs.Evaluated.{Evaluated, Done}
use Rattle.rules.proofs.Signals.{delay_tree, let_tree, switch_kids, switch_tree, group_tree, until_tree, case_law, case_on}
use Rattle.rules.proofs.Within.{Withinᵘ, eval_s_within}
use Rattle.rules.proofs.Branches.{found}
use Rattle.current.specs.Current.{leaves}
use Rattle.recalled.specs.Recall.{Memory, Recalled, leaving, recall_s}
use Rattle.noted.specs.Noted.{memory_in, Noted}
use Rattle.outcomes.specs.Combine.{work_of as evalWork, parts, parts_of}
use Rattle.outcomes.proofs.Outcomes.{work_within, take_work}
use Rattle.moves.specs.Outcomes.{calm_of, count_in, moved_in}
use Rattle.moves.specs.Parts.{in_switch}
use Rattle.moves.specs.Lent.{ReadyAs, CaseAs}
use Rattle.moves.proofs.OutcomeLaws.{still_work, moved_within}
use Rattle.moves.proofs.NumberLaws.{count_of}
use Rattle.moves.proofs.ReadyLaws.{let_parts, group_list}
use Rattle.moves.proofs.RecallBounds.{recall_within}

-- Of an evaluation.
module _ (rec st : Bytes) (env : Env) (s : Signal) {r : Evaluated} (q : r ≡ eval_s rec st env s) where
  eval_work : evalWork r ≤ bound_s s
  eval_work = rw q (work_within _ (eval_s_within rec st env s))

  pub done_work : {v : Value} {u : Tally} → r ≡ Done v u → u.work ≤ bound_s s
  done_work e = omega (arith, ap evalWork e, eval_work)

  pub parts_work : {e : Option ℕ} {u : Tally} → parts_of r ≡ parts e u → u.work ≤ bound_s s
  parts_work e = omega (arith, take_work r e, eval_work)

-- Of a let's definition, by the slot that it is noted in.
slot_work : {p : Bytes} {index : List ℕ} {s i : ℕ} {e : Env} {n : Node} → ReadyAs 5 p index s e i n → (l : List ℕ) → Noted p l
    → {v : Value} {u : Tally} → memory_in l i ≡ Done v u → u.work ≤ bound_s (signal_at p n.a)
slot_work {p} {i = i} r l h d =
    omega (arith, ap evalWork d, h.bounded i r.ready.node r.kind, ap (λ (k : ℕ). bound_s (signal_at p k)) r.fields.a_is)

-- Of an update, by its number.
number_within : (r : ℕ) (st : Bytes) {mem : Memory} {x : Recalled} {b : ℕ} → leaving (moved (moved_in r) st) mem ≡ x → Withinᵘ x.outcome b → count_in r ≤ b
number_within r st e h = omega (arith, count_of r, moved_within (moved_in r) st (ap (λ (y : Recalled). y.outcome) e) h)

module _ {p : Bytes} {l : List ℕ} (i : ℕ) (w : NodeOf is_signal p i) (h : Noted p l) (rec : Bytes) (env : Env) (st : Bytes) (r : ℕ) (st₁ : Bytes) {mem : Memory}
    (q : leaving (moved (moved_in r) st₁) mem ≡ recall_s rec env (signal_at p i) st (memory_in l)) where
  pub number_work : count_in r ≤ bound_u (signal_at p i)
  number_work = number_within r st₁ q (recall_within i w h rec env st)

  pub calm_work : {u : Tally} → calm_of (moved_in r) ≡ Some u → u.work ≤ bound_u (signal_at p i)
  calm_work c = omega (arith, still_work (moved_in r) c, count_of r, number_work)

-- Of a switch's part that is current.
pick_work : (t : Bool) (A B : Recalled) {x y : ℕ} → Withinᵘ A.outcome x → Withinᵘ B.outcome y → (r : ℕ) (st : Bytes) {mem : Memory}
    → leaving (moved (moved_in r) st) mem ≡ (if t then A else B) → count_in r ≤ max x y
pick_work true A B h g r st q = omega (arith, number_within r st q h)
pick_work false A B h g r st q = omega (arith, number_within r st q g)

pub switch_work : {p : Bytes} {l : List ℕ} (i : ℕ) → NodeOf is_signal p i → kind_at p i ≡ 6 → Noted p l → (rec : Bytes) (env : Env) (st : Bytes) (r : ℕ) (st₁ : Bytes) {mem : Memory}
    → leaving (moved (moved_in r) st₁) mem ≡ in_switch p i rec env st (memory_in l)
    → count_in r ≤ max (bound_u (signal_at p (a_at p i))) (bound_u (signal_at p (c_at p i)))
switch_work {p} i w e h rec env st r st₁ q =
    let k = switch_kids p i w e in
    pick_work (is_clear st (cells_before p i)) _ _ (recall_within (a_at p i) k.0.node h rec env st)
    (recall_within (c_at p i) k.2.node h rec (bind env i (held st (cells_before p i))) st) r st₁ q

-- The sums, by the bound of the whole.
module _ {p : Bytes} {index : List ℕ} {s i : ℕ} {e : Env} {n : Node} where
  pub delay_sum : ReadyAs 4 p index s e i n → {u w : ℕ} → u ≤ bound_s (signal_at p n.a) → w ≤ bound_u (signal_at p n.a) → u + w < 524287
  unfolding bound_u
  delay_sum r h g =
      let b = ap bound_u (delay_tree p i r.ready.node r.kind) in
      let x = ap (λ (k : ℕ). bound_s (signal_at p k)) r.fields.a_is in
      let y = ap (λ (k : ℕ). bound_u (signal_at p k)) r.fields.a_is in
      omega (arith, r.ready.small)

  -- a let by what is noted of its definition, by the definition's update and by the body's count k, which is 0 before the body is updated
  pub let_sum : ReadyAs 5 p index s e i n → {l : List ℕ} → Noted p l → {v : Value} {u : Tally} → memory_in l i ≡ Done v u
      → (rec : Bytes) (env : Env) (st : Bytes) (x : ℕ) (st₁ : Bytes) {mem : Memory} → leaving (moved (moved_in x) st₁) mem ≡ recall_s rec env (signal_at p n.a) st (memory_in l)
      → {w : Tally} → calm_of (moved_in x) ≡ Some w → {k : ℕ} → k ≤ bound_u (signal_at p n.b) → u.work + w.work + k < 524287
  unfolding bound_u
  let_sum r {l} t d rec env st x st₁ q c h =
      let b = ap bound_u (let_tree p i r.ready.node r.kind) in
      let f = ap (λ (k : ℕ). bound_s (signal_at p k)) r.fields.a_is in
      let y = ap (λ (k : ℕ). bound_u (signal_at p k)) r.fields.a_is in
      let z = ap (λ (k : ℕ). bound_u (signal_at p k)) r.fields.b_is in
      omega (arith, slot_work r l t d, calm_work n.a (let_parts r).0.ready.node t rec env st x st₁ q c, r.ready.small)

  -- the part's count k is 0 where the switch catches
  pub switch_sum : ReadyAs 6 p index s e i n → {u w k : ℕ} → u ≤ bound_s (signal_at p n.b) → w ≤ bound_u (signal_at p n.b)
      → k ≤ max (bound_u (signal_at p (a_at p i))) (bound_u (signal_at p (c_at p i))) → u + w + k < 524287
  unfolding bound_u
  switch_sum r h g l =
      let b = ap bound_u (switch_tree p i r.ready.node r.kind) in
      let x = ap (λ (k : ℕ). bound_s (signal_at p k)) r.fields.b_is in
      let y = ap (λ (k : ℕ). bound_u (signal_at p k)) r.fields.b_is in
      omega (arith, r.ready.small)

  pub group_sum : ReadyAs 7 p index s e i n → {k : ℕ} → k ≤ bound_u (signal_at p n.a) → k < 524287
  unfolding bound_u
  group_sum r h =
      let b = ap bound_u (group_tree p i r.ready.node r.kind) in
      let x = ap (λ (k : ℕ). bound_u (signal_at p k)) r.fields.a_is in
      omega (arith, r.ready.small)

  pub branch_sum : ReadyAs 7 p index s e i n → {which : ℕ} {t : Bool} {m : Node} → t ≡ has_branch which (branches_at p n.b) → t ≡ true → IsNode p which m
      → {k : ℕ} → k ≤ bound_u (signal_at p m.a) → k < 524287
  unfolding bound_u
  branch_sum r {which} h g q l =
      let b = ap bound_u (group_tree p i r.ready.node r.kind) in
      let f = found p n.b which (group_list r) (sym h ∙ g) in
      let u : bound_u (signal_at p (a_at p which)) ≤ bound_ub (branches_at p (b_at p i)) = rw r.fields.b_is at f.update in
      let x = ap (λ (k : ℕ). bound_u (signal_at p k)) q.a_is in
      omega (arith, r.ready.small)

  -- an until by its walk alone, and by its walk and its signal
  pub walk_sum : ReadyAs 8 p index s e i n → {u : ℕ} → u ≤ bound_sc (cases_at p n.b) + bound_uc (cases_at p n.b) → u < 524287
  unfolding bound_u
  walk_sum r h =
      let b = ap bound_u (until_tree p i r.ready.node r.kind) in
      let x = ap (λ (k : ℕ). bound_sc (cases_at p k)) r.fields.b_is in
      let y = ap (λ (k : ℕ). bound_uc (cases_at p k)) r.fields.b_is in
      omega (arith, r.ready.small)

  pub until_sum : ReadyAs 8 p index s e i n → {u k : ℕ} → u ≤ bound_sc (cases_at p n.b) + bound_uc (cases_at p n.b) → k ≤ bound_u (signal_at p n.a) → u + k < 524287
  unfolding bound_u
  until_sum r h g =
      let b = ap bound_u (until_tree p i r.ready.node r.kind) in
      let x = ap (λ (k : ℕ). bound_sc (cases_at p k)) r.fields.b_is in
      let y = ap (λ (k : ℕ). bound_uc (cases_at p k)) r.fields.b_is in
      let z = ap (λ (k : ℕ). bound_u (signal_at p k)) r.fields.a_is in
      omega (arith, r.ready.small)

  -- a case's event alone, and the walk from the next case on with the event's update
  pub event_sum : CaseAs p index s e i n → {u : ℕ} → u ≤ bound_s (signal_at p n.a) → u ≤ bound_sc (cases_at p i) + bound_uc (cases_at p i)
  unfolding bound_sc
  event_sum r h =
      let b = ap bound_sc (case_law p i r.ready.node refl) in
      let x = ap (λ (k : ℕ). bound_s (signal_at p k)) r.fields.a_is in
      omega arith

  pub rest_sum : CaseAs p index s e i n → (n.b ≡ 65535 → ⊥) → {u k : ℕ} → u ≤ bound_sc (cases_at p n.b) + bound_uc (cases_at p n.b) → k ≤ bound_u (signal_at p n.a)
      → u + k < 524288
  unfolding bound_sc bound_uc
  rest_sum r d h g =
      let t = case_on p i r.ready.node (λ q. d (r.fields.b_is ∙ q)) in
      let b = ap bound_sc t in
      let c = ap bound_uc t in
      let x = ap (λ (k : ℕ). bound_sc (cases_at p k)) r.fields.b_is in
      let y = ap (λ (k : ℕ). bound_uc (cases_at p k)) r.fields.b_is in
      let z = ap (λ (k : ℕ). bound_u (signal_at p k)) r.fields.a_is in
      omega (arith, r.ready.small)

-- What a group does with the outcome of its part.
module _ (k : ℕ) (part : Signal) (brs : Branches) (r : Moved) (st : Bytes) {x : Updated} where
  pub leaves_stay : {w : Tally} → r ≡ Stay w → x ≡ ruleᵘ (moved r st) → x ≡ ruleᵘ (leaves k part brs (moved r st))
  unfolding moved leaves
  leaves_stay e z = z ∙ rw e

  pub leaves_stuck : r ≡ Moved.Stuck → x ≡ ruleᵘ (moved r st) → x ≡ ruleᵘ (leaves k part brs (moved r st))
  unfolding moved leaves
  leaves_stuck e z = z ∙ rw e

  pub leaves_other : {t : ℕ} {v : Value} {w : Tally} → r ≡ Moved.Jump t v w → has_branch t brs ≡ false → x ≡ ruleᵘ (moved r st) → x ≡ ruleᵘ (leaves k part brs (moved r st))
  unfolding moved leaves
  leaves_other e h z = z ∙ rw (e, h)

  pub leaves_here : {t : ℕ} {v : Value} {w : Tally} → r ≡ Moved.Jump t v w → has_branch t brs ≡ true
      → {st₁ : Bytes} → st₁ ≡ reset_s part (hold_branch st k t v) → x ≡ ruleᵘ (moved (Stay w) st₁)
      → x ≡ ruleᵘ (leaves k part brs (moved r st))
  unfolding moved leaves
  leaves_here {t} {v} {w} e h s z = z ∙ ap (λ (b : Bytes). ruleᵘ (Next b w)) s ∙ rw (e, h)
