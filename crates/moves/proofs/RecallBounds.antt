-- The work of the update by the memory is at most the bound, whatever the environment, the record and the state, where no let's slot counts more
-- than its definition's bound; and so it is afterwards.
-- Assumes nothing.
use Rattle.std.specs.Prelude.{if◌then◌else◌}
use mathlib.Core.Path.{◌≡◌, refl, sym, subst}
use mathlib.Core.Bool.{Bool, true, false}
use mathlib.Core.List.{List}
use Prim.Native.Nat.{ℕ, zero, suc, ◌+◌, ◌≤◌, ◌<◌}
use native.Mathlib.Nat.{not-suc-le-zero}
use native.Mathlib.Omega.{arith}
use lib.Dec.{eqb}
use borrow.Author.Tests.{eqb-true}
use Rattle.rules.specs.Bytes.{Bytes}
use Rattle.rules.specs.Layout.{kind_at, a_at, b_at, is_clear}
use Rattle.rules.specs.Kinds.{is_signal, is_branch, is_case}
use Rattle.rules.specs.Shaped.{NodeOf}
use Rattle.rules.specs.Tree.{Signal, input, time, ext, delay, let_signal, switch, group, until, Branches, no_branch, branch, Cases, no_case, case, signal_at, branches_at, cases_at}
use Rattle.rules.specs.Bound.{bound_s, bound_sc, bound_u, bound_ub, bound_uc}
use Rattle.rules.specs.Work.{Updated, Next, Jump, Halted, stays, ruleᵘ, ◌with◌, ◌thenᵘ◌}
use Rattle.rules.specs.Evaluate.{Env, opened, eval_s}
use Rattle.rules.specs.Update.{on_occurrence}
use Rattle.rules.specs.declared.Value.{Value}
use Rattle.rules.specs.Opened.{Opened, Here, Gone, Amiss}
use Rattle.rules.specs.Evaluated.{Evaluated, Done, Stuck}
use Rattle.rules.specs.Occurrence.{Occurrence, Took, Quiet}
use Rattle.rules.proofs.Nodes.{signal_input, signal_time}
use Rattle.rules.proofs.Signals.{ext_tree, delay_kid, delay_tree, let_kids, let_tree, switch_kids, switch_tree, group_kids, group_tree, until_kids, until_tree, branch_kid, branch_next, branch_end, branch_on, case_kid, case_next, case_end, case_on}
use Rattle.rules.proofs.ByKind.{SignalKind, is_input, is_time, is_ext, is_delay, is_let, is_switch, is_group, is_until, signal_kind, choose}
use Rattle.rules.proofs.Within.{Within, Withinᵘ, Withinᵒ, eval_s_within, freeᵘ, widerᵘ, rule_withinᵘ, leave_within, with_within, then_withinᵘ, stays_within, on_occurrence_within}
use Rattle.current.specs.Current.{leaves}
use Rattle.current.proofs.Bounds.{soonest_within, leaves_within}
use Rattle.outcomes.specs.Combine.{work_of}
use Rattle.outcomes.proofs.Outcomes.{work_within}
use Rattle.recalled.specs.Recall.{Memory, Recalled, note, noted, past, past_if, fill_s, fill_b, fill_c, on_outcome, withᵐ, fromᵐ, thenᵐ, eventᵐ, on_eventᵐ, on_occurrenceᵐ, recall_s, recall_b, recall_c}
use Rattle.noted.specs.Noted.{memory_in, Noted}

-- A let of the table, by its number: what a slot of the memory is about.
pub record IsLet (p : Bytes) (n : ℕ) (d : Signal) : Type 0 where
  pub node : NodeOf is_signal p n
  pub kind : kind_at p n ≡ 5
  pub defined : signal_at p (a_at p n) ≡ d

-- The lets of a tree are the table's.
abbrev mutual
  pub OwnS : Bytes → Signal → Type 0
  OwnS p (input n c) = Unit {0}
  OwnS p (time n) = Unit {0}
  OwnS p (ext n e) = Unit {0}
  OwnS p (delay n k v s) = OwnS p s
  OwnS p (let_signal n t d b) = IsLet p n d × OwnS p d × OwnS p b
  OwnS p (switch n k t x e y) = OwnS p x × OwnS p e × OwnS p y
  OwnS p (group n k body brs) = OwnS p body × OwnB p brs
  OwnS p (until n s cs) = OwnS p s × OwnC p cs

  pub OwnB : Bytes → Branches → Type 0
  OwnB p no_branch = Unit {0}
  OwnB p (branch n t body next) = OwnS p body × OwnB p next

  pub OwnC : Bytes → Cases → Type 0
  OwnC p no_case = Unit {0}
  OwnC p (case n event target t next) = OwnS p event × OwnC p next

record Own (p : Bytes) (n : ℕ) : Type 0 where
  signals : NodeOf is_signal p n → OwnS p (signal_at p n)
  branches : NodeOf is_branch p n → OwnB p (branches_at p n)
  cases : NodeOf is_case p n → OwnC p (cases_at p n)

module _ (p : Bytes) (n : ℕ) (ih : (m : ℕ) → m < n → Own p m) where
  signal_own : NodeOf is_signal p n → SignalKind (kind_at p n) → OwnS p (signal_at p n)
  signal_own w (is_input e) = subst (OwnS p) (sym (signal_input p n e)) tt
  signal_own w (is_time e) = subst (OwnS p) (sym (signal_time p n e)) tt
  signal_own w (is_ext e) = subst (OwnS p) (sym (ext_tree p n w e)) tt
  signal_own w (is_delay e) =
      let k = delay_kid p n w e in
      subst (OwnS p) (sym (delay_tree p n w e)) ((ih _ k.less).signals k.node)
  signal_own w (is_let e) =
      let k = let_kids p n w e in
      subst (OwnS p) (sym (let_tree p n w e))
      (record { node = w; kind = e; defined = refl }, (ih _ k.0.less).signals k.0.node, (ih _ k.1.less).signals k.1.node)
  signal_own w (is_switch e) =
      let k = switch_kids p n w e in
      subst (OwnS p) (sym (switch_tree p n w e))
      ((ih _ k.0.less).signals k.0.node, (ih _ k.1.less).signals k.1.node, (ih _ k.2.less).signals k.2.node)
  signal_own w (is_group e) =
      let k = group_kids p n w e in
      subst (OwnS p) (sym (group_tree p n w e)) ((ih _ k.0.less).signals k.0.node, (ih _ k.1.less).branches k.1.node)
  signal_own w (is_until e) =
      let k = until_kids p n w e in
      subst (OwnS p) (sym (until_tree p n w e)) ((ih _ k.0.less).signals k.0.node, (ih _ k.1.less).cases k.1.node)

  branch_own : NodeOf is_branch p n → OwnB p (branches_at p n)
  branch_own w =
      let k = branch_kid p n w in
      choose (b_at p n) 65535
      (λ e. subst (OwnB p) (sym (branch_end p n w e)) ((ih _ k.less).signals k.node, tt))
      (λ d. let o = branch_next p n w d in subst (OwnB p) (sym (branch_on p n w d)) ((ih _ k.less).signals k.node, (ih _ o.less).branches o.node))

  case_own : NodeOf is_case p n → OwnC p (cases_at p n)
  case_own w =
      let k = case_kid p n w in
      choose (b_at p n) 65535
      (λ e. subst (OwnC p) (sym (case_end p n w e)) ((ih _ k.less).signals k.node, tt))
      (λ d. let o = case_next p n w d in subst (OwnC p) (sym (case_on p n w d)) ((ih _ k.less).signals k.node, (ih _ o.less).cases o.node))

own : (p : Bytes) (f n : ℕ) → n < f → Own p n
own p zero n h = absurd (not-suc-le-zero h)
own p (suc f) n h =
    let ih : (m : ℕ) → m < n → Own p m = λ m l. own p f m (omega arith) in
    record {
      signals = λ w. signal_own p n ih w (signal_kind (kind_at p n) w.sorted);
      branches = branch_own p n ih;
      cases = case_own p n ih;
    }

pub own_cases : (p : Bytes) (n : ℕ) → NodeOf is_case p n → OwnC p (cases_at p n)
own_cases p n w = (own p (suc n) n (omega arith)).cases w

-- No let's slot counts more than its definition's bound.
pub record Bounded (p : Bytes) (m : Memory) : Type 0 where
  pub most : (n : ℕ) → NodeOf is_signal p n → kind_at p n ≡ 5 → work_of (m n) ≤ bound_s (signal_at p (a_at p n))

pub noted_bounded : {p : Bytes} {l : List ℕ} → Noted p l → Bounded p (memory_in l)
noted_bounded h = record { most = h.bounded }

work_fits : (r : Evaluated) {b : ℕ} → work_of r ≤ b → Within r b
work_fits (Done v u) h = record { most = h }
work_fits Stuck h = record { most = tt }

let_fits : {p : Bytes} {n : ℕ} {d : Signal} {m : Memory} → IsLet p n d → Bounded p m → Within (m n) (bound_s d)
let_fits {p} {n} {d} {m} l h = subst (λ (s : Signal). Within (m n) (bound_s s)) l.defined (work_fits (m n) (h.most n l.node l.kind))

note_bounded : {p : Bytes} {n : ℕ} {d : Signal} (m : Memory) → IsLet p n d → Bounded p m → (r : Evaluated) → Within r (bound_s d) → Bounded p (note m n r)
unfolding note
note_bounded {p} {n} {d} m l h r e = record { most = λ j w k. go j w k (eqb n j) refl }
  where
    own_slot : work_of r ≤ bound_s (signal_at p (a_at p n))
    own_slot = subst (λ (s : Signal). work_of r ≤ bound_s s) (sym l.defined) (work_within r e)

    go : (j : ℕ) → NodeOf is_signal p j → kind_at p j ≡ 5 → (b : Bool) → eqb n j ≡ b → work_of (if b then r else m j) ≤ bound_s (signal_at p (a_at p j))
    go j w k true q = subst (λ (i : ℕ). work_of r ≤ bound_s (signal_at p (a_at p i))) (eqb-true n j q) own_slot
    go j w k false q = h.most j w k

either_bounded : {p : Bytes} (b : Bool) (m q : Memory) → Bounded p m → Bounded p q → Bounded p (if b then m else q)
either_bounded true m q h g = h
either_bounded false m q h g = g

noted_goes : {p : Bytes} (r : Evaluated) (m : Memory) (f : Value → Memory) → Bounded p m → ((v : Value) → Bounded p (f v)) → Bounded p (noted r m f)
unfolding noted
noted_goes (Done v u) m f h g = g v
noted_goes Stuck m f h g = h

past_bounded : {p : Bytes} (r : Evaluated) (m q : Memory) → Bounded p m → Bounded p q → Bounded p (past r m q)
unfolding past past_if
past_bounded {p} (Done v u) m q h g = go (opened v)
  where
    go : (o : Opened) → Bounded p (past_if o m q)
    go (Here w) = h
    go Gone = g
    go Amiss = h
past_bounded Stuck m q h g = h

-- What an evaluation notes.
module _ (p rec st : Bytes) where
  mutual
    unfolding fill_s

    fill_s_bounded : (s : Signal) (env : Env) (m : Memory) → OwnS p s → Bounded p m → Bounded p (fill_s rec st env s m)
    fill_s_bounded (input n c) env m o h = h
    fill_s_bounded (time n) env m o h = h
    fill_s_bounded (ext n e) env m o h = h
    fill_s_bounded (delay n k v s) env m o h = h
    fill_s_bounded (let_signal n t d b) env m o h =
        let k = note_bounded (fill_s rec st env d m) o.0 (fill_s_bounded d env m o.1 h) (eval_s rec st env d) (eval_s_within rec st env d) in
        noted_goes (eval_s rec st env d) _ _ k λ v. fill_s_bounded b _ _ o.2 k
    fill_s_bounded (switch n k t x e y) env m o h = either_bounded (is_clear st k) _ _ (fill_s_bounded x env m o.0 h) (fill_s_bounded y _ m o.2 h)
    fill_s_bounded (group n k body brs) env m o h = either_bounded (is_clear st k) _ _ (fill_s_bounded body env m o.0 h) (fill_b_bounded brs env _ _ m o.1 h)
    fill_s_bounded (until n s cs) env m o h = fill_s_bounded s env m o.0 h

    fill_b_bounded : (brs : Branches) (env : Env) (which : ℕ) (v : Value) (m : Memory) → OwnB p brs → Bounded p m → Bounded p (fill_b rec st env which v brs m)
    fill_b_bounded no_branch env which v m o h = h
    fill_b_bounded (branch n t body next) env which v m o h =
        either_bounded (eqb n which) _ _ (fill_s_bounded body _ m o.0 h) (fill_b_bounded next env which v m o.1 h)

  pub fill_c_bounded : (cs : Cases) (env : Env) (m : Memory) → OwnC p cs → Bounded p m → Bounded p (fill_c rec st env cs m)
  unfolding fill_c
  fill_c_bounded no_case env m o h = h
  fill_c_bounded (case n event target t next) env m o h =
      let k = fill_s_bounded event env m o.0 h in
      past_bounded (eval_s rec st env event) _ _ k (fill_c_bounded next env _ o.1 k)

-- An update's work within a bound, and what it leaves in the memory.
pub record Fine (p : Bytes) (r : Recalled) (b : ℕ) : Type 0 where
  pub within : Withinᵘ r.outcome b
  pub bounded : Bounded p r.memory

module _ {p : Bytes} where
  wider_fine : (r : Recalled) {b c : ℕ} → Fine p r b → b ≤ c → Fine p r c
  wider_fine r h l = record { within = widerᵘ _ h.within l; bounded = h.bounded }

  rule_fine : (r : Recalled) {b : ℕ} → Fine p r b → Fine p (on_outcome ruleᵘ r) (1 + b)
  unfolding on_outcome
  rule_fine r h = record { within = rule_withinᵘ _ h.within; bounded = h.bounded }

  stays_fine : (r : Recalled) {b : ℕ} → Fine p r b → Fine p (on_outcome stays r) b
  unfolding on_outcome
  stays_fine r h = record { within = stays_within _ h.within; bounded = h.bounded }

  leaves_fine : (k : ℕ) (part : Signal) (brs : Branches) (r : Recalled) {b : ℕ} → Fine p r b → Fine p (on_outcome (leaves k part brs) r) b
  unfolding on_outcome
  leaves_fine k part brs r h = record { within = leaves_within k part brs _ h.within; bounded = h.bounded }

  either_fine : (t : Bool) (r s : Recalled) {b : ℕ} → Fine p r b → Fine p s b → Fine p (if t then r else s) b
  either_fine true r s h g = h
  either_fine false r s h g = g

  with_fine : (r : Evaluated) (m : Memory) (f : Value → Recalled) {b c : ℕ} → Within r b → Bounded p m → ((v : Value) → Fine p (f v) c) → Fine p (withᵐ r m f) (b + c)
  unfolding withᵐ on_outcome ◌with◌
  with_fine (Done v u) m f h k g = record { within = with_within (Done v u) (λ a. (f a).outcome) h (λ a. (g a).within); bounded = (g v).bounded }
  with_fine Stuck m f h k g = record { within = freeᵘ; bounded = k }

  from_fine : (o : Updated) (m : Memory) (f : Bytes → Memory → Recalled) {b c : ℕ} → Withinᵘ o b → Bounded p m
      → ((st : Bytes) (q : Memory) → Bounded p q → Fine p (f st q) c) → Fine p (fromᵐ o m f) (b + c)
  unfolding fromᵐ on_outcome ◌thenᵘ◌
  from_fine (Next st u) m f h k g = record { within = then_withinᵘ (Next st u) (λ s. (f s m).outcome) h (λ s. (g s m k).within); bounded = (g st m k).bounded }
  from_fine (Jump target v st u) m f h k g = record { within = freeᵘ; bounded = k }
  from_fine Halted m f h k g = record { within = freeᵘ; bounded = k }

  then_fine : (r : Recalled) (f : Bytes → Memory → Recalled) {b c : ℕ} → Fine p r b → ((st : Bytes) (q : Memory) → Bounded p q → Fine p (f st q) c)
      → Fine p (thenᵐ r f) (b + c)
  unfolding thenᵐ
  then_fine r f h g = from_fine r.outcome r.memory f h.within h.bounded g

  stop_fine : (o : Opened) (m : Memory) (r : Recalled) {b : ℕ} → Bounded p m → Fine p r b → Fine p (eventᵐ o m r) b
  unfolding eventᵐ
  stop_fine (Here v) m r k h = h
  stop_fine Gone m r k h = h
  stop_fine Amiss m r k h = record { within = freeᵘ; bounded = k }

  event_fine : (o : Opened) (m : Memory) (f : Value → Updated) (q : Recalled) {b : ℕ} → Bounded p m → ((v : Value) → Withinᵘ (f v) b) → Fine p q b
      → Fine p (on_eventᵐ o m f q) b
  unfolding on_eventᵐ
  event_fine (Here v) m f q k g h = record { within = g v; bounded = k }
  event_fine Gone m f q k g h = h
  event_fine Amiss m f q k g h = record { within = freeᵘ; bounded = k }

  pub occurrence_fine : (o : Occurrence) (st : Bytes) (m : Memory) (q : Recalled) {b c : ℕ} → Withinᵒ o b → Bounded p m → Fine p q c
      → Fine p (on_occurrenceᵐ o st m q) (b + c)
  unfolding on_occurrenceᵐ on_outcome on_occurrence
  occurrence_fine (Took target v u) st m q h k g = record { within = on_occurrence_within (Took target v u) st q.outcome h g.within; bounded = k }
  occurrence_fine (Quiet u) st m q h k g = record { within = on_occurrence_within (Quiet u) st q.outcome h g.within; bounded = g.bounded }
  occurrence_fine Occurrence.Stuck st m q h k g = record { within = freeᵘ; bounded = k }

module _ (p rec : Bytes) where
  mutual
    unfolding recall_s bound_u bound_sc

    pub recall_s_fine : (s : Signal) (env : Env) (st : Bytes) (m : Memory) → OwnS p s → Bounded p m → Fine p (recall_s rec env s st m) (bound_u s)
    recall_s_fine (input n c) env st m o h = record { within = rule_withinᵘ _ {b = 0} (leave_within st); bounded = h }
    recall_s_fine (time n) env st m o h = record { within = rule_withinᵘ _ {b = 0} (leave_within st); bounded = h }
    recall_s_fine (ext n e) env st m o h = record { within = rule_withinᵘ _ {b = 0} (leave_within st); bounded = h }
    recall_s_fine (delay n k v s) env st m o h =
        let f = fill_s_bounded p rec st s env m o h in
        rule_fine _ (with_fine _ _ _ (eval_s_within rec st env s) f λ w.
        wider_fine _ (then_fine _ _ (recall_s_fine s env st _ o f) λ st₁ q g. record { within = leave_within _ {b = 0}; bounded = g }) (omega arith))
    recall_s_fine (let_signal n t d b) env st m o h =
        rule_fine _ (with_fine (m n) m _ (let_fits o.0 h) h λ v.
        then_fine _ _ (recall_s_fine d _ st m o.1 h) λ st₁ q g. recall_s_fine b _ st₁ q o.2 g)
    recall_s_fine (switch n k t x e y) env st m o h =
        let f = fill_s_bounded p rec st e env m o.1 h in
        rule_fine _ (with_fine _ _ _ (eval_s_within rec st env e) f λ event.
        stop_fine (opened event) _ _ f (then_fine _ _ (recall_s_fine e env st _ o.1 f) λ st₁ q g.
        event_fine (opened event) q _ _ g (λ v. leave_within _)
        (stays_fine _ (either_fine (is_clear st₁ k) _ _
        (wider_fine _ (recall_s_fine x env st₁ q o.0 g) (omega arith)) (wider_fine _ (recall_s_fine y _ st₁ q o.2 g) (omega arith))))))
    recall_s_fine (group n k body brs) env st m o h =
        rule_fine _ (either_fine (is_clear st k) _ _
        (leaves_fine k body brs _ (wider_fine _ (recall_s_fine body env st m o.0 h) (omega arith)))
        (wider_fine _ (recall_b_fine brs env k _ _ brs st m o.1 h) (omega arith)))
    recall_s_fine (until n s cs) env st m o h =
        let f = fill_c_bounded p rec st cs env m o.1 h in
        rule_fine _ (occurrence_fine _ st _ _ (soonest_within rec st env cs) f
        (then_fine _ _ (recall_c_fine cs env st _ o.1 f) λ st₁ q g. stays_fine _ (recall_s_fine s env st₁ q o.0 g)))

    recall_b_fine : (brs : Branches) (env : Env) (k which : ℕ) (v : Value) (all : Branches) (st : Bytes) (m : Memory) → OwnB p brs → Bounded p m
        → Fine p (recall_b rec env k which v all brs st m) (bound_ub brs)
    recall_b_fine no_branch env k which v all st m o h = record { within = freeᵘ; bounded = h }
    recall_b_fine (branch n t body next) env k which v all st m o h =
        either_fine (eqb n which) _ _
        (leaves_fine k body all _ (wider_fine _ (recall_s_fine body _ st m o.0 h) (omega arith)))
        (wider_fine _ (recall_b_fine next env k which v all st m o.1 h) (omega arith))

    pub recall_c_fine : (cs : Cases) (env : Env) (st : Bytes) (m : Memory) → OwnC p cs → Bounded p m → Fine p (recall_c rec env cs st m) (bound_uc cs)
    recall_c_fine no_case env st m o h = record { within = leave_within st; bounded = h }
    recall_c_fine (case n event target t next) env st m o h =
        wider_fine _ (then_fine _ _ (recall_c_fine next env st m o.1 h) λ st₁ q g. stays_fine _ (recall_s_fine event env st₁ q o.0 g)) (omega arith)

-- The update of signal i of the table, with the memory in slots.
pub recall_within : {p : Bytes} {l : List ℕ} (i : ℕ) → NodeOf is_signal p i → Noted p l → (rec : Bytes) (env : Env) (st : Bytes)
    → Withinᵘ (recall_s rec env (signal_at p i) st (memory_in l)).outcome (bound_u (signal_at p i))
recall_within {p} {l} i w h rec env st =
    (recall_s_fine p rec (signal_at p i) env st (memory_in l) ((own p (suc i) i (omega arith)).signals w) (noted_bounded h)).within
