-- The walk over an until's cases, from case to case, and the until itself by its walk.
-- Assumes nothing.
use Rattle.std.specs.Prelude.{if◌then◌else◌, Some, None}
use mathlib.Core.Path.{◌≡◌, refl, sym, ap, ◌∙◌, subst}
use mathlib.Core.Bool.{Bool, true, false}
use mathlib.Core.List.{List}
use Prim.Native.Nat.{ℕ, ◌+◌, ◌-◌, ◌≤◌}
use lib.Dec.{eqb}
use native.Mathlib.Omega.{arith}
use Rattle.rules.specs.Bytes.{Bytes, ◌or◌}
use Rattle.rules.specs.Values.{is_plain, is_maybe, type_in, present_in, word_in, value_from, unpacked}
use Rattle.rules.specs.Layout.{kind_at, a_at, b_at, c_at}
use Rattle.rules.specs.Kinds.{is_signal, is_case}
use Rattle.rules.specs.Node.{IsNode}
use Rattle.rules.specs.Shaped.{NodeOf}
use Rattle.rules.specs.Tree.{Signal, Cases, no_case, case, signal_at, cases_at}
use Rattle.rules.specs.Bound.{bound_sc, bound_uc}
use Rattle.rules.specs.Work.{nothing, ◌plus◌, Updated, Next, Jump, Halted, moved, stays, leave, afterᵘ, ruleᵘ}
use Rattle.rules.specs.Evaluate.{Env, opened, eval_s}
use Rattle.rules.specs.Update.{laterᵒ, occurs_if, occurs}
use Rattle.current.specs.Current.{shortly, soonest}
use Rattle.current.proofs.Bounds.{soonest_within}
use Rattle.recalled.specs.Recall.{Memory, Recalled, past, past_if, fill_s, fill_c, leaving, on_outcome, fromᵐ, thenᵐ, on_occurrenceᵐ, recall_s, recall_c}
use Rattle.noted.specs.Noted.{memory_in, Noted}
use Rattle.rules.specs.declared.Node.{Node}
use Rattle.rules.specs.declared.Tally.{Tally}
use Rattle.rules.specs.declared.Value.{Value}
use Rattle.rules.specs.declared.Value.TheVariants.{Plain, Absent, Present}
use Rattle.rules.specs.Opened.{Opened, Here, Gone, Amiss}
use Rattle.rules.specs.Moved.{Moved, Stay}
use Rattle.rules.specs.Evaluated.{Evaluated, Done, Stuck}
use Rattle.rules.specs.Occurrence.{Occurrence, Took, Quiet}
use Rattle.rules.proofs.Nodes.{below_lt, below_ge}
use Rattle.rules.proofs.Signals.{until_tree, case_law, case_next}
use Rattle.rules.proofs.Within.{Withinᵘ}
use Rattle.outcomes.specs.Combine.{parts, parts_by, parts_of}
use Rattle.outcomes.specs.Outcome.{IsValue}
use Rattle.outcomes.proofs.Outcomes.{take_value, parts_here, parts_same, parts_apart}
use Rattle.outcomes.proofs.Tallies.{same_tally, plus_assoc}
use Rattle.moves.specs.Outcomes.{work_of, calm_of, walked, on_walked, walked_on, next_cases}
use Rattle.moves.proofs.OutcomeLaws.{still_work, moved_within}
use Rattle.moves.proofs.RecallBounds.{own_cases, noted_bounded, fill_c_bounded, occurrence_fine, recall_c_fine}

amiss_here : {x : Value} → Amiss ≡ Here x → ⊥
amiss_here e = let z : ◌≡◌ {A = ℕ} 0 1 = cc in omega arith

gone_here : {x : Value} → Gone ≡ Here x → ⊥
gone_here e = let z : ◌≡◌ {A = ℕ} 0 1 = cc in omega arith

zero_one : ◌≡◌ {A = ℕ} 0 1 → ⊥
zero_one e = omega (arith, e)

-- Two counts, one after the other, and none.
pub after_after : (u w : Tally) (X : Updated) → afterᵘ u (afterᵘ w X) ≡ afterᵘ (u plus w) X
unfolding afterᵘ ◌plus◌
after_after u w (Next st x) = ap (Next st) (sym (plus_assoc u w x))
after_after u w (Jump target v st x) =
    ap (Jump target v st) (sym (plus_assoc u w x))
after_after u w Halted = refl

after_none : (X : Updated) → afterᵘ (record { work = 0; wrapped = false }) X ≡ X
unfolding afterᵘ ◌plus◌ ◌or◌
after_none (Next st w) = ap (Next st) (same_tally (omega arith) refl)
after_none (Jump target v st w) = ap (Jump target v st) (same_tally (omega arith) refl)
after_none Halted = refl

-- No jump leaves the events.
abbrev NoJump : Updated → Type 0
NoJump (Next st w) = Unit {0}
NoJump (Jump target v st w) = ⊥
NoJump Halted = Unit {0}

record Calmly (X : Updated) : Type 0 where
  calmly : NoJump X

after_calm : (u : Tally) (Y : Updated) → Calmly (afterᵘ u (stays Y))
unfolding afterᵘ stays
after_calm u (Next st w) = record { calmly = tt }
after_calm u (Jump target v st w) = record { calmly = tt }
after_calm u Halted = record { calmly = tt }

from_calm : (o : Updated) (m : Memory) (f : Bytes → Memory → Recalled) → Calmly (fromᵐ o m (λ s y. on_outcome stays (f s y))).outcome
unfolding fromᵐ on_outcome
from_calm (Next st w) m f = after_calm w (f st m).outcome
from_calm (Jump target v st w) m f = record { calmly = tt }
from_calm Halted m f = record { calmly = tt }

events_calm : (rec : Bytes) (env : Env) (cs : Cases) (st : Bytes) (m : Memory) → Calmly (recall_c rec env cs st m).outcome
unfolding recall_c leave thenᵐ
events_calm rec env no_case st m = record { calmly = tt }
events_calm rec env (case n event target t next) st m =
    let r = recall_c rec env next st m in from_calm r.outcome r.memory λ s y. recall_s rec env event s y

-- The same of what leaves a memory too.
pub after_both : (u w : Tally) (r : Recalled) → on_outcome (afterᵘ u) (on_outcome (afterᵘ w) r) ≡ on_outcome (afterᵘ (u plus w)) r
unfolding on_outcome
after_both u w r = ap (λ (o : Updated). leaving o r.memory) (after_after u w r.outcome)

none_after : (r : Recalled) → on_outcome (afterᵘ (record { work = 0; wrapped = false })) r ≡ r
unfolding on_outcome
none_after r = ap (λ (o : Updated). leaving o r.memory) (after_none r.outcome)

-- What goes on after the events goes on after the walk.
quiet_walked : (u : Tally) (o : Updated) (m : Memory) (g : Bytes → Memory → Recalled) → Calmly o → on_outcome (afterᵘ u) (fromᵐ o m g) ≡ on_walked (afterᵘ u o) m g
unfolding on_walked fromᵐ afterᵘ on_outcome
quiet_walked u (Next s w) m g h = after_both u w (g s m)
quiet_walked u (Jump target v s w) m g h = absurd h.calmly
quiet_walked u Halted m g h = refl

on_walked_lem : (F : Occurrence) (C : Recalled) (st : Bytes) (m : Memory) (g : Bytes → Memory → Recalled) → Calmly C.outcome
    → on_occurrenceᵐ F st m (thenᵐ C g) ≡ walked_on (on_occurrenceᵐ F st m C) g
unfolding on_occurrenceᵐ on_walked thenᵐ on_outcome
on_walked_lem (Took target v u) C st m g h = refl
on_walked_lem (Quiet u) C st m g h = quiet_walked u C.outcome C.memory g h
on_walked_lem Occurrence.Stuck C st m g h = refl

on_later : (u : Tally) (F : Occurrence) (st : Bytes) (m : Memory) (X : Recalled) → on_occurrenceᵐ (laterᵒ u F) st m X ≡ on_outcome (afterᵘ u) (on_occurrenceᵐ F st m X)
unfolding on_occurrenceᵐ laterᵒ afterᵘ on_outcome
on_later u (Took target v w) st m X = refl
on_later u (Quiet w) st m X = sym (after_both u w X)
on_later u Occurrence.Stuck st m X = refl

-- The first case, by its event: what it noted, and what all events up to the first present one did.
module _ (target : ℕ) (F : Occurrence) (st : Bytes) (X : Memory → Recalled) (mem all : Memory) where
  wrong_by : (o : Opened) (u : Tally) → parts_by o u ≡ None
      → on_occurrenceᵐ (occurs_if o u target F) st (past_if o mem all) (X (past_if o mem all)) ≡ leaving Halted mem
  unfolding parts_by occurs_if on_occurrenceᵐ past_if
  wrong_by (Here v) u e = cc
  wrong_by Gone u e = cc
  wrong_by Amiss u e = refl

  case_wrong : (r : Evaluated) → parts_of r ≡ None → on_occurrenceᵐ (occurs r target F) st (past r mem all) (X (past r mem all)) ≡ leaving Halted mem
  unfolding parts_of occurs on_occurrenceᵐ past
  case_wrong (Done v u) e = wrong_by (opened v) u e
  case_wrong Stuck e = refl

  case_here : (r : Evaluated) {v : ℕ} {u : Tally} → parts_of r ≡ parts (Some v) u
      → on_occurrenceᵐ (occurs r target F) st (past r mem all) (X (past r mem all)) ≡ leaving (Jump target (unpacked v) st u) mem
  unfolding parts_of occurs occurs_if on_occurrenceᵐ past past_if
  case_here (Done a u₀) e = let k = parts_here a u₀ e in rw (k.0, k.1)
  case_here Stuck e = cc

  gone_by : (o : Opened) (u₀ : Tally) {u : Tally} → parts_by o u₀ ≡ parts None u
      → on_occurrenceᵐ (occurs_if o u₀ target F) st (past_if o mem all) (X (past_if o mem all)) ≡ on_outcome (afterᵘ u) (on_occurrenceᵐ F st all (X all))
  unfolding parts_by occurs_if past_if
  gone_by (Here v) u₀ e = absurd (parts_apart e)
  gone_by Gone u₀ {u} e = let b : u₀ ≡ u = (parts_same e).1 in on_later u₀ F st all (X all) ∙ ap (λ (x : Tally). on_outcome (afterᵘ x) (on_occurrenceᵐ F st all (X all))) b
  gone_by Amiss u₀ e = cc

  case_gone : (r : Evaluated) {u : Tally} → parts_of r ≡ parts None u
      → on_occurrenceᵐ (occurs r target F) st (past r mem all) (X (past r mem all)) ≡ on_outcome (afterᵘ u) (on_occurrenceᵐ F st all (X all))
  unfolding parts_of occurs past
  case_gone (Done v u) e = gone_by (opened v) u e
  case_gone Stuck e = cc

-- What a walk has counted, with the memory in slots, and what where it stays.
pub walked_within : {p : Bytes} {l : List ℕ} (j : ℕ) → NodeOf is_case p j → Noted p l → (rec : Bytes) (env : Env) (st : Bytes)
    → Withinᵘ (walked rec env (cases_at p j) st (memory_in l)).outcome (bound_sc (cases_at p j) + bound_uc (cases_at p j))
unfolding walked
walked_within {p} {l} j w h rec env st =
    let cs = cases_at p j in
    let f = fill_c_bounded p rec st cs env (memory_in l) (own_cases p j w) (noted_bounded h) in
    (occurrence_fine (soonest rec st env cs) st _ _ (soonest_within rec st env cs) f (recall_c_fine p rec cs env st _ (own_cases p j w) f)).within

module _ {p : Bytes} {l : List ℕ} (j : ℕ) (w : NodeOf is_case p j) (h : Noted p l) (rec : Bytes) (env : Env) (st : Bytes) (m : Moved) (st₁ : Bytes) {mem : Memory}
    (e : leaving (moved m st₁) mem ≡ walked rec env (cases_at p j) st (memory_in l)) where
  pub walk_count : work_of m ≤ bound_sc (cases_at p j) + bound_uc (cases_at p j)
  walk_count = moved_within m st₁ (ap (λ (x : Recalled). x.outcome) e) (walked_within j w h rec env st)

  pub walk_still : {u : Tally} → calm_of m ≡ Some u → u.work ≤ bound_sc (cases_at p j) + bound_uc (cases_at p j)
  walk_still {u} c = omega (arith, still_work m c, walk_count)

-- What was counted after so much, where both together are within a bound.
rest_within : (u : Tally) (m : Moved) (st : Bytes) {b : ℕ} → Withinᵘ (afterᵘ u (moved m st)) b → u.work ≤ b → u.work + work_of m ≤ b
unfolding afterᵘ moved ◌plus◌
rest_within u (Stay w) st h l = omega (arith, h.most)
rest_within u (Moved.Jump target v w) st h l = omega (arith, h.most)
rest_within u Moved.Stuck st h l = omega (arith, l)

-- A walk that does not stay leaves its result as it is, and one that does goes on.
same_on : (m : Moved) (st : Bytes) (mem : Memory) (g : Bytes → Memory → Recalled) → calm_of m ≡ None → leaving (moved m st) mem ≡ walked_on (leaving (moved m st) mem) g
unfolding calm_of moved on_walked
same_on (Stay w) st mem g e = cc
same_on (Moved.Jump target v w) st mem g e = refl
same_on Moved.Stuck st mem g e = refl

still_on : (m : Moved) (st : Bytes) (mem : Memory) (g : Bytes → Memory → Recalled) {w : Tally} → calm_of m ≡ Some w
    → on_outcome (afterᵘ w) (g st mem) ≡ walked_on (leaving (moved m st) mem) g
unfolding calm_of moved on_walked
still_on (Stay u) st mem g {w} e = let q : w ≡ u = cc in ap (λ (x : Tally). on_outcome (afterᵘ x) (g st mem)) q
still_on (Moved.Jump target v w) st mem g e = cc
still_on Moved.Stuck st mem g e = cc

module _ (p : Bytes) (j : ℕ) (k : NodeOf is_case p j) {n : Node} (f : IsNode p j n) (rec : Bytes) (env : Env) (st : Bytes) (mem : Memory) where
  -- the event of case j, updated
  abbrev then_event : Env → Bytes → Memory → Recalled
  then_event e s y = on_outcome stays (recall_s rec e (signal_at p (a_at p j)) s y)

  X : Memory → Recalled
  X y = thenᵐ (recall_c rec env (next_cases p j) st y) (then_event env)

  walk_law : walked rec env (cases_at p j) st mem
      ≡ on_occurrenceᵐ (occurs (eval_s rec st env (signal_at p n.a)) (shortly (c_at p j)) (soonest rec st env (next_cases p j))) st
      (past (eval_s rec st env (signal_at p n.a)) (fill_s rec st env (signal_at p n.a) mem) (fill_c rec st env (next_cases p j) (fill_s rec st env (signal_at p n.a) mem)))
      (X (past (eval_s rec st env (signal_at p n.a)) (fill_s rec st env (signal_at p n.a) mem) (fill_c rec st env (next_cases p j) (fill_s rec st env (signal_at p n.a) mem))))
  unfolding walked soonest recall_c fill_c next_cases X
  walk_law =
      rw f.a_is
      (ap (λ (cs : Cases). on_occurrenceᵐ (soonest rec st env cs) st (fill_c rec st env cs mem) (recall_c rec env cs st (fill_c rec st env cs mem))) (case_law p j k refl))

  -- The walk from case j on, by its event, which has noted mem₁.
  module _ {r : Evaluated} (q : r ≡ eval_s rec st env (signal_at p n.a)) {mem₁ : Memory} (g : mem₁ ≡ fill_s rec st env (signal_at p n.a) mem) where
    F : Occurrence
    F = soonest rec st env (next_cases p j)

    all : Memory
    all = fill_c rec st env (next_cases p j) mem₁

    by_event : walked rec env (cases_at p j) st mem ≡ on_occurrenceᵐ (occurs r (shortly (c_at p j)) F) st (past r mem₁ all) (X (past r mem₁ all))
    unfolding F all
    by_event =
        walk_law
        ∙ λ i. on_occurrenceᵐ (occurs (sym q i) (shortly (c_at p j)) F) st (past (sym q i) (sym g i) (fill_c rec st env (next_cases p j) (sym g i)))
        (X (past (sym q i) (sym g i) (fill_c rec st env (next_cases p j) (sym g i))))

    pub walk_wrong : parts_of r ≡ None → leaving Halted mem₁ ≡ walked rec env (cases_at p j) st mem
    walk_wrong d = sym (by_event ∙ case_wrong (shortly (c_at p j)) F st X mem₁ all r d)

    pub walk_took : {v : ℕ} {u : Tally} → parts_of r ≡ parts (Some v) u → {y : Updated} → y ≡ Jump (shortly n.c) (unpacked v) st u
        → leaving y mem₁ ≡ walked rec env (cases_at p j) st mem
    walk_took {v} {u} d e =
        ap (λ (y : Updated). leaving y mem₁) (e ∙ ap (λ (t : ℕ). Jump (shortly t) (unpacked v) st u) f.c_is)
        ∙ sym (by_event ∙ case_here (shortly (c_at p j)) F st X mem₁ all r d)

    walk_gone : {u : Tally} → parts_of r ≡ parts None u
        → walked rec env (cases_at p j) st mem ≡ on_outcome (afterᵘ u) (walked_on (walked rec env (next_cases p j) st mem₁) (then_event env))
    unfolding F all X walked
    walk_gone {u} d =
        by_event ∙ case_gone (shortly (c_at p j)) F st X mem₁ all r d
        ∙ ap (on_outcome (afterᵘ u)) (on_walked_lem F (recall_c rec env (next_cases p j) st all) st all (then_event env) (events_calm rec env (next_cases p j) st all))

    module _ {u : Tally} (d : parts_of r ≡ parts None u) {env₁ : Env} (h : env₁ ≡ env) (m : Moved) (st₁ : Bytes) {mem₂ : Memory}
        (x : leaving (moved m st₁) mem₂ ≡ walked_on (walked rec env₁ (next_cases p j) st mem₁) (then_event env₁)) where
      all_after : walked rec env (cases_at p j) st mem ≡ leaving (afterᵘ u (moved m st₁)) mem₂
      unfolding on_outcome
      all_after =
          walk_gone d ∙ ap (on_outcome (afterᵘ u)) (sym (x ∙ ap (λ (e : Env). walked_on (walked rec e (next_cases p j) st mem₁) (then_event e)) h))

      pub walk_quiet : {y : Updated} → y ≡ afterᵘ u (moved m st₁) → leaving y mem₂ ≡ walked rec env (cases_at p j) st mem
      walk_quiet e = ap (λ (y : Updated). leaving y mem₂) e ∙ sym all_after

      pub rest_work : {b : ℕ} → Withinᵘ (walked rec env (cases_at p j) st mem).outcome b → u.work ≤ b → u.work + work_of m ≤ b
      rest_work {b} c l = rest_within u m st₁ (subst (λ (y : Recalled). Withinᵘ y.outcome b) all_after c) l

  -- The cases after case j.
  pub last_on : n.b ≡ 65535 → (m : Moved) (st₁ : Bytes) {mem₁ : Memory} → leaving (moved m st₁) mem₁ ≡ recall_s rec env (signal_at p n.a) st mem
      → {y : Updated} → y ≡ stays (moved m st₁)
      → leaving y mem₁ ≡ walked_on (walked rec env (next_cases p j) st mem) (then_event env)
  unfolding next_cases walked soonest recall_c fill_c on_occurrenceᵐ afterᵘ leave nothing ◌plus◌ ◌or◌ on_walked on_outcome
  last_on e m st₁ {mem₁} x y =
      ap (λ (o : Updated). leaving o mem₁) y ∙ ap (on_outcome stays) (x ∙ ap (λ (i : ℕ). recall_s rec env (signal_at p i) st mem) f.a_is)
      ∙ sym (none_after (then_event env st mem))
      ∙ rw (below_ge j no_case (cases_at p) (b_at p j) (omega (arith, f.b_is, k.inside, k.shaped.small)))

  next_is : (n.b ≡ 65535 → ⊥) → cases_at p n.b ≡ next_cases p j
  unfolding next_cases
  next_is d =
      ap (cases_at p) f.b_is ∙ sym (below_lt j no_case (cases_at p) (b_at p j) (case_next p j k (λ q. d (f.b_is ∙ q))).less)

  module _ (d : n.b ≡ 65535 → ⊥) (o : Moved) (st₁ : Bytes) {mem₁ : Memory} (x : leaving (moved o st₁) mem₁ ≡ walked rec env (cases_at p n.b) st mem) where
    rest_is : (g : Bytes → Memory → Recalled) → walked_on (leaving (moved o st₁) mem₁) g ≡ walked_on (walked rec env (next_cases p j) st mem) g
    rest_is g = ap (λ (y : Recalled). walked_on y g) (x ∙ ap (λ (cs : Cases). walked rec env cs st mem) (next_is d))

    pub broken_on : calm_of o ≡ None → leaving (moved o st₁) mem₁ ≡ walked_on (walked rec env (next_cases p j) st mem) (then_event env)
    broken_on e = same_on o st₁ mem₁ (then_event env) e ∙ rest_is _

    pub goes_on : {w : Tally} → calm_of o ≡ Some w → {env₁ : Env} → env₁ ≡ env → (m : Moved) (st₂ : Bytes) {mem₂ : Memory}
        → leaving (moved m st₂) mem₂ ≡ recall_s rec env₁ (signal_at p n.a) st₁ mem₁
        → {y : Updated} → y ≡ stays (moved m st₂) → {z : Updated} → z ≡ afterᵘ w y
        → leaving z mem₂ ≡ walked_on (walked rec env (next_cases p j) st mem) (then_event env)
    unfolding on_outcome
    goes_on {w} e h m st₂ {mem₂} q y z =
        ap (λ (o : Updated). leaving o mem₂) (z ∙ ap (afterᵘ w) y)
        ∙ ap (λ (o : Recalled). on_outcome (afterᵘ w) (on_outcome stays o)) (q ∙ λ i. recall_s rec (h i) (signal_at p (f.a_is i)) st₁ mem₁)
        ∙ still_on o st₁ mem₁ (then_event env) e ∙ rest_is _

module _ (p : Bytes) (i : ℕ) (k : NodeOf is_signal p i) {n : Node} (f : IsNode p i n) (e : kind_at p i ≡ 8) (rec : Bytes) (env : Env) (st : Bytes) (mem : Memory) where
  -- the until's signal, updated
  abbrev then_signal : ℕ → Bytes → Memory → Recalled
  then_signal x s y = on_outcome stays (recall_s rec env (signal_at p x) s y)

  until_law : recall_s rec env (signal_at p i) st mem ≡ on_outcome ruleᵘ (walked_on (walked rec env (cases_at p n.b) st mem) (then_signal n.a))
  unfolding recall_s walked
  until_law =
      rw (f.a_is, f.b_is)
      (ap (λ (s : Signal). recall_s rec env s st mem) (until_tree p i k e)
      ∙ ap (on_outcome ruleᵘ) (on_walked_lem (soonest rec st env (cases_at p (b_at p i))) (recall_c rec env (cases_at p (b_at p i)) st _) st _ (then_signal (a_at p i))
      (events_calm rec env (cases_at p (b_at p i)) st _)))

  module _ (o : Moved) (st₁ : Bytes) {mem₁ : Memory} (x : leaving (moved o st₁) mem₁ ≡ walked rec env (cases_at p n.b) st mem) where
    by_walk : on_outcome ruleᵘ (walked_on (leaving (moved o st₁) mem₁) (then_signal n.a)) ≡ recall_s rec env (signal_at p i) st mem
    by_walk = ap (λ (y : Recalled). on_outcome ruleᵘ (walked_on y (then_signal n.a))) x ∙ sym until_law

    pub until_broken : calm_of o ≡ None → {y : Updated} → y ≡ ruleᵘ (moved o st₁) → leaving y mem₁ ≡ recall_s rec env (signal_at p i) st mem
    unfolding on_outcome
    until_broken d y =
        ap (λ (z : Updated). leaving z mem₁) y ∙ ap (on_outcome ruleᵘ) (same_on o st₁ mem₁ (then_signal n.a) d) ∙ by_walk

    pub until_still : {u : Tally} → calm_of o ≡ Some u → {env₁ : Env} → env₁ ≡ env → (m : Moved) (st₂ : Bytes) {mem₂ : Memory}
        → leaving (moved m st₂) mem₂ ≡ recall_s rec env₁ (signal_at p n.a) st₁ mem₁
        → {y : Updated} → y ≡ stays (moved m st₂) → {z : Updated} → z ≡ afterᵘ u y → {a : Updated} → a ≡ ruleᵘ z → leaving a mem₂ ≡ recall_s rec env (signal_at p i) st mem
    unfolding on_outcome
    until_still {u} d h m st₂ {mem₂} q y z a =
        ap (λ (o : Updated). leaving o mem₂) (a ∙ ap ruleᵘ (z ∙ ap (afterᵘ u) y))
        ∙ ap (on_outcome ruleᵘ) (ap (λ (o : Recalled). on_outcome (afterᵘ u) (on_outcome stays o)) (q ∙ ap (λ (b : Env). recall_s rec b (signal_at p n.a) st₁ mem₁) h)
        ∙ still_on o st₁ mem₁ (then_signal n.a) d)
        ∙ by_walk

-- An event that occurs is a plain value of 8 bytes.
plainly : Value → ℕ
plainly (Plain t w) = 1
plainly (Absent t) = 0
plainly (Present t w) = 0

open_plain : (a x : Value) → opened a ≡ Here x → plainly x ≡ 1
unfolding opened plainly
open_plain (Plain t w) x e = absurd (amiss_here e)
open_plain (Absent t) x e = absurd (gone_here e)
open_plain (Present t w) x e = go (is_maybe t) e
  where
    go : (b : Bool) → (if b then Here (Plain (t - 4) w) else Amiss) ≡ Here x → plainly x ≡ 1
    go true g = let q : Plain (t - 4) w ≡ x = cc in ap plainly (sym q)
    go false g = absurd (amiss_here g)

plain_type_lem : (t present word : ℕ) → plainly (value_from t present word) ≡ 1 → is_plain t ≡ true
unfolding value_from plainly
plain_type_lem t present word e = go (is_plain t) (eqb present 0) e
  where
    go : (b c : Bool) → plainly (if b then Plain t word else if c then Absent t else Present t word) ≡ 1 → b ≡ true
    go true c e = refl
    go false true e = absurd (zero_one e)
    go false false e = absurd (zero_one e)

pub occurs_plain : (r : Evaluated) {v : ℕ} {u : Tally} → parts_of r ≡ parts (Some v) u → IsValue v × (is_plain (type_in v) ≡ true)
unfolding parts_of unpacked
occurs_plain (Done a w) {v} e =
    (take_value (Done a w) e refl, plain_type_lem (type_in v) (present_in v) (word_in v) (open_plain a (unpacked v) (parts_here a w e).0))
occurs_plain Stuck e = cc
