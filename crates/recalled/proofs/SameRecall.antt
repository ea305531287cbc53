-- After an evaluation that gave a value, the update that takes definitions from the memory is the update of crate current: the same outcome, state
-- and count. The state need only be one of bytes: no typing, scope or readiness is asked for but through that value.
-- Assumes nothing.
use Rattle.std.specs.Prelude.{if◌then◌else◌}
use mathlib.Core.Path.{◌≡◌, refl, sym, ap, ◌∙◌, subst}
use mathlib.Core.Logic.{◌≢◌}
use mathlib.Core.Bool.{Bool, true, false}
use Prim.Native.Nat.{ℕ, zero, suc, ◌+◌, ◌≤◌}
use native.Mathlib.Omega.{arith}
use lib.Dec.{eqb}
use lib.ListN.{get_or}
use lib.Seq.{get_or-set_other}
use borrow.Author.Tests.{eq-eqb}
use Rattle.rules.specs.Bytes.{Bytes}
use Rattle.rules.specs.Values.{packed, unpacked}
use Rattle.rules.specs.Layout.{cell, held, hold, is_clear, branch_in}
use Rattle.rules.specs.Work.{Updated, Next, Jump, Halted, stays, leave, afterᵘ, ruleᵘ, ◌with◌, ◌thenᵘ◌}
use Rattle.rules.specs.Tree.{Signal, input, time, ext, delay, let_signal, switch, group, until, Branches, no_branch, branch, Cases, no_case, case}
use Rattle.rules.specs.Size.{is_cell, times_s, times_b, times_c}
use Rattle.rules.specs.Evaluate.{Env, bind, opened, eval_s, eval_b}
use Rattle.rules.specs.Update.{laterᵒ, occurs_if, occurs, on_occurrence, on_event}
use Rattle.rules.specs.declared.Value.{Value}
use Rattle.rules.specs.declared.Tally.{Tally}
use Rattle.rules.specs.Opened.{Opened, Here, Gone, Amiss}
use Rattle.rules.specs.Evaluated.{Evaluated, Done, Stuck}
use Rattle.rules.specs.Occurrence.{Occurrence, Took, Quiet}
use Rattle.promises.specs.Small.{Small}
use Rattle.promises.specs.Kept.{Kept, Agree}
use Rattle.promises.proofs.Frames.{cell_itself, apart_agree}
use Rattle.current.specs.Current.{shortly, soonest, leaves, swapped, go_s, go_b, go_c}
use Rattle.recalled.specs.Recall.{Memory, past, past_if, fill_s, fill_c, Recalled, leaving, on_outcome, withᵐ, fromᵐ, thenᵐ, eventᵐ, on_eventᵐ, on_occurrenceᵐ, recall_s, recall_b, recall_c, binds_s, binds_b, binds_c}
use Rattle.recalled.proofs.Keeps.{Keeps, next, jump, halted, go_s_keeps, go_c_keeps}
use Rattle.recalled.proofs.More.{Under, under_self, under_own, eval_s_more}
use Rattle.recalled.proofs.Remember.{IsDone, done, done_so, rule_done, then_first, then_second, more_same, more_done, true_done, false_done, clear_agrees, RemembersS, RemembersB, RemembersC, slots_same, still, fill_keeps, fill_c_keeps, remembers}

-- Slots that are not the signal's stay.
module _ {x : Evaluated} (j : ℕ) where
  with_slots : (r : Evaluated) (m : Memory) (f : Value → Recalled) → m j ≡ x → ((v : Value) → (f v).memory j ≡ x) → (withᵐ r m f).memory j ≡ x
  unfolding withᵐ on_outcome
  with_slots (Done v u) m f h g = g v
  with_slots Stuck m f h g = h

  from_slots : (r : Updated) (m : Memory) (f : Bytes → Memory → Recalled) → m j ≡ x → ((st : Bytes) (q : Memory) → q j ≡ x → (f st q).memory j ≡ x)
      → (fromᵐ r m f).memory j ≡ x
  unfolding fromᵐ on_outcome
  from_slots (Next st u) m f h g = g st m h
  from_slots (Jump target v st u) m f h g = h
  from_slots Halted m f h g = h

  then_slots : (r : Recalled) (f : Bytes → Memory → Recalled) → r.memory j ≡ x → ((st : Bytes) (q : Memory) → q j ≡ x → (f st q).memory j ≡ x)
      → (thenᵐ r f).memory j ≡ x
  unfolding thenᵐ
  then_slots r f h g = from_slots r.outcome r.memory f h g

  event_slots : (o : Opened) (m : Memory) (f : Value → Updated) (q : Recalled) → m j ≡ x → q.memory j ≡ x → (on_eventᵐ o m f q).memory j ≡ x
  unfolding on_eventᵐ
  event_slots (Here v) m f q h g = h
  event_slots Gone m f q h g = g
  event_slots Amiss m f q h g = h

  stop_slots : (o : Opened) (m : Memory) (r : Recalled) → m j ≡ x → r.memory j ≡ x → (eventᵐ o m r).memory j ≡ x
  unfolding eventᵐ
  stop_slots (Here v) m r h g = g
  stop_slots Gone m r h g = g
  stop_slots Amiss m r h g = h

  occurrence_slots : (o : Occurrence) (st : Bytes) (m : Memory) (q : Recalled) → m j ≡ x → q.memory j ≡ x → (on_occurrenceᵐ o st m q).memory j ≡ x
  unfolding on_occurrenceᵐ on_outcome
  occurrence_slots (Took target v u) st m q h g = h
  occurrence_slots (Quiet u) st m q h g = g
  occurrence_slots Occurrence.Stuck st m q h g = h

  if_slots : (b : Bool) (r s : Recalled) → r.memory j ≡ x → s.memory j ≡ x → (if b then r else s).memory j ≡ x
  if_slots true r s h g = h
  if_slots false r s h g = g

module _ (rec : Bytes) where
  mutual
    unfolding recall_s binds_s on_outcome

    pub recall_s_slots : (s : Signal) (env : Env) (st : Bytes) (m : Memory) (j : ℕ) → binds_s j s ≡ 0 → (recall_s rec env s st m).memory j ≡ m j
    recall_s_slots (input n c) env st m j h = refl
    recall_s_slots (time n) env st m j h = refl
    recall_s_slots (ext n e) env st m j h = refl
    recall_s_slots (delay n k v s) env st m j h =
        let f = fill_keeps rec st s env m j h in
        with_slots j (eval_s rec st env s) _ _ f λ w. then_slots j _ _ (recall_s_slots s env st _ j h ∙ f) λ st₁ m₁ g. g
    recall_s_slots (let_signal n t d b) env st m j h =
        with_slots j (m n) m _ refl λ v. then_slots j _ _ (recall_s_slots d _ st m j (omega arith)) λ st₁ m₁ g.
        recall_s_slots b _ st₁ m₁ j (omega arith) ∙ g
    recall_s_slots (switch n k t x e y) env st m j h =
        let f = fill_keeps rec st e env m j (omega arith) in
        with_slots j (eval_s rec st env e) _ _ f λ event.
        stop_slots j (opened event) _ _ f (then_slots j _ _ (recall_s_slots e env st _ j (omega arith) ∙ f) λ st₁ m₁ g.
        event_slots j (opened event) m₁ _ _ g (if_slots j (is_clear st₁ k) _ _ (recall_s_slots x _ st₁ m₁ j (omega arith) ∙ g) (recall_s_slots y _ st₁ m₁ j (omega arith) ∙ g)))
    recall_s_slots (group n k body brs) env st m j h =
        if_slots j (is_clear st k) _ _ (recall_s_slots body env st m j (omega arith)) (recall_b_slots brs env k _ _ brs st m j (omega arith))
    recall_s_slots (until n s cs) env st m j h =
        let f = fill_c_keeps rec st cs env m j (omega arith) in
        occurrence_slots j (soonest rec st env cs) st _ _ f (then_slots j _ _ (recall_c_slots cs env st _ j (omega arith) ∙ f) λ st₁ m₁ g.
        recall_s_slots s env st₁ m₁ j (omega arith) ∙ g)

    recall_b_slots : (brs : Branches) (env : Env) (k which : ℕ) (v : Value) (all : Branches) (st : Bytes) (m : Memory) (j : ℕ) → binds_b j brs ≡ 0
        → (recall_b rec env k which v all brs st m).memory j ≡ m j
    recall_b_slots no_branch env k which v all st m j h = refl
    recall_b_slots (branch n t body more) env k which v all st m j h =
        if_slots j (eqb n which) _ _ (recall_s_slots body _ st m j (omega arith)) (recall_b_slots more env k which v all st m j (omega arith))

    pub recall_c_slots : (cs : Cases) (env : Env) (st : Bytes) (m : Memory) (j : ℕ) → binds_c j cs ≡ 0 → (recall_c rec env cs st m).memory j ≡ m j
    recall_c_slots no_case env st m j h = refl
    recall_c_slots (case n event target t more) env st m j h =
        then_slots j _ _ (recall_c_slots more env st m j (omega arith)) λ st₁ m₁ g. recall_s_slots event env st₁ m₁ j (omega arith) ∙ g

-- The same outcome.
with_same : (q r : Evaluated) (m : Memory) (f : Value → Recalled) (g : Value → Updated) → q ≡ r → ((v : Value) (u : Tally) → r ≡ Done v u → (f v).outcome ≡ g v)
    → (withᵐ q m f).outcome ≡ (r with g)
unfolding withᵐ ◌with◌ on_outcome
with_same q r m f g e h = ap (λ z. (withᵐ z m f).outcome) e ∙ go r refl
  where
    go : (z : Evaluated) → r ≡ z → (withᵐ z m f).outcome ≡ (z with g)
    go (Done v u) i = ap (afterᵘ u) (h v u i)
    go Stuck i = refl

from_same : {own : ℕ → ℕ} {st : Bytes} {q : Updated} (m : Memory) (f : Bytes → Memory → Recalled) (g : Bytes → Updated) → Keeps own st q
    → ((st₁ : Bytes) → Kept own st st₁ → (f st₁ m).outcome ≡ g st₁) → (fromᵐ q m f).outcome ≡ (q thenᵘ g)
unfolding fromᵐ ◌thenᵘ◌ on_outcome
from_same m f g (next {st₁} {w} a) h = ap (afterᵘ w) (h st₁ a)
from_same m f g (jump a) h = refl
from_same m f g halted h = refl

then_same : {own : ℕ → ℕ} {st : Bytes} (r : Recalled) (q : Updated) (f : Bytes → Memory → Recalled) (g : Bytes → Updated) → r.outcome ≡ q → Keeps own st q
    → ((st₁ : Bytes) → Kept own st st₁ → (f st₁ r.memory).outcome ≡ g st₁) → (thenᵐ r f).outcome ≡ (q thenᵘ g)
unfolding thenᵐ
then_same r q f g e k h = ap (λ z. (fromᵐ z r.memory f).outcome) e ∙ from_same r.memory f g k h

event_same : (o : Opened) (m : Memory) (f : Value → Updated) (r : Recalled) (q : Updated) → r.outcome ≡ q → (on_eventᵐ o m f r).outcome ≡ on_event o f q
unfolding on_eventᵐ on_event
event_same (Here v) m f r q e = refl
event_same Gone m f r q e = e
event_same Amiss m f r q e = refl

-- Where the event is no maybe, both are stuck.
halts : (r : Updated) → (r thenᵘ λ st. Halted) ≡ Halted
unfolding ◌thenᵘ◌ afterᵘ
halts (Next st u) = refl
halts (Jump target v st u) = refl
halts Halted = refl

stop_same : (o : Opened) (m : Memory) (r : Recalled) (q : Updated) (f : Bytes → Value → Updated) (g : Bytes → Updated)
    → r.outcome ≡ (q thenᵘ λ st. on_event o (f st) (g st)) → (eventᵐ o m r).outcome ≡ (q thenᵘ λ st. on_event o (f st) (g st))
unfolding eventᵐ on_event
stop_same (Here v) m r q f g e = e
stop_same Gone m r q f g e = e
stop_same Amiss m r q f g e = sym (halts q)

if_same : (b : Bool) (r s : Recalled) (p q : Updated) → (b ≡ true → r.outcome ≡ p) → (b ≡ false → s.outcome ≡ q) → (if b then r else s).outcome ≡ (if b then p else q)
if_same true r s p q h g = h refl
if_same false r s p q h g = g refl

-- An until that goes on: none of its events is present.
pub data IsQuiet : Occurrence → Type 0 where
  quiet : {u : Tally} → IsQuiet (Quiet u)

occurrence_same : (o : Occurrence) (st : Bytes) (m : Memory) (r : Recalled) (q : Updated) → (IsQuiet o → r.outcome ≡ q)
    → (on_occurrenceᵐ o st m r).outcome ≡ on_occurrence o st q
unfolding on_occurrenceᵐ on_occurrence on_outcome
occurrence_same (Took target v u) st m r q e = refl
occurrence_same (Quiet u) st m r q e = ap (afterᵘ u) (e quiet)
occurrence_same Occurrence.Stuck st m r q e = refl

later_quiet : (u : Tally) (o : Occurrence) → IsQuiet (laterᵒ u o) → IsQuiet o
unfolding laterᵒ
later_quiet u (Quiet w) q = quiet
later_quiet u (Took _ _ _) q = elim q [ ]
later_quiet u Occurrence.Stuck q = elim q [ ]

is_gone : (o : Opened) (u : Tally) (target : ℕ) (rest : Occurrence) → IsQuiet (occurs_if o u target rest) → (o ≡ Gone) × IsQuiet rest
unfolding occurs_if
is_gone Gone u target rest h = (refl, later_quiet u rest h)
is_gone (Here _) u target rest h = elim h [ ]
is_gone Amiss u target rest h = elim h [ ]

-- The first event is absent, and so the memory goes on.
record Passes (r : Evaluated) (rest : Occurrence) : Type 0 where
  gave : IsDone r
  others : IsQuiet rest
  on : (m q : Memory) → past r m q ≡ q

passes : (r : Evaluated) (target : ℕ) (rest : Occurrence) → IsQuiet (occurs r target rest) → Passes r rest
unfolding occurs past past_if
passes (Done v u) target rest h =
    let g = is_gone (opened v) u target rest h in
    record { gave = done; others = g.1; on = λ m q. ap (λ o. past_if o m q) g.0 }
passes Stuck target rest h = elim h [ ]

fill_c_remembers : (rec st : Bytes) (cs : Cases) → ((j : ℕ) → binds_c j cs ≤ 1) → (env : Env) (m : Memory) → IsQuiet (soonest rec st env cs)
    → RemembersC (fill_c rec st env cs m) rec st env cs
unfolding fill_c soonest binds_s
fill_c_remembers rec st no_case once env m h = tt
fill_c_remembers rec st (case n event target t more) once env m h =
    let p = passes (eval_s rec st env event) (shortly target) (soonest rec st env more) h in
    let first = fill_s rec st env event m in
    subst (λ (q : Memory). RemembersC q rec st env (case n event target t more)) (sym (p.on first (fill_c rec st env more first))) (
      slots_same first _ rec st event env (λ j l. fill_c_keeps rec st more env first j (omega (arith, once j))) (remembers rec st event (λ j. omega (arith, once j)) env m),
      p.gave,
      fill_c_remembers rec st more (λ j. omega (arith, once j)) env first p.others,
    )

-- No binder of the signal has a value yet.
abbrev pub Fresh : (ℕ → ℕ) → Env → Type 0
Fresh binds env = (n : ℕ) → 1 ≤ binds n → get_or env n 0 ≡ 0

fresh_bind : (binds : ℕ → ℕ) (env : Env) (n : ℕ) (v : Value) → binds n ≡ 0 → Fresh binds env → Fresh binds (bind env n v)
unfolding bind
fresh_bind binds env n v e h j l = get_or-set_other env n j (packed v) 0 other ∙ h j l
  where
    other : j ≢ n
    other q = let z : binds j ≡ binds n = ap binds q in omega arith

agree_self : (own : ℕ → ℕ) (st : Bytes) → Agree own st st
agree_self own st = record { same = λ k l. refl }

held_agrees : (st st₁ : Bytes) (k : ℕ) → cell st₁ k ≡ cell st k → held st k ≡ held st₁ k
unfolding held
held_agrees st st₁ k e = ap unpacked (sym e)

module _ (rec : Bytes) where
  mutual
    unfolding recall_s go_s times_s binds_s eval_s on_outcome

    pub recall_same : (s : Signal) → ((k : ℕ) → times_s k s ≤ 1) → ((j : ℕ) → binds_s j s ≤ 1) → (env : Env) → Fresh (λ j. binds_s j s) env
        → (st : Bytes) → Small st → (m : Memory) → RemembersS m rec st env s → IsDone (eval_s rec st env s)
        → (recall_s rec env s st m).outcome ≡ go_s rec env s st
    recall_same (input n c) once lone env fresh st hs m r g = refl
    recall_same (time n) once lone env fresh st hs m r g = refl
    recall_same (ext n e) once lone env fresh st hs m r g = refl
    recall_same (delay n k v s) once lone env fresh st hs m r g =
        ap ruleᵘ (with_same (eval_s rec st env s) (eval_s rec st env s) _ _ _ refl λ w u e.
        then_same (recall_s rec env s st (fill_s rec st env s m)) (go_s rec env s st) _ _
        (recall_same s (λ j. omega (arith, once j)) lone env fresh st hs _ (remembers rec st s lone env m) (done_so e))
        (go_s_keeps rec env s st hs) λ st₁ a. refl)
    recall_same (let_signal n t d b) once lone env fresh st hs m r g =
        let g₁ = rule_done _ g in
        let gd = then_first _ _ g₁ in
        ap ruleᵘ (with_same (m n) (eval_s rec st env d) m _ _ r.0 λ v u e.
        let own = under_own env n v (fresh n (omega (arith, cell_itself n))) in
        let self = agree_self (λ j. times_s j d) st in
        let gb : IsDone (eval_s rec st (bind env n v) b) = then_second _ _ v u e g₁ in
        then_same (recall_s rec (bind env n v) d st m) (go_s rec (bind env n v) d st) _ _
        (recall_same d (λ j. omega (arith, once j)) (λ j. omega (arith, lone j)) (bind env n v)
        (fresh_bind (λ j. binds_s j d) env n v (omega (arith, lone n, cell_itself n)) λ j l. fresh j (omega arith)) st hs m
        (still m rec st st d self env (bind env n v) own gd r.1) (more_done (eval_s_more rec st st d self env (bind env n v) own) gd))
        (go_s_keeps rec (bind env n v) d st hs) λ st₁ a.
        let ag : Agree (λ j. times_s j b) st st₁ = apart_agree (λ j. once j) a in
        recall_same b (λ j. omega (arith, once j)) (λ j. omega (arith, lone j)) (bind env n v)
        (fresh_bind (λ j. binds_s j b) env n v (omega (arith, lone n, cell_itself n)) λ j l. fresh j (omega arith)) st₁ a.bytes _
        (slots_same m _ rec st₁ b (bind env n v) (λ j l. recall_s_slots rec d (bind env n v) st m j (omega (arith, lone j)))
        (still m rec st st₁ b ag _ _ (under_self _) gb (r.2 v u e)))
        (more_done (eval_s_more rec st st₁ b ag _ _ (under_self _)) gb))
    recall_same (switch n k t x e y) once lone env fresh st hs m r g =
        let g₁ = rule_done _ g in
        let me = fill_s rec st env e m in
        let lone-e : (j : ℕ) → binds_s j e ≤ 1 = λ j. omega (arith, lone j) in
        ap ruleᵘ (with_same (eval_s rec st env e) (eval_s rec st env e) _ _ _ refl λ event u e₀.
        stop_same (opened event) me _ (go_s rec env e st) _ _
        (then_same (recall_s rec env e st me) (go_s rec env e st) _ _
        (recall_same e (λ j. omega (arith, once j)) lone-e env (λ j l. fresh j (omega arith)) st hs me (remembers rec st e lone-e env m) (done_so e₀))
        (go_s_keeps rec env e st hs) λ st₁ a.
        let c : cell st₁ k ≡ cell st k = a.others k (omega (arith, once k, cell_itself k)) in
        let slot : (j : ℕ) → binds_s j e ≡ 0 → (recall_s rec env e st me).memory j ≡ m j =
        λ j z. recall_s_slots rec e env st me j z ∙ fill_keeps rec st e env m j z in
        event_same (opened event) _ _ _ _ (ap stays (if_same (is_clear st₁ k) _ _ _ _
        (λ q.
        let q₁ = clear_agrees st st₁ k true c q in
        let ag : Agree (λ j. times_s j x) st st₁ = apart_agree (λ j. omega (arith, once j)) a in
        let gx = true_done _ _ _ q₁ g₁ in
        recall_same x (λ j. omega (arith, once j)) (λ j. omega (arith, lone j)) env (λ j l. fresh j (omega arith)) st₁ a.bytes _
        (slots_same m _ rec st₁ x env (λ j l. slot j (omega (arith, lone j))) (still m rec st st₁ x ag env env (under_self env) gx (r.0 q₁)))
        (more_done (eval_s_more rec st st₁ x ag env env (under_self env)) gx))
        (λ q.
        let q₁ = clear_agrees st st₁ k false c q in
        let ag : Agree (λ j. times_s j y) st st₁ = apart_agree (λ j. omega (arith, once j)) a in
        let hv = held_agrees st st₁ k c in
        let gy : IsDone (eval_s rec st (bind env n (held st₁ k)) y) = subst (λ (z : Value). IsDone (eval_s rec st (bind env n z) y)) hv (false_done _ _ _ q₁ g₁) in
        let ry : RemembersS m rec st (bind env n (held st₁ k)) y = subst (λ (z : Value). RemembersS m rec st (bind env n z) y) hv (r.1 q₁) in
        recall_same y (λ j. omega (arith, once j)) (λ j. omega (arith, lone j)) (bind env n (held st₁ k))
        (fresh_bind (λ j. binds_s j y) env n _ (omega (arith, lone n, cell_itself n)) λ j l. fresh j (omega arith)) st₁ a.bytes _
        (slots_same m _ rec st₁ y _ (λ j l. slot j (omega (arith, lone j))) (still m rec st st₁ y ag _ _ (under_self _) gy ry))
        (more_done (eval_s_more rec st st₁ y ag _ _ (under_self _)) gy))))))
    recall_same (group n k body brs) once lone env fresh st hs m r g =
        let g₁ = rule_done _ g in
        ap ruleᵘ (if_same (is_clear st k) _ _ _ _
        (λ q. ap (leaves k body brs) (recall_same body (λ j. omega (arith, once j)) (λ j. omega (arith, lone j)) env (λ j l. fresh j (omega arith)) st hs m
        (r.0 q) (true_done _ _ _ q g₁)))
        (λ q. recall_b_same brs (λ j. omega (arith, once j)) (λ j. omega (arith, lone j)) env (λ j l. fresh j (omega arith)) st hs k _ _ brs m
        (r.1 q) (false_done _ _ _ q g₁)))
    recall_same (until n s cs) once lone env fresh st hs m r g =
        let g₁ = rule_done _ g in
        let mc = fill_c rec st env cs m in
        let lone-c : (j : ℕ) → binds_c j cs ≤ 1 = λ j. omega (arith, lone j) in
        ap ruleᵘ (occurrence_same (soonest rec st env cs) st mc _ _ λ h.
        then_same (recall_c rec env cs st mc) (go_c rec env cs st) _ _
        (recall_c_same cs (λ j. omega (arith, once j)) lone-c env (λ j l. fresh j (omega arith)) st hs mc (fill_c_remembers rec st cs lone-c env m h))
        (go_c_keeps rec env cs st hs) λ st₁ a.
        let ag : Agree (λ j. times_s j s) st st₁ = apart_agree (λ j. omega (arith, once j)) a in
        ap stays (recall_same s (λ j. omega (arith, once j)) (λ j. omega (arith, lone j)) env (λ j l. fresh j (omega arith)) st₁ a.bytes _
        (slots_same m _ rec st₁ s env
        (λ j l. recall_c_slots rec cs env st mc j (omega (arith, lone j)) ∙ fill_c_keeps rec st cs env m j (omega (arith, lone j)))
        (still m rec st st₁ s ag env env (under_self env) g₁ r))
        (more_done (eval_s_more rec st st₁ s ag env env (under_self env)) g₁)))

    recall_b_same : (brs : Branches) → ((k : ℕ) → times_b k brs ≤ 1) → ((j : ℕ) → binds_b j brs ≤ 1) → (env : Env) → Fresh (λ j. binds_b j brs) env
        → (st : Bytes) → Small st → (k which : ℕ) (v : Value) (all : Branches) (m : Memory) → RemembersB m rec st env which v brs
        → IsDone (eval_b rec st env which v brs) → (recall_b rec env k which v all brs st m).outcome ≡ go_b rec env k which v all brs st
    recall_b_same no_branch once lone env fresh st hs k which v all m r g = refl
    recall_b_same (branch n t body more) once lone env fresh st hs k which v all m r g =
        if_same (eqb n which) _ _ _ _
        (λ q. ap (leaves k body all) (recall_same body (λ j. omega (arith, once j)) (λ j. omega (arith, lone j)) (bind env n v)
        (fresh_bind (λ j. binds_s j body) env n v (omega (arith, lone n, cell_itself n)) λ j l. fresh j (omega arith)) st hs m
        (r.0 q) (true_done _ _ _ q g)))
        (λ q. recall_b_same more (λ j. omega (arith, once j)) (λ j. omega (arith, lone j)) env (λ j l. fresh j (omega arith)) st hs k which v all m
        (r.1 q) (false_done _ _ _ q g))

    recall_c_same : (cs : Cases) → ((k : ℕ) → times_c k cs ≤ 1) → ((j : ℕ) → binds_c j cs ≤ 1) → (env : Env) → Fresh (λ j. binds_c j cs) env
        → (st : Bytes) → Small st → (m : Memory) → RemembersC m rec st env cs → (recall_c rec env cs st m).outcome ≡ go_c rec env cs st
    recall_c_same no_case once lone env fresh st hs m r = refl
    recall_c_same (case n event target t more) once lone env fresh st hs m r =
        then_same (recall_c rec env more st m) (go_c rec env more st) _ _
        (recall_c_same more (λ j. omega (arith, once j)) (λ j. omega (arith, lone j)) env (λ j l. fresh j (omega arith)) st hs m r.2)
        (go_c_keeps rec env more st hs) λ st₁ a.
        let ag : Agree (λ j. times_s j event) st st₁ = apart_agree (λ j. omega (arith, once j)) a in
        ap stays (recall_same event (λ j. omega (arith, once j)) (λ j. omega (arith, lone j)) env (λ j l. fresh j (omega arith)) st₁ a.bytes _
        (slots_same m _ rec st₁ event env (λ j l. recall_c_slots rec more env st m j (omega (arith, lone j)))
        (still m rec st st₁ event ag env env (under_self env) r.1 r.0))
        (more_done (eval_s_more rec st st₁ event ag env env (under_self env)) r.1))
