-- A signal whose update the definition does not leave halted has a derivation, of the definition's outcome and work.
-- Assumes nothing.
use Rattle.std.specs.Prelude.{if◌then◌else◌}
use mathlib.Core.Path.{◌≡◌, refl, sym, subst}
use mathlib.Core.Bool.{Bool, true, false}
use Prim.Native.Nat.{ℕ}
use lib.Dec.{eqb}
use borrow.Author.Tests.{eqb-true}
use Rattle.rules.specs.Bytes.{Bytes}
use Rattle.rules.specs.Layout.{held, hold, hold_branch, is_clear, branch_in}
use Rattle.rules.specs.Work.{nothing, one_rule, ◌plus◌, Updated, Next, Jump, stays, leave, afterᵘ, ruleᵘ, ◌with◌, ◌thenᵘ◌}
use Rattle.rules.specs.Tree.{Signal, input, time, ext, delay, let_signal, switch, group, until, Branches, no_branch, branch, Cases, no_case, case}
use Rattle.rules.specs.Scope.{has_branch}
use Rattle.rules.specs.Evaluate.{Env, bind, opened}
use Rattle.rules.specs.Reset.{reset_s, reset_b}
use Rattle.rules.specs.Update.{laterᵒ, occurs_if, occurs, first_present, on_occurrence, caught, on_event, upd_s, upd_b, upd_c}
use Rattle.rules.specs.declared.Tally.{Tally}
use Rattle.rules.specs.declared.Value.{Value}
use Rattle.rules.specs.Opened.{Opened, Here, Gone, Amiss}
use Rattle.rules.specs.Evaluated.{Evaluated}
use Rattle.rules.specs.Occurrence.{Occurrence, Took, Quiet}
use Rattle.published.specs.Signals.{BodyOf, here, later, CurrentOfSwitch, first, second, CurrentOfGroup, in_body, in_branch, EvaluatesS}
use Rattle.published.specs.Updates.{NoneOccurs, none_of_none, none_of_case, FirstOccurs, occurs_here, occurs_later, Part, sig, evs, Result, becomes, leaves, Transition, tr_input, tr_time, tr_ext, tr_delay, tr_signal', tr_switch_occ, tr_switch_noc, tr_continue, tr_continue_taken, tr_continue_left, tr_until_noc, tr_until_occ, tr_no_case, tr_case}
use Rattle.published.proofs.Outcomes.{Derived, derived, stuck, no_more_after}
use Rattle.published.proofs.Moves.{DerivedU, goes, leaps, halts, mapped, stayed, rule_leave, rule_after_leave, rule_thrice, rule_jump, after_once, leave_derived, halted, halted_twice, never, next_of, jump_of}
use Rattle.published.proofs.SignalsComplete.{derive_s}

-- the events of a list: none is present, or the first that is
data DerivedO (rec st : Bytes) (env : Env) (cs : Cases) : Occurrence → Type 0 where
  none : {w : Tally} → NoneOccurs rec st env cs w.work → DerivedO rec st env cs (Quiet w)
  one : {aim : ℕ} {v : Value} {w : Tally} → FirstOccurs rec st env cs aim v w.work → DerivedO rec st env cs (Took aim v w)
  lost : DerivedO rec st env cs Occurrence.Stuck

later_derived : (rec st : Bytes) (env : Env) (i target t : ℕ) (event : Signal) (cs : Cases) {u : Value} (p : Tally) {o : Occurrence}
    → EvaluatesS rec st env event u p.work → opened u ≡ Gone → DerivedO rec st env cs o → DerivedO rec st env (case i event target t cs) (laterᵒ p o)
unfolding laterᵒ ◌plus◌
later_derived rec st env i target t event cs p d g (none n) = none (none_of_case d g n)
later_derived rec st env i target t event cs p d g (one f) = one (occurs_later d g f)
later_derived rec st env i target t event cs p d g lost = lost

case_derived : (rec st : Bytes) (env : Env) (i target t : ℕ) (event : Signal) (cs : Cases) {r : Evaluated} {o : Occurrence}
    → Derived (EvaluatesS rec st env event) r → DerivedO rec st env cs o → DerivedO rec st env (case i event target t cs) (occurs r target o)
unfolding occurs occurs_if
case_derived rec st env i target t event cs {o = o} (derived {v = u} {w = p} d) c = go (opened u) refl
  where
    go : (q : Opened) → opened u ≡ q → DerivedO rec st env (case i event target t cs) (occurs_if q p target o)
    go (Here v) g = one (occurs_here d g)
    go Gone g = later_derived rec st env i target t event cs p d g c
    go Amiss g = lost
case_derived rec st env i target t event cs stuck c = lost

derive_o : (cs : Cases) (rec st : Bytes) (env : Env) → DerivedO rec st env cs (first_present rec st env cs)
unfolding first_present nothing
derive_o no_case rec st env = none none_of_none
derive_o (case i event target t next) rec st env =
    case_derived rec st env i target t event next (derive_s event rec st env) (derive_o next rec st env)

-- transitions of a part
abbrev pub DerivedT : Bytes → Env → Bytes → Part → Updated → Type 0
DerivedT rec env st x u = DerivedU (λ st₁ n. Transition rec env st x (becomes st₁) n) (λ aim v st₁ n. Transition rec env st x (leaves aim v st₁) n) u

-- transitions of a part that is current
record Runs (rec st : Bytes) (C : Env → Signal → Type 0) (r : Result) (n : ℕ) : Type 0 where
  E : Env
  part : Signal
  current : C E part
  runs : Transition rec E st (sig part) r n

abbrev DerivedR : Bytes → Bytes → (Env → Signal → Type 0) → Updated → Type 0
DerivedR rec st C u = DerivedU (λ st₁ n. Runs rec st C (becomes st₁) n) (λ aim v st₁ n. Runs rec st C (leaves aim v st₁) n) u

current_runs : {rec st : Bytes} {C : Env → Signal → Type 0} {E : Env} {s : Signal} {u : Updated} → C E s → DerivedT rec E st (sig s) u → DerivedR rec st C u
current_runs {E = E} {s} c d =
    mapped (λ st n t. record { E = E; part = s; current = c; runs = t }) (λ aim v st n t. record { E = E; part = s; current = c; runs = t }) d

data OfBranch (env : Env) (k : ℕ) (u : Value) (brs : Branches) : Env → Signal → Type 0 where
  of : {s : Signal} → BodyOf k brs s → OfBranch env k u brs (bind env k u) s

-- each kind of signal: it has a derivation where its parts have, and halts with them
delay_derived : (rec : Bytes) (env : Env) (st : Bytes) (i k : ℕ) (v : Value) (s : Signal) {r : Evaluated} {u : Updated}
    → Derived (EvaluatesS rec st env s) r → DerivedT rec env st (sig s) u
    → DerivedT rec env st (sig (delay i k v s)) (ruleᵘ (r with λ w. u thenᵘ λ st₁. leave (hold st₁ k w)))
unfolding ruleᵘ afterᵘ leave one_rule nothing ◌plus◌ ◌with◌ ◌thenᵘ◌
delay_derived rec env st i k v s (derived {w = p} d) (goes {w = q} u) =
    goes (subst (Transition rec env st _ _) (no_more_after p.work q.work) (tr_delay d u))
delay_derived rec env st i k v s (derived d) (leaps j) = halts
delay_derived rec env st i k v s (derived d) halts = halts
delay_derived rec env st i k v s stuck u = halts

let_derived : (rec : Bytes) (env : Env) (st : Bytes) (i t : ℕ) (d b : Signal) {r : Evaluated} (f : Value → Updated) (g : Value → Bytes → Updated)
    → Derived (EvaluatesS rec st env d) r → ((v : Value) → DerivedT rec (bind env i v) st (sig d) (f v))
    → ((v : Value) (st₁ : Bytes) → DerivedT rec (bind env i v) st₁ (sig b) (g v st₁))
    → DerivedT rec env st (sig (let_signal i t d b)) (ruleᵘ (r with λ v. f v thenᵘ g v))
unfolding ◌with◌ ◌thenᵘ◌
let_derived rec env st i t d b f g (derived {v = v} {w = p} c) fd gd = go (fd v)
  where
    go : {x : Updated} → DerivedT rec (bind env i v) st (sig d) x → DerivedT rec env st (sig (let_signal i t d b)) (ruleᵘ (afterᵘ p (x thenᵘ g v)))
    go (goes {st = st₁} {w = q} u) = rule_thrice p q (λ st₂ n. tr_signal' c u) (λ aim w st₂ n. tr_signal' c u) (gd v st₁)
    go (leaps j) = halted p
    go halts = halted p
let_derived rec env st i t d b f g stuck fd gd = never

switch_derived : (rec : Bytes) (env : Env) (st : Bytes) (i k t : ℕ) (x e y : Signal) {r : Evaluated} {u : Updated} (g : Bytes → Updated)
    → Derived (EvaluatesS rec st env e) r → DerivedT rec env st (sig e) u
    → ((st₁ : Bytes) → DerivedR rec st₁ (CurrentOfSwitch st₁ env i k x y) (g st₁))
    → DerivedT rec env st (sig (switch i k t x e y))
    (ruleᵘ (r with λ event. u thenᵘ λ st₁. on_event (opened event) (λ v. leave (reset_s y (reset_s x (hold st₁ k v)))) (stays (g st₁))))
unfolding ◌with◌ ◌thenᵘ◌
switch_derived rec env st i k t x e y g (derived {v = event} {w = p} d) (goes {st = st₁} {w = q} u) part = go (opened event) refl
  where
    go : (o : Opened) → opened event ≡ o → DerivedT rec env st (sig (switch i k t x e y))
        (ruleᵘ (afterᵘ p (afterᵘ q (on_event o (λ v. leave (reset_s y (reset_s x (hold st₁ k v)))) (stays (g st₁))))))
    go (Here v) o =
        unfold on_event in rule_after_leave p q _ (tr_switch_occ d u o)
    go Gone o = unfold on_event in
        rule_thrice p q (λ st₂ n a. tr_switch_noc d u o a.current a.runs) (λ aim v st₂ n a. absurd a) (stayed (part st₁))
    go Amiss o = unfold on_event in halted_twice p q
switch_derived rec env st i k t x e y g (derived {w = p} d) (leaps j) part = halted p
switch_derived rec env st i k t x e y g (derived {w = p} d) halts part = halted p
switch_derived rec env st i k t x e y g stuck u part = never

switch_part : (rec : Bytes) (env : Env) (st : Bytes) (i k : ℕ) (x y : Signal) {r s : Updated} (q : Bool) → is_clear st k ≡ q
    → DerivedT rec env st (sig x) r → DerivedT rec (bind env i (held st k)) st (sig y) s
    → DerivedR rec st (CurrentOfSwitch st env i k x y) (if q then r else s)
switch_part rec env st i k x y true h c d = current_runs (first h) c
switch_part rec env st i k x y false h c d = current_runs (second h) d

group_part : (rec : Bytes) (env : Env) (st : Bytes) (k : ℕ) (body : Signal) (brs : Branches) {r s : Updated} (q : Bool) → is_clear st k ≡ q
    → DerivedT rec env st (sig body) r → DerivedR rec st (OfBranch env (branch_in st k) (held st k) brs) s
    → DerivedR rec st (CurrentOfGroup st env k body brs) (if q then r else s)
group_part rec env st k body brs true h c d = current_runs (in_body h) c
group_part rec env st k body brs false h c d = mapped (λ st₁ n a. in_its a) (λ aim v st₁ n a. in_its a) d
  where
    its : {E : Env} {s : Signal} → OfBranch env (branch_in st k) (held st k) brs E s → CurrentOfGroup st env k body brs E s
    its (of b) = in_branch h b

    in_its : {r : Result} {n : ℕ} → Runs rec st (OfBranch env (branch_in st k) (held st k) brs) r n → Runs rec st (CurrentOfGroup st env k body brs) r n
    in_its a = record { E = a.E; part = a.part; current = its a.current; runs = a.runs }

group_derived : (rec : Bytes) (env : Env) (st : Bytes) (i k : ℕ) (body : Signal) (brs : Branches) {r : Updated}
    → DerivedR rec st (CurrentOfGroup st env k body brs) r → DerivedT rec env st (sig (group i k body brs)) (ruleᵘ (caught k body brs r))
unfolding ruleᵘ afterᵘ one_rule ◌plus◌ caught
group_derived rec env st i k body brs (goes a) = goes (tr_continue a.current a.runs)
group_derived rec env st i k body brs (leaps {aim = aim} {v = v} {st = st₁} {w = w} a) = go (has_branch aim brs) refl
  where
    go : (q : Bool) → has_branch aim brs ≡ q → DerivedT rec env st (sig (group i k body brs))
        (ruleᵘ (if q then Next (reset_b brs (reset_s body (hold_branch st₁ k aim v))) w else Jump aim v st₁ w))
    go true h = goes (tr_continue_taken a.current a.runs h)
    go false h = leaps (tr_continue_left a.current a.runs h)
group_derived rec env st i k body brs halts = halts

branch_derived : (rec : Bytes) (env : Env) (st : Bytes) (k : ℕ) (v : Value) (n t : ℕ) (body : Signal) (next : Branches) {r s : Updated} (q : Bool)
    → eqb n k ≡ q → DerivedT rec (bind env n v) st (sig body) r → DerivedR rec st (OfBranch env k v next) s
    → DerivedR rec st (OfBranch env k v (branch n t body next)) (if q then r else s)
branch_derived rec env st k v n t body next true h c d =
    current_runs (subst (λ (b : ℕ). OfBranch env k v (branch n t body next) (bind env b v) body) (sym (eqb-true n k h)) (of (here h))) c
branch_derived rec env st k v n t body next false h c d = mapped (λ st₁ m a. on a) (λ aim w st₁ m a. on a) d
  where
    its : {E : Env} {s : Signal} → OfBranch env k v next E s → OfBranch env k v (branch n t body next) E s
    its (of b) = of (later h b)

    on : {r : Result} {m : ℕ} → Runs rec st (OfBranch env k v next) r m → Runs rec st (OfBranch env k v (branch n t body next)) r m
    on a = record { E = a.E; part = a.part; current = its a.current; runs = a.runs }

until_derived : (rec : Bytes) (env : Env) (st : Bytes) (i : ℕ) (s : Signal) (cs : Cases) {o : Occurrence} {u : Updated} (f : Bytes → Updated)
    → DerivedO rec st env cs o → DerivedT rec env st (evs cs) u → ((st₁ : Bytes) → DerivedT rec env st₁ (sig s) (f st₁))
    → DerivedT rec env st (sig (until i s cs)) (ruleᵘ (on_occurrence o st (u thenᵘ λ st₁. stays (f st₁))))
unfolding on_occurrence ◌thenᵘ◌
until_derived rec env st i s cs f (none {w = p} a) (goes {st = st₁} {w = q} c) d =
    rule_thrice p q (λ st₂ n. tr_until_noc a c) (λ aim v st₂ n b. absurd b) (stayed (d st₁))
until_derived rec env st i s cs f (none {w = p} a) (leaps j) d = halted p
until_derived rec env st i s cs f (none {w = p} a) halts d = halted p
until_derived rec env st i s cs f (one {w = w} a) u d = rule_jump _ _ _ w (tr_until_occ a)
until_derived rec env st i s cs f lost u d = never

events_derived : (rec : Bytes) (env : Env) (st : Bytes) (i target t : ℕ) (event : Signal) (next : Cases) {u : Updated} (f : Bytes → Updated)
    → DerivedT rec env st (evs next) u → ((st₁ : Bytes) → DerivedT rec env st₁ (sig event) (f st₁))
    → DerivedT rec env st (evs (case i event target t next)) (u thenᵘ λ st₁. stays (f st₁))
unfolding ◌thenᵘ◌
events_derived rec env st i target t event next f (goes {st = st₁} {w = q} c) d =
    after_once q (λ st₂ n. tr_case c) (λ aim v st₂ n b. absurd b) (stayed (d st₁))
events_derived rec env st i target t event next f (leaps j) d = halts
events_derived rec env st i target t event next f halts d = halts

-- where the definition is not halted there is a derivation
mutual
  unfolding upd_s

  pub derive_t : (s : Signal) (rec : Bytes) (env : Env) (st : Bytes) → DerivedT rec env st (sig s) (upd_s rec env s st)
  derive_t (input i c) rec env st = rule_leave st tr_input
  derive_t (time i) rec env st = rule_leave st tr_time
  derive_t (ext i e) rec env st = rule_leave st tr_ext
  derive_t (delay i k v s) rec env st = delay_derived rec env st i k v s (derive_s s rec st env) (derive_t s rec env st)
  derive_t (let_signal i t d b) rec env st =
      let_derived rec env st i t d b (λ v. upd_s rec (bind env i v) d st) (λ v st₁. upd_s rec (bind env i v) b st₁)
      (derive_s d rec st env) (λ v. derive_t d rec (bind env i v) st) (λ v st₁. derive_t b rec (bind env i v) st₁)
  derive_t (switch i k t x e y) rec env st =
      switch_derived rec env st i k t x e y (λ st₁. if is_clear st₁ k then upd_s rec env x st₁ else upd_s rec (bind env i (held st₁ k)) y st₁)
      (derive_s e rec st env) (derive_t e rec env st)
      (λ st₁. switch_part rec env st₁ i k x y (is_clear st₁ k) refl (derive_t x rec env st₁) (derive_t y rec (bind env i (held st₁ k)) st₁))
  derive_t (group i k body brs) rec env st =
      group_derived rec env st i k body brs
      (group_part rec env st k body brs (is_clear st k) refl (derive_t body rec env st) (derive_tb brs rec env st (branch_in st k) (held st k)))
  derive_t (until i s cs) rec env st =
      until_derived rec env st i s cs (λ st₁. upd_s rec env s st₁) (derive_o cs rec st env) (derive_tc cs rec env st) (λ st₁. derive_t s rec env st₁)

  derive_tb : (brs : Branches) (rec : Bytes) (env : Env) (st : Bytes) (k : ℕ) (v : Value)
      → DerivedR rec st (OfBranch env k v brs) (upd_b rec env k v brs st)
  derive_tb no_branch rec env st k v = halts
  derive_tb (branch n t body next) rec env st k v =
      branch_derived rec env st k v n t body next (eqb n k) refl (derive_t body rec (bind env n v) st) (derive_tb next rec env st k v)

  pub derive_tc : (cs : Cases) (rec : Bytes) (env : Env) (st : Bytes) → DerivedT rec env st (evs cs) (upd_c rec env cs st)
  derive_tc no_case rec env st = leave_derived st tr_no_case
  derive_tc (case i event target t next) rec env st =
      events_derived rec env st i target t event next (λ st₁. upd_s rec env event st₁) (derive_tc next rec env st) (λ st₁. derive_t event rec env st₁)

-- so of the definition's outcome and work there is a derivation
pub complete_t : {rec : Bytes} {env : Env} {st : Bytes} {s : Signal} {st₁ : Bytes} {w : Tally} → upd_s rec env s st ≡ Next st₁ w
    → Transition rec env st (sig s) (becomes st₁) w.work
complete_t {rec} {env} {st} {s} h = next_of (derive_t s rec env st) h

pub complete_j : {rec : Bytes} {env : Env} {st : Bytes} {s : Signal} {aim : ℕ} {v : Value} {st₁ : Bytes} {w : Tally}
    → upd_s rec env s st ≡ Jump aim v st₁ w → Transition rec env st (sig s) (leaves aim v st₁) w.work
complete_j {rec} {env} {st} {s} h = jump_of (derive_t s rec env st) h
