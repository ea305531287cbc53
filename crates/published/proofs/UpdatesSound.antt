-- A derivation of a signal's update gives the definition's outcome.
-- Assumes nothing.
use Rattle.std.specs.Prelude.{if◌then◌else◌}
use mathlib.Core.Path.{◌≡◌, refl, ap, ◌∙◌}
use mathlib.Core.Bool.{Bool, true, false}
use Prim.Native.Nat.{ℕ, ◌+◌}
use native.Mathlib.Omega.{arith}
use borrow.Author.Tests.{eqb-true}
use Rattle.rules.specs.Bytes.{Bytes, ◌or◌}
use Rattle.rules.specs.Layout.{held, hold, hold_branch, is_clear, branch_in}
use Rattle.rules.specs.Work.{nothing, one_rule, ◌plus◌, Updated, stays, leave, afterᵘ, ruleᵘ, ◌with◌, ◌thenᵘ◌}
use Rattle.rules.specs.Tree.{Signal, Branches, Cases}
use Rattle.rules.specs.Scope.{has_branch}
use Rattle.rules.specs.Evaluate.{Env, bind, opened}
use Rattle.rules.specs.Reset.{reset_s, reset_b}
use Rattle.rules.specs.Update.{laterᵒ, occurs_if, occurs, first_present, on_occurrence, caught, on_event, upd_s, upd_b, upd_c}
use Rattle.rules.specs.declared.Value.{Value}
use Rattle.rules.specs.Opened.{Here, Gone}
use Rattle.rules.specs.Evaluated.{Evaluated}
use Rattle.rules.specs.Occurrence.{Occurrence, Took, Quiet}
use Rattle.published.specs.Signals.{BodyOf, here, later, CurrentOfGroup}
use Rattle.published.specs.Updates.{NoneOccurs, none_of_none, none_of_case, FirstOccurs, occurs_here, occurs_later, Part, sig, evs, Result, becomes, leaves, Transition, tr_input, tr_time, tr_ext, tr_delay, tr_signal', tr_switch_occ, tr_switch_noc, tr_continue, tr_continue_taken, tr_continue_left, tr_until_noc, tr_until_occ, tr_no_case, tr_case}
use Rattle.published.specs.Marks.{left_none, left_first, left_t}
use Rattle.published.proofs.Outcomes.{counted, done, next, jump, next_sized, or_no}
use Rattle.published.proofs.SignalsSound.{switch_part, group_part, sound_s}

-- the definition of a part, and the outcome of a result
abbrev pub updated_by : Bytes → Env → Bytes → Part → Updated
updated_by rec env st (sig s) = upd_s rec env s st
updated_by rec env st (evs cs) = upd_c rec env cs st

abbrev pub outcome : Result → ℕ → Bool → Updated
outcome (becomes st) n b = next st n b
outcome (leaves aim v st) n b = jump aim v st n b

-- the events of a list
occurs_gone : {r : Evaluated} {o : Occurrence} {u : Value} {m n : ℕ} {i j : Bool} (target : ℕ) → r ≡ done u m i → opened u ≡ Gone
    → o ≡ Quiet (counted n j) → occurs r target o ≡ Quiet (counted (m + n) (i or j))
unfolding occurs occurs_if laterᵒ ◌plus◌
occurs_gone target e g h = rw (e, g, h)

occurs_on : {r : Evaluated} {o : Occurrence} {u v : Value} {m n aim : ℕ} {i j : Bool} (target : ℕ) → r ≡ done u m i → opened u ≡ Gone
    → o ≡ Took aim v (counted n j) → occurs r target o ≡ Took aim v (counted (m + n) (i or j))
unfolding occurs occurs_if laterᵒ ◌plus◌
occurs_on target e g h = rw (e, g, h)

occurs_now : {r : Evaluated} (o : Occurrence) {u v : Value} {n : ℕ} {i : Bool} (target : ℕ) → r ≡ done u n i → opened u ≡ Here v
    → occurs r target o ≡ Took target v (counted n i)
unfolding occurs occurs_if
occurs_now o target e g = rw (e, g)

pub none_sound : {rec st : Bytes} {env : Env} {cs : Cases} {n : ℕ} (d : NoneOccurs rec st env cs n)
    → first_present rec st env cs ≡ Quiet (counted n (left_none d))
unfolding first_present nothing left_none
none_sound none_of_none = refl
none_sound (none_of_case d g c) = occurs_gone _ (sound_s d) g (none_sound c)

pub first_sound : {rec st : Bytes} {env : Env} {cs : Cases} {aim n : ℕ} {v : Value} (d : FirstOccurs rec st env cs aim v n)
    → first_present rec st env cs ≡ Took aim v (counted n (left_first d))
unfolding first_present left_first
first_sound (occurs_here d g) = occurs_now _ _ (sound_s d) g
first_sound (occurs_later d g c) = occurs_on _ (sound_s d) g (first_sound c)

-- one rule, of each kind of signal
leave_next : (st : Bytes) → ruleᵘ (leave st) ≡ next st 1 false
unfolding ruleᵘ afterᵘ leave one_rule nothing ◌plus◌ ◌or◌
leave_next st = refl

leave_no : (st : Bytes) → leave st ≡ next st 0 false
unfolding leave nothing
leave_no st = refl

delay_next : (k : ℕ) {r : Evaluated} {u : Updated} {w : Value} {st₁ : Bytes} {m n : ℕ} {i j : Bool} → r ≡ done w m i → u ≡ next st₁ n j
    → ruleᵘ (r with λ w. u thenᵘ λ st₁. leave (hold st₁ k w)) ≡ next (hold st₁ k w) (1 + (m + n)) (i or j)
unfolding ruleᵘ afterᵘ leave one_rule nothing ◌plus◌ ◌or◌ ◌with◌ ◌thenᵘ◌
delay_next k {i = i} {j} e f = rw (e, f) (next_sized _ (omega arith) (ap (λ (b : Bool). i or b) (or_no j)))

let_result : (r : Result) {q : Evaluated} (f : Value → Updated) (g : Value → Bytes → Updated) {v : Value} {st₁ : Bytes} {l m : ℕ} {i j : Bool} (n : ℕ) (b : Bool) → q ≡ done v l i
    → f v ≡ next st₁ m j → g v st₁ ≡ outcome r n b → ruleᵘ (q with λ v. f v thenᵘ g v) ≡ outcome r (1 + (l + (m + n))) (i or (j or b))
unfolding ruleᵘ afterᵘ one_rule ◌plus◌ ◌or◌ ◌with◌ ◌thenᵘ◌
let_result (becomes st) f g n b e h p = rw (e, h, p)
let_result (leaves aim v st) f g n b e h p = rw (e, h, p)

occ_next : {r : Evaluated} {u : Updated} (f : Bytes → Value → Bytes) (g : Bytes → Updated) {event v : Value} {st₁ : Bytes} {m n : ℕ} {i j : Bool}
    → r ≡ done event m i → u ≡ next st₁ n j → opened event ≡ Here v
    → ruleᵘ (r with λ event. u thenᵘ λ st₁. on_event (opened event) (λ v. leave (f st₁ v)) (stays (g st₁))) ≡ next (f st₁ v) (1 + (m + n)) (i or j)
unfolding ruleᵘ afterᵘ leave one_rule nothing ◌plus◌ ◌or◌ ◌with◌ ◌thenᵘ◌ on_event
occ_next f g {i = i} {j} e h o = rw (e, h, o) (next_sized _ (omega arith) (ap (λ (b : Bool). i or b) (or_no j)))

noc_next : {r : Evaluated} {u : Updated} (f : Bytes → Value → Bytes) (g : Bytes → Updated) {event : Value} {st₁ st₂ : Bytes} {l m n : ℕ} {i j b : Bool}
    → r ≡ done event l i → u ≡ next st₁ m j → opened event ≡ Gone → g st₁ ≡ next st₂ n b
    → ruleᵘ (r with λ event. u thenᵘ λ st₁. on_event (opened event) (λ v. leave (f st₁ v)) (stays (g st₁))) ≡ next st₂ (1 + (l + (m + n))) (i or (j or b))
unfolding ruleᵘ afterᵘ one_rule ◌plus◌ ◌or◌ ◌with◌ ◌thenᵘ◌ on_event stays
noc_next f g e h o p = rw (e, h, o, p)

group_next : (k : ℕ) (body : Signal) (brs : Branches) {r : Updated} {st₁ : Bytes} {n : ℕ} {i : Bool} → r ≡ next st₁ n i
    → ruleᵘ (caught k body brs r) ≡ next st₁ (1 + n) i
unfolding ruleᵘ afterᵘ one_rule ◌plus◌ ◌or◌ caught
group_next k body brs e = rw e

group_taken : (k : ℕ) (body : Signal) (brs : Branches) {r : Updated} {st₁ : Bytes} {aim n : ℕ} {v : Value} {i : Bool} → r ≡ jump aim v st₁ n i
    → has_branch aim brs ≡ true → ruleᵘ (caught k body brs r) ≡ next (reset_b brs (reset_s body (hold_branch st₁ k aim v))) (1 + n) i
unfolding ruleᵘ afterᵘ one_rule ◌plus◌ ◌or◌ caught
group_taken k body brs e h = rw (e, h)

group_left : (k : ℕ) (body : Signal) (brs : Branches) {r : Updated} {st₁ : Bytes} {aim n : ℕ} {v : Value} {i : Bool} → r ≡ jump aim v st₁ n i
    → has_branch aim brs ≡ false → ruleᵘ (caught k body brs r) ≡ jump aim v st₁ (1 + n) i
unfolding ruleᵘ afterᵘ one_rule ◌plus◌ ◌or◌ caught
group_left k body brs e h = rw (e, h)

until_next : {o : Occurrence} (st : Bytes) {u : Updated} (f : Bytes → Updated) {st₁ st₂ : Bytes} {l m n : ℕ} {i j b : Bool} → o ≡ Quiet (counted l i)
    → u ≡ next st₁ m j → f st₁ ≡ next st₂ n b → ruleᵘ (on_occurrence o st (u thenᵘ λ st₁. stays (f st₁))) ≡ next st₂ (1 + (l + (m + n))) (i or (j or b))
unfolding ruleᵘ afterᵘ one_rule ◌plus◌ ◌or◌ on_occurrence ◌thenᵘ◌ stays
until_next st f e h p = rw (e, h, p)

until_leaves : {o : Occurrence} (st : Bytes) (u : Updated) {v : Value} {aim n : ℕ} {i : Bool} → o ≡ Took aim v (counted n i)
    → ruleᵘ (on_occurrence o st u) ≡ jump aim v st (1 + n) i
unfolding ruleᵘ afterᵘ one_rule ◌plus◌ ◌or◌ on_occurrence
until_leaves st u e = rw e

case_next : {u : Updated} (f : Bytes → Updated) {st₁ st₂ : Bytes} {m n : ℕ} {i j : Bool} → u ≡ next st₁ m i → f st₁ ≡ next st₂ n j
    → (u thenᵘ λ st₁. stays (f st₁)) ≡ next st₂ (m + n) (i or j)
unfolding afterᵘ ◌plus◌ ◌thenᵘ◌ stays
case_next f e h = rw (e, h)

-- the definition goes to the current part of a group
branch_body : (rec st : Bytes) (env : Env) (v : Value) {k : ℕ} {brs : Branches} {s : Signal} → BodyOf k brs s
    → upd_b rec env k v brs st ≡ upd_s rec (bind env k v) s st
unfolding upd_b
branch_body rec st env v {k} (here {n = n} {body = s} e) = rw e (ap (λ (b : ℕ). upd_s rec (bind env b v) s st) (eqb-true n k e))
branch_body rec st env v (later e b) = rw e (branch_body rec st env v b)

pub current_part : (rec : Bytes) {st : Bytes} {env E : Env} {k : ℕ} {body s : Signal} {brs : Branches} → CurrentOfGroup st env k body brs E s
    → (if is_clear st k then upd_s rec env body st else upd_b rec env (branch_in st k) (held st k) brs st) ≡ upd_s rec E s st
current_part rec {st} {env} c = group_part (λ E s. upd_s rec E s st) _ (λ t. branch_body rec st env _) c

-- a derivation gives the definition's outcome: its size is the work, and its mark the mark
pub sound_t : {rec : Bytes} {env : Env} {st : Bytes} {x : Part} {r : Result} {n : ℕ} (d : Transition rec env st x r n)
    → updated_by rec env st x ≡ outcome r n (left_t d)
unfolding upd_s left_t
sound_t tr_input = leave_next _
sound_t tr_time = leave_next _
sound_t tr_ext = leave_next _
sound_t (tr_delay d u) = delay_next _ (sound_s d) (sound_t u)
sound_t (tr_signal' {n = n} {r = r} d u b) = let_result r _ _ n (left_t b) (sound_s d) (sound_t u) (sound_t b)
sound_t (tr_switch_occ {k = k} {x = x} {y = y} d u o) = occ_next (λ st₁ v. reset_s y (reset_s x (hold st₁ k v))) _ (sound_s d) (sound_t u) o
sound_t {rec} (tr_switch_noc {st₁ = st₁} {k = k} {x = x} {y = y} d u o c p) =
    noc_next (λ st₁ v. reset_s y (reset_s x (hold st₁ k v))) _ (sound_s d) (sound_t u) o (switch_part (λ E s. upd_s rec E s st₁) c ∙ sound_t p)
sound_t {rec} (tr_continue c u) = group_next _ _ _ (current_part rec c ∙ sound_t u)
sound_t {rec} (tr_continue_taken c j h) = group_taken _ _ _ (current_part rec c ∙ sound_t j) h
sound_t {rec} (tr_continue_left c j h) = group_left _ _ _ (current_part rec c ∙ sound_t j) h
sound_t (tr_until_noc q c u) = until_next _ _ (none_sound q) (sound_t c) (sound_t u)
sound_t (tr_until_occ o) = until_leaves _ _ (first_sound o)
sound_t tr_no_case = leave_no _
sound_t (tr_case c u) = case_next _ (sound_t c) (sound_t u)
