-- Of a signal's update in an environment and a state there is one derivation at most: of one result, of one size, and the derivations
-- themselves are equal.
-- Assumes nothing.
use mathlib.Core.Path.{◌≡◌, refl, sym, ap, subst, ◌∙◌}
use mathlib.Core.HLevel.{Σ_prop_path, ×_prop, Σ_set}
use mathlib.Core.List.{is_set}
use mathlib.Core.Bool.{Bool, true, false, Bool-set}
use Prim.Native.Nat.{ℕ, zero, suc, ◌+◌}
use native.Mathlib.Nat.{ℕ_set}
use ghost.Sets.{retract_set}
use Rattle.rules.specs.Bytes.{Bytes}
use Rattle.rules.specs.Layout.{hold, hold_branch}
use Rattle.rules.specs.Work.{Updated, Next, Jump, Halted}
use Rattle.rules.specs.Tree.{Signal, delay, let_signal, switch, group, until, Branches, Cases, case}
use Rattle.rules.specs.Scope.{has_branch}
use Rattle.rules.specs.Evaluate.{Env, bind, opened}
use Rattle.rules.specs.Reset.{reset_s, reset_b}
use Rattle.rules.specs.declared.Value.{Value}
use Rattle.rules.specs.declared.Value.TheVariants.{Plain}
use Rattle.rules.specs.Opened.{Gone}
use Rattle.rules.specs.Occurrence.{Occurrence, Took, Quiet}
use Rattle.published.specs.Signals.{CurrentOfGroup}
use Rattle.published.specs.Updates.{NoneOccurs, none_of_none, none_of_case, FirstOccurs, occurs_here, occurs_later, Part, sig, evs, Result, becomes, leaves, Transition, tr_input, tr_time, tr_ext, tr_delay, tr_signal', tr_switch_occ, tr_switch_noc, tr_continue, tr_continue_taken, tr_continue_left, tr_until_noc, tr_until_occ, tr_no_case, tr_case}
use Rattle.published.proofs.Sets.{Value-set, here_prop, gone_prop, true_not_false, along, each_prop}
use Rattle.published.proofs.ExpressionsOnly.{HeldBy, not_both_takes}
use Rattle.published.proofs.SignalsOnly.{SwitchPart, switch_only, GroupPart, group_only, SomeS, seen_path, only_s}
use Rattle.published.proofs.UpdatesSound.{none_sound, first_sound, current_part, sound_t}

-- the events of a list
abbrev SomeNone : Bytes → Bytes → Env → Cases → Type 0
SomeNone rec st env cs = (n : ℕ) × NoneOccurs rec st env cs n

abbrev SomeFirst : Bytes → Bytes → Env → Cases → Type 0
SomeFirst rec st env cs = (r : (ℕ × Value) × ℕ) × FirstOccurs rec st env cs r.0.0 r.0.1 r.1

abbrev by_none : {rec st : Bytes} {env : Env} {i target t : ℕ} {event : Signal} {cs : Cases} (p : SomeS rec st env event × SomeNone rec st env cs)
    → opened p.0.0.0 ≡ Gone → SomeNone rec st env (case i event target t cs)
by_none p g = (p.0.0.1 + p.1.0, none_of_case p.0.1 g p.1.1)

none_only : {rec st : Bytes} {env : Env} {cs : Cases} {m n : ℕ} (p : NoneOccurs rec st env cs m) (q : NoneOccurs rec st env cs n)
    → ◌≡◌ {A = SomeNone rec st env cs} (m, p) (n, q)
none_only none_of_none none_of_none = refl
none_only (none_of_case d g c) (none_of_case d₁ g₁ c₁) = along by_none (λ i. (only_s d d₁ i, none_only c c₁ i)) g (gone_prop _ _) g₁

abbrev by_here : {rec st : Bytes} {env : Env} {i target t : ℕ} {event : Signal} {cs : Cases} (p : SomeS rec st env event) → HeldBy p.0.0
    → SomeFirst rec st env (case i event target t cs)
by_here {target = target} p h = (((target, h.0), p.0.1), occurs_here p.1 h.1)

abbrev by_later : {rec st : Bytes} {env : Env} {i target t : ℕ} {event : Signal} {cs : Cases} (p : SomeS rec st env event × SomeFirst rec st env cs)
    → opened p.0.0.0 ≡ Gone → SomeFirst rec st env (case i event target t cs)
by_later p g = ((p.1.0.0, p.0.0.1 + p.1.0.1), occurs_later p.0.1 g p.1.1)

first_only : {rec st : Bytes} {env : Env} {cs : Cases} {aim k : ℕ} {u v : Value} {m n : ℕ} (p : FirstOccurs rec st env cs aim u m)
    (q : FirstOccurs rec st env cs k v n) → ◌≡◌ {A = SomeFirst rec st env cs} (((aim, u), m), p) (((k, v), n), q)
first_only (occurs_here d g) (occurs_here d₁ g₁) = along by_here (only_s d d₁) (_, g) (here_prop _ _) (_, g₁)
first_only (occurs_here d g) (occurs_later d₁ g₁ c) = absurd (not_both_takes (sym (seen_path (only_s d d₁))) g₁ g)
first_only (occurs_later d g c) (occurs_here d₁ g₁) = absurd (not_both_takes (seen_path (only_s d d₁)) g g₁)
first_only (occurs_later d g c) (occurs_later d₁ g₁ c₁) = along by_later (λ i. (only_s d d₁ i, first_only c c₁ i)) g (gone_prop _ _) g₁

abbrev IsQuiet : Occurrence → Type 0
IsQuiet (Took aim v w) = ⊥
IsQuiet (Quiet w) = Unit {0}
IsQuiet Occurrence.Stuck = ⊥

none_not_first : {rec st : Bytes} {env : Env} {cs : Cases} {aim m n : ℕ} {v : Value} → NoneOccurs rec st env cs m → FirstOccurs rec st env cs aim v n → ⊥
none_not_first p q = subst IsQuiet (sym (none_sound p) ∙ first_sound q) tt

-- a derivation of any result and size; of one that goes on; of one that leaves
abbrev pub SomeT : Bytes → Env → Bytes → Part → Type 0
SomeT rec env st x = (r : Result × ℕ) × Transition rec env st x r.0 r.1

abbrev pub Going : Bytes → Env → Bytes → Part → Type 0
Going rec env st x = (r : Bytes × ℕ) × Transition rec env st x (becomes r.0) r.1

abbrev Leaving : Bytes → Env → Bytes → Part → Type 0
Leaving rec env st x = (r : (ℕ × Value × Bytes) × ℕ) × Transition rec env st x (leaves r.0.0 r.0.1 r.0.2) r.1

abbrev pub going : {rec : Bytes} {env : Env} {st : Bytes} {x : Part} → Going rec env st x → (r : Result) (n : ℕ) → Transition rec env st x r n → Going rec env st x
going p (becomes st) n d = ((st, n), d)
going p (leaves aim v st) n d = p

abbrev leaving : {rec : Bytes} {env : Env} {st : Bytes} {x : Part} → Leaving rec env st x → (r : Result) (n : ℕ) → Transition rec env st x r n → Leaving rec env st x
leaving p (becomes st) n d = p
leaving p (leaves aim v st) n d = (((aim, v, st), n), d)

pub going_path : {rec : Bytes} {env : Env} {st : Bytes} {x : Part} {p q : Going rec env st x}
    → ◌≡◌ {A = SomeT rec env st x} ((becomes p.0.0, p.0.1), p.1) ((becomes q.0.0, q.0.1), q.1) → p ≡ q
going_path {rec} {env} {st} {x} {p} h = ap (λ (t : SomeT rec env st x). going p t.0.0 t.0.1 t.1) h

leaving_path : {rec : Bytes} {env : Env} {st : Bytes} {x : Part} {p q : Leaving rec env st x}
    → ◌≡◌ {A = SomeT rec env st x} ((leaves p.0.0.0 p.0.0.1 p.0.0.2, p.0.1), p.1) ((leaves q.0.0.0 q.0.0.1 q.0.0.2, q.0.1), q.1)
    → p ≡ q
leaving_path {rec} {env} {st} {x} {p} h = ap (λ (t : SomeT rec env st x). leaving p t.0.0 t.0.1 t.1) h

-- each rule, from its premises
abbrev by_delay : {rec : Bytes} {env : Env} {st : Bytes} {i k : ℕ} {v : Value} {s : Signal} → SomeS rec st env s × Going rec env st (sig s)
    → SomeT rec env st (sig (delay i k v s))
by_delay {k = k} p = ((becomes (hold p.1.0.0 k p.0.0.0), 1 + (p.0.0.1 + p.1.0.1)), tr_delay p.0.1 p.1.1)

abbrev LetParts : Bytes → Env → Bytes → Signal → Signal → Type 0
LetParts rec env st d b = (u : Going rec env st (sig d)) × SomeT rec env u.0.0 (sig b)

abbrev let_parts : {rec : Bytes} {env : Env} {st : Bytes} {d b : Signal} (u : Going rec env st (sig d)) → SomeT rec env u.0.0 (sig b) → LetParts rec env st d b
let_parts u b = (u, b)

abbrev by_let : {rec : Bytes} {env : Env} {st : Bytes} {i t : ℕ} {d b : Signal} (p : SomeS rec st env d) → LetParts rec (bind env i p.0.0) st d b
    → SomeT rec env st (sig (let_signal i t d b))
by_let p q = ((q.1.0.0, 1 + (p.0.1 + (q.0.0.1 + q.1.0.1))), tr_signal' p.1 q.0.1 q.1.1)

abbrev by_occ : {rec : Bytes} {env : Env} {st : Bytes} {i k t : ℕ} {x e y : Signal} (p : SomeS rec st env e × Going rec env st (sig e)) → HeldBy p.0.0.0
    → SomeT rec env st (sig (switch i k t x e y))
by_occ {k = k} {x = x} {y = y} p h =
    ((becomes (reset_s y (reset_s x (hold p.1.0.0 k h.0))), 1 + (p.0.0.1 + p.1.0.1)), tr_switch_occ p.0.1 p.1.1 h.1)

abbrev Unswitched : Bytes → Env → Bytes → ℕ → ℕ → Signal → Signal → Signal → Type 0
Unswitched rec env st i k x e y =
    (p : SomeS rec st env e × Going rec env st (sig e)) × ((opened p.0.0.0 ≡ Gone) × SwitchPart p.1.0.0 env i k x y)

abbrev by_noc : {rec : Bytes} {env : Env} {st : Bytes} {i k t : ℕ} {x e y : Signal} (p : Unswitched rec env st i k x e y)
    → Going rec p.1.1.0.0 p.0.1.0.0 (sig p.1.1.0.1) → SomeT rec env st (sig (switch i k t x e y))
by_noc p q =
    ((becomes q.0.0, 1 + (p.0.0.0.1 + (p.0.1.0.1 + q.0.1))), tr_switch_noc p.0.0.1 p.0.1.1 p.1.0 p.1.1.1 q.1)

abbrev by_continue : {rec : Bytes} {env : Env} {st : Bytes} {i k : ℕ} {body : Signal} {brs : Branches} (p : GroupPart st env k body brs)
    → Going rec p.0.0 st (sig p.0.1) → SomeT rec env st (sig (group i k body brs))
by_continue p q = ((becomes q.0.0, 1 + q.0.1), tr_continue p.1 q.1)

abbrev LeavingFor : Bool → Bytes → Env → Bytes → Branches → Signal → Type 0
LeavingFor b rec env st brs s = (q : Leaving rec env st (sig s)) × (has_branch q.0.0.0 brs ≡ b)

abbrev by_taken : {rec : Bytes} {env : Env} {st : Bytes} {i k : ℕ} {body : Signal} {brs : Branches} (p : GroupPart st env k body brs)
    → LeavingFor true rec p.0.0 st brs p.0.1 → SomeT rec env st (sig (group i k body brs))
by_taken {k = k} {body} {brs} p q = (
  (becomes (reset_b brs (reset_s body (hold_branch q.0.0.0.2 k q.0.0.0.0 q.0.0.0.1))), 1 + q.0.0.1),
  tr_continue_taken p.1 q.0.1 q.1,
)

abbrev by_left : {rec : Bytes} {env : Env} {st : Bytes} {i k : ℕ} {body : Signal} {brs : Branches} (p : GroupPart st env k body brs)
    → LeavingFor false rec p.0.0 st brs p.0.1 → SomeT rec env st (sig (group i k body brs))
by_left p q = ((leaves q.0.0.0.0 q.0.0.0.1 q.0.0.0.2, 1 + q.0.0.1), tr_continue_left p.1 q.0.1 q.1)

abbrev by_until_noc : {rec : Bytes} {env : Env} {st : Bytes} {i : ℕ} {s : Signal} {cs : Cases} (p : SomeNone rec st env cs × Going rec env st (evs cs))
    → Going rec env p.1.0.0 (sig s) → SomeT rec env st (sig (until i s cs))
by_until_noc p q = ((becomes q.0.0, 1 + (p.0.0 + (p.1.0.1 + q.0.1))), tr_until_noc p.0.1 p.1.1 q.1)

abbrev by_until_occ : {rec : Bytes} {env : Env} {st : Bytes} {i : ℕ} {s : Signal} {cs : Cases} → SomeFirst rec st env cs → SomeT rec env st (sig (until i s cs))
by_until_occ {st = st} p = ((leaves p.0.0.0 p.0.0.1 st, 1 + p.0.1), tr_until_occ p.1)

abbrev by_case : {rec : Bytes} {env : Env} {st : Bytes} {i target t : ℕ} {event : Signal} {next : Cases} (p : Going rec env st (evs next))
    → Going rec env p.0.0 (sig event) → SomeT rec env st (evs (case i event target t next))
by_case p q = ((becomes q.0.0, p.0.1 + q.0.1), tr_case p.1 q.1)

-- rules of a group that exclude each other
abbrev IsNext : Updated → Type 0
IsNext (Next st w) = Unit {0}
IsNext (Jump aim v st w) = ⊥
IsNext Halted = ⊥

abbrev aim_of : Updated → ℕ
aim_of (Next st w) = 0
aim_of (Jump aim v st w) = aim
aim_of Halted = 0

stays_not_leaves : {rec st st₁ st₂ : Bytes} {env E F : Env} {k aim m n : ℕ} {body s t : Signal} {brs : Branches} {v : Value}
    → CurrentOfGroup st env k body brs E s → Transition rec E st (sig s) (becomes st₁) m
    → CurrentOfGroup st env k body brs F t → Transition rec F st (sig t) (leaves aim v st₂) n → ⊥
stays_not_leaves {rec} c d e f = subst IsNext (sym (current_part rec c ∙ sound_t d) ∙ (current_part rec e ∙ sound_t f)) tt

taken_not_left : {rec st st₁ st₂ : Bytes} {env E F : Env} {k aim bim m n : ℕ} {body s t : Signal} {brs : Branches} {v w : Value}
    → CurrentOfGroup st env k body brs E s → Transition rec E st (sig s) (leaves aim v st₁) m → has_branch aim brs ≡ true
    → CurrentOfGroup st env k body brs F t → Transition rec F st (sig t) (leaves bim w st₂) n → has_branch bim brs ≡ false → ⊥
taken_not_left {rec} {brs = brs} c d g e f h =
    let same = ap aim_of (sym (current_part rec c ∙ sound_t d) ∙ (current_part rec e ∙ sound_t f)) in
    true_not_false (sym (ap (λ (k : ℕ). has_branch k brs) same) ∙ g) h

-- two derivations are one
pub only_t : {rec : Bytes} {env : Env} {st : Bytes} {x : Part} {r q : Result} {m n : ℕ} (d : Transition rec env st x r m) (c : Transition rec env st x q n)
    → ◌≡◌ {A = SomeT rec env st x} ((r, m), d) ((q, n), c)
only_t tr_input tr_input = refl
only_t tr_time tr_time = refl
only_t tr_ext tr_ext = refl
only_t (tr_delay d u) (tr_delay d₁ u₁) = ap by_delay (λ i. (only_s d d₁ i, going_path {p = (_, u)} {q = (_, u₁)} (only_t u u₁) i))
only_t (tr_signal' d u b) (tr_signal' d₁ u₁ b₁) =
    along by_let (only_s d d₁) ((_, u), (_, b))
    (λ q. along let_parts (going_path (only_t u q.0.1)) (_, b) (λ t. only_t b t.1) q.1)
    ((_, u₁), (_, b₁))
only_t (tr_switch_occ d u o) (tr_switch_occ d₁ u₁ o₁) =
    along by_occ (λ i. (only_s d d₁ i, going_path {p = (_, u)} {q = (_, u₁)} (only_t u u₁) i)) (_, o) (here_prop _ _) (_, o₁)
only_t (tr_switch_occ d u o) (tr_switch_noc d₁ u₁ o₁ c₁ p₁) = absurd (not_both_takes (sym (seen_path (only_s d d₁))) o₁ o)
only_t (tr_switch_noc d u o c p) (tr_switch_occ d₁ u₁ o₁) = absurd (not_both_takes (seen_path (only_s d d₁)) o o₁)
only_t (tr_switch_noc d u o c p) (tr_switch_noc d₁ u₁ o₁ c₁ p₁) =
    along by_noc
    (Σ_prop_path (λ q. ×_prop (gone_prop _) switch_only) {u = (((_, d), (_, u)), (o, (_, c)))} {v = (((_, d₁), (_, u₁)), (o₁, (_, c₁)))}
    (λ i. (only_s d d₁ i, going_path {p = (_, u)} {q = (_, u₁)} (only_t u u₁) i)))
    (_, p) (λ q. going_path (only_t p q.1)) (_, p₁)
only_t (tr_continue c u) (tr_continue c₁ u₁) = along by_continue (group_only (_, c) (_, c₁)) (_, u) (λ q. going_path (only_t u q.1)) (_, u₁)
only_t (tr_continue c u) (tr_continue_taken c₁ u₁ h₁) = absurd (stays_not_leaves c u c₁ u₁)
only_t (tr_continue c u) (tr_continue_left c₁ u₁ h₁) = absurd (stays_not_leaves c u c₁ u₁)
only_t (tr_continue_taken c u h) (tr_continue c₁ u₁) = absurd (stays_not_leaves c₁ u₁ c u)
only_t (tr_continue_taken c u h) (tr_continue_taken c₁ u₁ h₁) =
    along by_taken (group_only (_, c) (_, c₁)) ((_, u), h) (λ q. Σ_prop_path (λ p. Bool-set _ _) (leaving_path (only_t u q.0.1))) ((_, u₁), h₁)
only_t (tr_continue_taken c u h) (tr_continue_left c₁ u₁ h₁) = absurd (taken_not_left c u h c₁ u₁ h₁)
only_t (tr_continue_left c u h) (tr_continue c₁ u₁) = absurd (stays_not_leaves c₁ u₁ c u)
only_t (tr_continue_left c u h) (tr_continue_taken c₁ u₁ h₁) = absurd (taken_not_left c₁ u₁ h₁ c u h)
only_t (tr_continue_left c u h) (tr_continue_left c₁ u₁ h₁) =
    along by_left (group_only (_, c) (_, c₁)) ((_, u), h) (λ q. Σ_prop_path (λ p. Bool-set _ _) (leaving_path (only_t u q.0.1))) ((_, u₁), h₁)
only_t (tr_until_noc a c u) (tr_until_noc a₁ c₁ u₁) =
    along by_until_noc (λ i. (none_only a a₁ i, going_path {p = (_, c)} {q = (_, c₁)} (only_t c c₁) i)) (_, u) (λ q. going_path (only_t u q.1)) (_, u₁)
only_t (tr_until_noc a c u) (tr_until_occ a₁) = absurd (none_not_first a a₁)
only_t (tr_until_occ a) (tr_until_noc a₁ c₁ u₁) = absurd (none_not_first a₁ a)
only_t (tr_until_occ a) (tr_until_occ a₁) = ap by_until_occ (first_only a a₁)
only_t tr_no_case tr_no_case = refl
only_t (tr_case c u) (tr_case c₁ u₁) = along by_case (going_path {p = (_, c)} {q = (_, c₁)} (only_t c c₁)) (_, u) (λ q. going_path (only_t u q.1)) (_, u₁)

-- a result as numbers, a value and a state
abbrev result_code : Result → (ℕ × ℕ) × (Value × Bytes)
result_code (becomes st) = ((0, 0), (Plain 0 0, st))
result_code (leaves aim v st) = ((1, aim), (v, st))

abbrev result_from : ℕ → ℕ → Value → Bytes → Result
result_from zero aim v st = becomes st
result_from (suc k) aim v st = leaves aim v st

result_back : (r : Result) → result_from (result_code r).0.0 (result_code r).0.1 (result_code r).1.0 (result_code r).1.1 ≡ r
result_back (becomes st) = refl
result_back (leaves aim v st) = refl

Result-set : IsSet (Result × ℕ)
Result-set =
    Σ_set (retract_set result_code (λ p. result_from p.0.0 p.0.1 p.1.0 p.1.1) result_back
    (Σ_set (Σ_set ℕ_set (λ a. ℕ_set)) (λ a. Σ_set Value-set (λ v. is_set ℕ_set)))) (λ r. ℕ_set)

-- and so are two transitions of one result and size
pub one_t : (rec : Bytes) (env : Env) (st : Bytes) (x : Part) (r : Result) (n : ℕ) → IsProp (Transition rec env st x r n)
one_t rec env st x r n = each_prop Result-set (λ p q. only_t p.1 q.1) (r, n)
