-- Of a signal in an environment there is one derivation at most: of one value, of one size, and the derivations themselves are equal.
-- Assumes nothing.
use mathlib.Core.Path.{◌≡◌, refl, ap}
use mathlib.Core.Bool.{true, false, Bool-set}
use Prim.Native.Nat.{ℕ, ◌+◌}
use Rattle.rules.specs.Bytes.{Bytes}
use Rattle.rules.specs.Layout.{held, branch_in}
use Rattle.rules.specs.Tree.{Expr, Signal, ext, let_signal, switch, group, until, Branches, Cases}
use Rattle.rules.specs.Evaluate.{Env, bind}
use Rattle.rules.specs.declared.Value.{Value}
use Rattle.published.specs.Signals.{BodyOf, here, later, CurrentOfSwitch, first, second, CurrentOfGroup, in_body, in_branch, EvaluatesS, ev_input, ev_time, ev_ext, ev_delay, ev_signal, ev_switch, ev_continue, ev_until}
use Rattle.published.proofs.Sets.{Result-set, true_not_false, along, each_prop}
use Rattle.published.proofs.ExpressionsOnly.{SomeE, only_e}

-- one body of a number, and one current part
abbrev SomeBody : ℕ → Branches → Type 0
SomeBody k brs = (s : Signal) × BodyOf k brs s

body_only : {k : ℕ} {brs : Branches} {s s₁ : Signal} (b : BodyOf k brs s) (c : BodyOf k brs s₁) → ◌≡◌ {A = SomeBody k brs} (s, b) (s₁, c)
body_only (here {body = s} e) (here f) = λ i. (s, here (Bool-set _ true e f i))
body_only (here e) (later f c) = absurd (true_not_false e f)
body_only (later e b) (here f) = absurd (true_not_false f e)
body_only (later e b) (later f c) = λ i. ((body_only b c i).0, later (Bool-set _ false e f i) (body_only b c i).1)

abbrev pub SwitchPart : Bytes → Env → ℕ → ℕ → Signal → Signal → Type 0
SwitchPart st env i k x y = (p : Env × Signal) × CurrentOfSwitch st env i k x y p.0 p.1

pub switch_only : {st : Bytes} {env : Env} {i k : ℕ} {x y : Signal} → IsProp (SwitchPart st env i k x y)
switch_only {st} {env} {i} {k} {x} {y} p q = go p.1 q.1
  where
    go : {E E₁ : Env} {s s₁ : Signal} (c : CurrentOfSwitch st env i k x y E s) (d : CurrentOfSwitch st env i k x y E₁ s₁)
        → ◌≡◌ {A = SwitchPart st env i k x y} ((E, s), c) ((E₁, s₁), d)
    go (first e) (first f) = λ j. ((env, x), first (Bool-set _ true e f j))
    go (first e) (second f) = absurd (true_not_false e f)
    go (second e) (first f) = absurd (true_not_false f e)
    go (second e) (second f) = λ j. ((bind env i (held st k), y), second (Bool-set _ false e f j))

abbrev pub GroupPart : Bytes → Env → ℕ → Signal → Branches → Type 0
GroupPart st env k body brs = (p : Env × Signal) × CurrentOfGroup st env k body brs p.0 p.1

pub group_only : {st : Bytes} {env : Env} {k : ℕ} {body : Signal} {brs : Branches} → IsProp (GroupPart st env k body brs)
group_only {st} {env} {k} {body} {brs} p q = go p.1 q.1
  where
    go : {E E₁ : Env} {s s₁ : Signal} (c : CurrentOfGroup st env k body brs E s) (d : CurrentOfGroup st env k body brs E₁ s₁)
        → ◌≡◌ {A = GroupPart st env k body brs} ((E, s), c) ((E₁, s₁), d)
    go (in_body e) (in_body f) = λ j. ((env, body), in_body (Bool-set _ true e f j))
    go (in_body e) (in_branch f c) = absurd (true_not_false e f)
    go (in_branch e b) (in_body f) = absurd (true_not_false f e)
    go (in_branch e b) (in_branch f c) = λ j.
        ((bind env (branch_in st k) (held st k), (body_only b c j).0), in_branch (Bool-set _ false e f j) (body_only b c j).1)

-- a derivation of any value and size
abbrev pub SomeS : Bytes → Bytes → Env → Signal → Type 0
SomeS rec st env s = (r : Value × ℕ) × EvaluatesS rec st env s r.0 r.1

pub seen_path : {rec st : Bytes} {env : Env} {s : Signal} {p q : SomeS rec st env s} → p ≡ q → p.0.0 ≡ q.0.0
seen_path {rec} {st} {env} {s} h = ap (λ (r : SomeS rec st env s). r.0.0) h

-- each rule, from its premises
abbrev by_ext : {rec st : Bytes} {env : Env} {i : ℕ} {e : Expr} → SomeE env e → SomeS rec st env (ext i e)
by_ext p = ((p.0.0, 1 + p.0.1), ev_ext p.1)

abbrev by_signal : {rec st : Bytes} {env : Env} {i t : ℕ} {d b : Signal} (p : SomeS rec st env d) → SomeS rec st (bind env i p.0.0) b
    → SomeS rec st env (let_signal i t d b)
by_signal p q = ((q.0.0, 1 + (p.0.1 + q.0.1)), ev_signal p.1 q.1)

abbrev by_switch : {rec st : Bytes} {env : Env} {i k t : ℕ} {x e y : Signal} (p : SwitchPart st env i k x y) → SomeS rec st p.0.0 p.0.1
    → SomeS rec st env (switch i k t x e y)
by_switch p q = ((q.0.0, 1 + q.0.1), ev_switch p.1 q.1)

abbrev by_continue : {rec st : Bytes} {env : Env} {i k : ℕ} {body : Signal} {brs : Branches} (p : GroupPart st env k body brs)
    → SomeS rec st p.0.0 p.0.1 → SomeS rec st env (group i k body brs)
by_continue p q = ((q.0.0, 1 + q.0.1), ev_continue p.1 q.1)

abbrev by_until : {rec st : Bytes} {env : Env} {i : ℕ} {s : Signal} {cs : Cases} → SomeS rec st env s → SomeS rec st env (until i s cs)
by_until p = ((p.0.0, 1 + p.0.1), ev_until p.1)

-- two derivations are one
pub only_s : {rec st : Bytes} {env : Env} {s : Signal} {u v : Value} {m n : ℕ} (d : EvaluatesS rec st env s u m) (c : EvaluatesS rec st env s v n)
    → ◌≡◌ {A = SomeS rec st env s} ((u, m), d) ((v, n), c)
only_s ev_input ev_input = refl
only_s ev_time ev_time = refl
only_s (ev_ext d) (ev_ext d₁) = ap by_ext (only_e d d₁)
only_s ev_delay ev_delay = refl
only_s (ev_signal d b) (ev_signal d₁ b₁) = along by_signal (only_s d d₁) (_, b) (λ q. only_s b q.1) (_, b₁)
only_s (ev_switch c d) (ev_switch c₁ d₁) = along by_switch (switch_only (_, c) (_, c₁)) (_, d) (λ q. only_s d q.1) (_, d₁)
only_s (ev_continue c d) (ev_continue c₁ d₁) = along by_continue (group_only (_, c) (_, c₁)) (_, d) (λ q. only_s d q.1) (_, d₁)
only_s (ev_until d) (ev_until d₁) = ap by_until (only_s d d₁)

-- and so are two of one value and size
pub one_s : (rec st : Bytes) (env : Env) (s : Signal) (v : Value) (n : ℕ) → IsProp (EvaluatesS rec st env s v n)
one_s rec st env s v n = each_prop Result-set (λ p q. only_s p.1 q.1) (v, n)
