-- The inference rules are the definitions: a derivation exists exactly where the definition is not stuck, it is the only one, its size is the
-- work, and the mark is that some operation in it left the range.
-- Assumes nothing.
use mathlib.Core.Path.{◌≡◌, refl, sym, ap, subst, ◌∙◌}
use mathlib.Core.Bool.{Bool, false}
use mathlib.Core.Logic.{◌≢◌, ◌↔◌}
use Prim.Native.Nat.{ℕ}
use Rattle.rules.specs.Bytes.{Bytes}
use Rattle.rules.specs.Work.{Updated, Next, Jump, Halted}
use Rattle.rules.specs.Tree.{Expr, Signal}
use Rattle.rules.specs.Evaluate.{Env, eval_e, eval_s}
use Rattle.rules.specs.Update.{upd_s}
use Rattle.rules.specs.declared.Value.{Value}
use Rattle.rules.specs.Evaluated.{Evaluated, Done, Stuck}
use Rattle.published.specs.Expressions.{Evaluates}
use Rattle.published.specs.Signals.{EvaluatesS}
use Rattle.published.specs.Updates.{Part, sig, Result, becomes, leaves, Transition}
use Rattle.published.specs.Marks.{left_e, left_s, left_t}
use Rattle.published.proofs.Outcomes.{done, Derived, derived, stuck, done_not_stuck}
use Rattle.published.proofs.Moves.{DerivedU, goes, leaps, halts}
use Rattle.published.proofs.ExpressionsSound.{sound_e}
use Rattle.published.proofs.ExpressionsComplete.{derive_e, complete_e}
use Rattle.published.proofs.SignalsSound.{sound_s}
use Rattle.published.proofs.SignalsComplete.{derive_s, complete_s}
use Rattle.published.proofs.UpdatesSound.{outcome, sound_t}
use Rattle.published.proofs.UpdatesComplete.{derive_t, complete_t, complete_j}
use Rattle.published.proofs.ExpressionsOnly.{SomeE, only_e}
use Rattle.published.proofs.SignalsOnly.{SomeS, only_s}
use Rattle.published.proofs.UpdatesOnly.{SomeT, only_t}

-- the mark of an outcome
abbrev mark_of : Evaluated → Bool
mark_of (Done v w) = w.wrapped
mark_of Stuck = false

abbrev mark_ofᵘ : Updated → Bool
mark_ofᵘ (Next st w) = w.wrapped
mark_ofᵘ (Jump aim v st w) = w.wrapped
mark_ofᵘ Halted = false

-- a derivation of a value, a size and a mark is the definition's outcome
pub exactly_e : (env : Env) (e : Expr) (v : Value) (n : ℕ) (b : Bool) → ((d : Evaluates env e v n) × (left_e d ≡ b)) ↔ (eval_e env e ≡ done v n b)
exactly_e env e v n b = (
  λ p. sound_e p.0 ∙ ap (done v n) p.1,
  λ h. let d : Evaluates env e v n = complete_e h in (d, ap mark_of (sym (sound_e d) ∙ h)),
)

pub exactly_s : (rec st : Bytes) (env : Env) (s : Signal) (v : Value) (n : ℕ) (b : Bool)
    → ((d : EvaluatesS rec st env s v n) × (left_s d ≡ b)) ↔ (eval_s rec st env s ≡ done v n b)
exactly_s rec st env s v n b = (
  λ p. sound_s p.0 ∙ ap (done v n) p.1,
  λ h. let d : EvaluatesS rec st env s v n = complete_s h in (d, ap mark_of (sym (sound_s d) ∙ h)),
)

pub exactly_t : (rec : Bytes) (env : Env) (st : Bytes) (s : Signal) (r : Result) (n : ℕ) (b : Bool)
    → ((d : Transition rec env st (sig s) r n) × (left_t d ≡ b)) ↔ (upd_s rec env s st ≡ outcome r n b)
exactly_t rec env st s (becomes st₁) n b = (
  λ p. sound_t p.0 ∙ ap (outcome (becomes st₁) n) p.1,
  λ h. let d : Transition rec env st (sig s) (becomes st₁) n = complete_t h in (d, ap mark_ofᵘ (sym (sound_t d) ∙ h)),
)
exactly_t rec env st s (leaves aim v st₁) n b = (
  λ p. sound_t p.0 ∙ ap (outcome (leaves aim v st₁) n) p.1,
  λ h. let d : Transition rec env st (sig s) (leaves aim v st₁) n = complete_j h in (d, ap mark_ofᵘ (sym (sound_t d) ∙ h)),
)

-- a derivation exists exactly where the definition is not stuck, and none exactly where it is
some_derived : {D : Value → ℕ → Type 0} {r : Evaluated} → Derived D r → r ≢ Stuck → (p : Value × ℕ) × D p.0 p.1
some_derived (derived {v = v} {w = w} d) h = ((v, w.work), d)
some_derived stuck h = absurd (h refl)

pub exists_e : (env : Env) (e : Expr) → SomeE env e ↔ (eval_e env e ≢ Stuck)
exists_e env e = (λ p h. done_not_stuck (sound_e p.1) h, some_derived (derive_e e env))

pub exists_s : (rec st : Bytes) (env : Env) (s : Signal) → SomeS rec st env s ↔ (eval_s rec st env s ≢ Stuck)
exists_s rec st env s = (λ p h. done_not_stuck (sound_s p.1) h, some_derived (derive_s s rec st env))

no_derived : {D : Value → ℕ → Type 0} {r : Evaluated} → Derived D r → (((p : Value × ℕ) × D p.0 p.1) → ⊥) → r ≡ Stuck
no_derived (derived {v = v} {w = w} d) h = absurd (h ((v, w.work), d))
no_derived stuck h = refl

pub stuck_e : (env : Env) (e : Expr) → (eval_e env e ≡ Stuck) ↔ (SomeE env e → ⊥)
stuck_e env e = (λ h p. (exists_e env e).0 p h, no_derived (derive_e e env))

pub stuck_s : (rec st : Bytes) (env : Env) (s : Signal) → (eval_s rec st env s ≡ Stuck) ↔ (SomeS rec st env s → ⊥)
stuck_s rec st env s = (λ h p. (exists_s rec st env s).0 p h, no_derived (derive_s s rec st env))

abbrev IsHalted : Updated → Type 0
IsHalted (Next st w) = ⊥
IsHalted (Jump aim v st w) = ⊥
IsHalted Halted = Unit {0}

not_halted : (r : Result) (n : ℕ) (b : Bool) → Halted ≡ outcome r n b → ⊥
not_halted (becomes st) n b e = subst IsHalted e tt
not_halted (leaves aim v st) n b e = subst IsHalted e tt

some_moved : (D : Result → ℕ → Type 0) {u : Updated} → DerivedU (λ st n. D (becomes st) n) (λ aim v st n. D (leaves aim v st) n) u → u ≢ Halted
    → (p : Result × ℕ) × D p.0 p.1
some_moved D (goes {st = st} {w = w} d) h = ((becomes st, w.work), d)
some_moved D (leaps {aim = aim} {v = v} {st = st} {w = w} d) h = ((leaves aim v st, w.work), d)
some_moved D halts h = absurd (h refl)

pub exists_t : (rec : Bytes) (env : Env) (st : Bytes) (s : Signal) → SomeT rec env st (sig s) ↔ (upd_s rec env s st ≢ Halted)
exists_t rec env st s = (
  λ p h. not_halted p.0.0 p.0.1 _ (sym h ∙ sound_t p.1),
  some_moved (λ r n. Transition rec env st (sig s) r n) (derive_t s rec env st),
)

no_moved : (D : Result → ℕ → Type 0) {u : Updated} → DerivedU (λ st n. D (becomes st) n) (λ aim v st n. D (leaves aim v st) n) u
    → (((p : Result × ℕ) × D p.0 p.1) → ⊥) → u ≡ Halted
no_moved D (goes {st = st} {w = w} d) h = absurd (h ((becomes st, w.work), d))
no_moved D (leaps {aim = aim} {v = v} {st = st} {w = w} d) h = absurd (h ((leaves aim v st, w.work), d))
no_moved D halts h = refl

pub halted_t : (rec : Bytes) (env : Env) (st : Bytes) (s : Signal) → (upd_s rec env s st ≡ Halted) ↔ (SomeT rec env st (sig s) → ⊥)
halted_t rec env st s =
    (λ h p. (exists_t rec env st s).0 p h, no_moved (λ r n. Transition rec env st (sig s) r n) (derive_t s rec env st))

-- and it is the only one: of any value or result and of any size
pub unique_e : (env : Env) (e : Expr) → IsProp (SomeE env e)
unique_e env e p q = only_e p.1 q.1

pub unique_s : (rec st : Bytes) (env : Env) (s : Signal) → IsProp (SomeS rec st env s)
unique_s rec st env s p q = only_s p.1 q.1

pub unique_t : (rec : Bytes) (env : Env) (st : Bytes) (x : Part) → IsProp (SomeT rec env st x)
unique_t rec env st x p q = only_t p.1 q.1
