-- A step by the inference rules is the definition's step: it exists exactly where the definition makes one, it is the only one, its size is the
-- work, and the mark is that some operation in it left the range.
-- Assumes nothing.
use mathlib.Core.Path.{◌≡◌, refl, sym, ap, subst, ◌∙◌}
use mathlib.Core.Bool.{Bool, false}
use mathlib.Core.Logic.{◌≢◌, ◌↔◌}
use Prim.Native.Nat.{ℕ, ◌+◌}
use Rattle.rules.specs.Bytes.{Bytes, ◌or◌}
use Rattle.rules.specs.Layout.{time_in, set_time, most_nodes}
use Rattle.rules.specs.Work.{◌plus◌, Updated}
use Rattle.rules.specs.Tree.{root}
use Rattle.rules.specs.Evaluate.{unbound}
use Rattle.rules.specs.Update.{Stepped, Made, NotMade, updated, evaluated, step_of}
use Rattle.rules.specs.declared.Tally.{Tally}
use Rattle.rules.specs.declared.Value.{Value}
use Rattle.rules.specs.Evaluated.{Evaluated}
use Rattle.published.specs.Signals.{EvaluatesS}
use Rattle.published.specs.Updates.{sig}
use Rattle.published.specs.Steps.{Steps, step}
use Rattle.published.specs.Marks.{left_of}
use Rattle.published.proofs.Outcomes.{counted, done, next, Derived, derived, stuck}
use Rattle.published.proofs.Moves.{goes, leaps, halts}
use Rattle.published.proofs.SignalsSound.{sound_s}
use Rattle.published.proofs.SignalsComplete.{derive_s}
use Rattle.published.proofs.UpdatesSound.{sound_t}
use Rattle.published.proofs.UpdatesComplete.{DerivedT, derive_t}
use Rattle.published.proofs.SignalsOnly.{SomeS, only_s}
use Rattle.published.proofs.UpdatesOnly.{Going, going_path, only_t}

-- the outcome of a step with so much work and a mark
abbrev made : Value → Bytes → ℕ → Bool → Stepped
made v st n b = Made v st (counted n b)

step_made : (rec : Bytes) {r : Evaluated} {u : Updated} {v : Value} {st₁ : Bytes} {m n : ℕ} {i j : Bool} → r ≡ done v m i → u ≡ next st₁ n j
    → evaluated r (λ v w. updated v w rec u) ≡ made v (set_time st₁ (time_in rec)) (m + n) (i or j)
unfolding evaluated updated ◌plus◌
step_made rec e f = rw (e, f)

pub sound_step : {p rec st : Bytes} {v : Value} {st₁ : Bytes} {n : ℕ} (d : Steps p rec st v st₁ n) → step_of p rec st ≡ made v st₁ n (left_of d)
unfolding step_of left_of
sound_step {rec = rec} (step d u) = step_made rec (sound_s d) (sound_t u)

-- a step that is made has a derivation
data DerivedStep (p rec st : Bytes) : Stepped → Type 0 where
  derived_step : {v : Value} {st₁ : Bytes} {w : Tally} → Steps p rec st v st₁ w.work → DerivedStep p rec st (Made v st₁ w)
  no_step : DerivedStep p rec st NotMade

step_derived : (p rec st : Bytes) {r : Evaluated} {u : Updated} → Derived (EvaluatesS rec st (unbound most_nodes) (root p)) r
    → DerivedT rec (unbound most_nodes) st (sig (root p)) u → DerivedStep p rec st (evaluated r (λ v w. updated v w rec u))
unfolding evaluated updated ◌plus◌
step_derived p rec st (derived d) (goes u) = derived_step (step d u)
step_derived p rec st (derived d) (leaps j) = no_step
step_derived p rec st (derived d) halts = no_step
step_derived p rec st stuck u = no_step

derive_step : (p rec st : Bytes) → DerivedStep p rec st (step_of p rec st)
unfolding step_of
derive_step p rec st = step_derived p rec st (derive_s (root p) rec st (unbound most_nodes)) (derive_t (root p) rec (unbound most_nodes) st)

from_step : {p rec st : Bytes} {v : Value} {st₁ : Bytes} {w : Tally} → DerivedStep p rec st (Made v st₁ w) → Steps p rec st v st₁ w.work
from_step (derived_step d) = d

pub complete_step : {p rec st : Bytes} {v : Value} {st₁ : Bytes} {w : Tally} → step_of p rec st ≡ Made v st₁ w → Steps p rec st v st₁ w.work
complete_step {p} {rec} {st} e = from_step (subst (DerivedStep p rec st) e (derive_step p rec st))

-- the mark of a step that the definition makes is its derivation's
abbrev mark_in : Stepped → Bool
mark_in (Made v st w) = w.wrapped
mark_in NotMade = false

pub marked_step : {p rec st : Bytes} {v : Value} {st₁ : Bytes} {n : ℕ} {u : Value} {st₂ : Bytes} {w : Tally} (d : Steps p rec st v st₁ n)
    → step_of p rec st ≡ Made u st₂ w → left_of d ≡ w.wrapped
marked_step d h = ap mark_in (sym (sound_step d) ∙ h)

pub exactly_step : (p rec st : Bytes) (v : Value) (st₁ : Bytes) (n : ℕ) (b : Bool)
    → ((d : Steps p rec st v st₁ n) × (left_of d ≡ b)) ↔ (step_of p rec st ≡ made v st₁ n b)
exactly_step p rec st v st₁ n b = (
  λ q. sound_step q.0 ∙ ap (made v st₁ n) q.1,
  λ h. let d : Steps p rec st v st₁ n = complete_step h in (d, marked_step d h),
)

-- a step of any value, state and size
abbrev pub SomeStep : Bytes → Bytes → Bytes → Type 0
SomeStep p rec st = (r : Value × Bytes × ℕ) × Steps p rec st r.0 r.1 r.2

abbrev IsMade : Stepped → Type 0
IsMade (Made v st w) = Unit {0}
IsMade NotMade = ⊥

some_step : {p rec st : Bytes} {x : Stepped} → DerivedStep p rec st x → x ≢ NotMade → SomeStep p rec st
some_step (derived_step {v = v} {st₁ = st₁} {w = w} d) h = ((v, st₁, w.work), d)
some_step no_step h = absurd (h refl)

pub exists_step : (p rec st : Bytes) → SomeStep p rec st ↔ (step_of p rec st ≢ NotMade)
exists_step p rec st = (λ q h. subst IsMade (sym (sound_step q.1) ∙ h) tt, some_step (derive_step p rec st))

no_made : {p rec st : Bytes} {x : Stepped} → DerivedStep p rec st x → (SomeStep p rec st → ⊥) → x ≡ NotMade
no_made (derived_step {v = v} {st₁ = st₁} {w = w} d) h = absurd (h ((v, st₁, w.work), d))
no_made no_step h = refl

pub stuck_step : (p rec st : Bytes) → (step_of p rec st ≡ NotMade) ↔ (SomeStep p rec st → ⊥)
stuck_step p rec st = (λ h q. (exists_step p rec st).0 q h, no_made (derive_step p rec st))

abbrev by_step : {p rec st : Bytes} → SomeS rec st (unbound most_nodes) (root p) × Going rec (unbound most_nodes) st (sig (root p)) → SomeStep p rec st
by_step {rec = rec} q = ((q.0.0.0, set_time q.1.0.0 (time_in rec), q.0.0.1 + q.1.0.1), step q.0.1 q.1.1)

only_step : {p rec st : Bytes} {u v : Value} {st₁ st₂ : Bytes} {m n : ℕ} (d : Steps p rec st u st₁ m) (c : Steps p rec st v st₂ n)
    → ◌≡◌ {A = SomeStep p rec st} ((u, st₁, m), d) ((v, st₂, n), c)
only_step (step d u) (step d₁ u₁) = ap by_step (λ i. (only_s d d₁ i, going_path {p = (_, u)} {q = (_, u₁)} (only_t u u₁) i))

pub unique_step : (p rec st : Bytes) → IsProp (SomeStep p rec st)
unique_step p rec st q r = only_step q.1 r.1
