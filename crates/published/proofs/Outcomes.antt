-- Outcomes with their work, and what a derivation says of an evaluation's.
-- Assumes nothing.
use mathlib.Core.Path.{◌≡◌, refl, sym, ap₂, subst, ◌∙◌}
use mathlib.Core.Bool.{Bool, true, false}
use Prim.Native.Nat.{ℕ, ◌+◌}
use native.Mathlib.Omega.{arith}
use Rattle.rules.specs.Bytes.{Bytes, ◌or◌}
use Rattle.rules.specs.Work.{nothing, noted, one_rule, ◌plus◌, give, after, rule, Updated, Next, Jump}
use Rattle.rules.specs.declared.Tally.{Tally}
use Rattle.rules.specs.declared.Value.{Value}
use Rattle.rules.specs.Evaluated.{Evaluated, Done, Stuck}

-- so much counted, with a mark or not
abbrev pub counted : ℕ → Bool → Tally
counted n b = record { work = n; wrapped = b }

-- the outcome with a value, so much work and a mark
abbrev pub done : Value → ℕ → Bool → Evaluated
done v n b = Done v (counted n b)

pub sized : (v : Value) {m n : ℕ} {b c : Bool} → m ≡ n → b ≡ c → done v m b ≡ done v n c
sized v e f = ap₂ (done v) e f

-- an update's outcomes with so much work and a mark
abbrev pub next : Bytes → ℕ → Bool → Updated
next st n b = Next st (counted n b)

abbrev pub jump : ℕ → Value → Bytes → ℕ → Bool → Updated
jump aim v st n b = Jump aim v st (counted n b)

pub next_sized : (st : Bytes) {m n : ℕ} {b c : Bool} → m ≡ n → b ≡ c → next st m b ≡ next st n c
next_sized st e f = ap₂ (next st) e f

-- nothing more is marked
pub or_no : (b : Bool) → b or false ≡ b
unfolding ◌or◌
or_no true = refl
or_no false = refl

no_more : (n : ℕ) → 1 + n ≡ 1 + (n + 0)
no_more n = omega arith

pub no_more_after : (m n : ℕ) → 1 + (m + n) ≡ 1 + (m + (n + 0))
no_more_after m n = omega arith

-- an outcome that is a value has a derivation
pub data Derived (D : Value → ℕ → Type 0) : Evaluated → Type 0 where
  derived : {v : Value} {w : Tally} → D v w.work → Derived D (Done v w)
  stuck : Derived D Stuck

pub mapped : {C D : Value → ℕ → Type 0} {r : Evaluated} → ((v : Value) (n : ℕ) → C v n → D v n) → Derived C r → Derived D r
mapped f (derived c) = derived (f _ _ c)
mapped f stuck = stuck

-- by one rule: with no premise; with one; after what its other premises counted; and after that with no premise left
pub rule_give : {D : Value → ℕ → Type 0} (v : Value) → D v 1 → Derived D (rule (give v))
unfolding rule after give one_rule nothing ◌plus◌
rule_give v d = derived d

pub rule_one : {C D : Value → ℕ → Type 0} {r : Evaluated} → ((v : Value) (n : ℕ) → C v n → D v (1 + n)) → Derived C r → Derived D (rule r)
unfolding rule after one_rule ◌plus◌
rule_one f (derived c) = derived (f _ _ c)
rule_one f stuck = stuck

pub rule_after : {C D : Value → ℕ → Type 0} (w : Tally) {r : Evaluated} → ((v : Value) (n : ℕ) → C v n → D v (1 + (w.work + n)))
    → Derived C r → Derived D (rule (after w r))
unfolding rule after one_rule ◌plus◌
rule_after w f (derived c) = derived (f _ _ c)
rule_after w f stuck = stuck

pub rule_after_give : {D : Value → ℕ → Type 0} (w : Tally) (v : Value) → D v (1 + w.work) → Derived D (rule (after w (give v)))
unfolding rule after give one_rule nothing ◌plus◌
rule_after_give {D} w v d = derived (subst (D v) (no_more w.work) d)

-- the same of a value that is marked or not
pub rule_after_noted : {D : Value → ℕ → Type 0} (w : Tally) (v : Value) (b : Bool) → D v (1 + w.work) → Derived D (rule (after w (Done v (noted b))))
unfolding rule after noted one_rule ◌plus◌
rule_after_noted {D} w v b d = derived (subst (D v) (no_more w.work) d)

pub rule_stuck : {D : Value → ℕ → Type 0} → Derived D (rule Stuck)
unfolding rule after
rule_stuck = stuck

pub after_stuck : {D : Value → ℕ → Type 0} (w : Tally) → Derived D (rule (after w Stuck))
unfolding rule after
after_stuck w = stuck

abbrev IsDone : Evaluated → Type 0
IsDone (Done v w) = Unit {0}
IsDone Stuck = ⊥

pub done_not_stuck : {r : Evaluated} {v : Value} {w : Tally} → r ≡ Done v w → r ≡ Stuck → ⊥
done_not_stuck e f = subst IsDone (sym e ∙ f) tt

-- the derivation of an outcome
from_derived : {D : Value → ℕ → Type 0} {v : Value} {w : Tally} → Derived D (Done v w) → D v w.work
from_derived (derived d) = d

pub derivation : {D : Value → ℕ → Type 0} {r : Evaluated} {v : Value} {w : Tally} → Derived D r → r ≡ Done v w → D v w.work
derivation {D} d e = from_derived (subst (Derived D) e d)
