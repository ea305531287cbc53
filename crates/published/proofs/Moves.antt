-- Outcomes of updates, and what a derivation says of one.
-- Assumes nothing.
use mathlib.Core.Path.{◌≡◌, subst}
use Prim.Native.Nat.{ℕ, ◌+◌}
use Rattle.rules.specs.Bytes.{Bytes}
use Rattle.rules.specs.Work.{nothing, one_rule, ◌plus◌, Updated, Next, Jump, Halted, stays, leave, afterᵘ, ruleᵘ}
use Rattle.rules.specs.declared.Tally.{Tally}
use Rattle.rules.specs.declared.Value.{Value}
use Rattle.published.proofs.Outcomes.{no_more_after}

-- what goes on to a state, and what leaves for a branch
abbrev pub Going : Type 1
Going = Bytes → ℕ → Type 0

abbrev pub Leaping : Type 1
Leaping = ℕ → Value → Bytes → ℕ → Type 0

-- no jump
abbrev pub Never : Leaping
Never aim v st n = ⊥

-- an outcome that goes on, or leaves, has a derivation
pub data DerivedU (U : Going) (J : Leaping) : Updated → Type 0 where
  goes : {st : Bytes} {w : Tally} → U st w.work → DerivedU U J (Next st w)
  leaps : {aim : ℕ} {v : Value} {st : Bytes} {w : Tally} → J aim v st w.work → DerivedU U J (Jump aim v st w)
  halts : DerivedU U J Halted

pub mapped : {U W : Going} {J K : Leaping} {r : Updated} → ((st : Bytes) (n : ℕ) → U st n → W st n)
    → ((aim : ℕ) (v : Value) (st : Bytes) (n : ℕ) → J aim v st n → K aim v st n) → DerivedU U J r → DerivedU W K r
mapped f g (goes u) = goes (f _ _ u)
mapped f g (leaps j) = leaps (g _ _ _ _ j)
mapped f g halts = halts

pub stayed : {U : Going} {J : Leaping} {r : Updated} → DerivedU U J r → DerivedU U Never (stays r)
unfolding stays
stayed (goes u) = goes u
stayed (leaps j) = halts
stayed halts = halts

-- by one rule, with no premise, with one, and after what two others counted
pub rule_leave : {U : Going} {J : Leaping} (st : Bytes) → U st 1 → DerivedU U J (ruleᵘ (leave st))
unfolding ruleᵘ afterᵘ leave one_rule nothing ◌plus◌
rule_leave st u = goes u

pub leave_derived : {U : Going} {J : Leaping} (st : Bytes) → U st 0 → DerivedU U J (leave st)
unfolding leave nothing
leave_derived st u = goes u

pub rule_jump : {U : Going} {J : Leaping} (aim : ℕ) (v : Value) (st : Bytes) (w : Tally) → J aim v st (1 + w.work) → DerivedU U J (ruleᵘ (Jump aim v st w))
unfolding ruleᵘ afterᵘ one_rule ◌plus◌
rule_jump aim v st w j = leaps j

pub rule_after_leave : {U : Going} {J : Leaping} (x y : Tally) (st : Bytes) → U st (1 + (x.work + y.work))
    → DerivedU U J (ruleᵘ (afterᵘ x (afterᵘ y (leave st))))
unfolding ruleᵘ afterᵘ leave one_rule nothing ◌plus◌
rule_after_leave {U} x y st u = goes (subst (U st) (no_more_after x.work y.work) u)

pub after_once : {U W : Going} {J K : Leaping} (x : Tally) {r : Updated} → ((st : Bytes) (n : ℕ) → U st n → W st (x.work + n))
    → ((aim : ℕ) (v : Value) (st : Bytes) (n : ℕ) → J aim v st n → K aim v st (x.work + n)) → DerivedU U J r → DerivedU W K (afterᵘ x r)
unfolding afterᵘ ◌plus◌
after_once x f g (goes u) = goes (f _ _ u)
after_once x f g (leaps j) = leaps (g _ _ _ _ j)
after_once x f g halts = halts

pub never : {U : Going} {J : Leaping} → DerivedU U J (ruleᵘ Halted)
unfolding ruleᵘ afterᵘ
never = halts

pub halted : {U : Going} {J : Leaping} (x : Tally) → DerivedU U J (ruleᵘ (afterᵘ x Halted))
unfolding ruleᵘ afterᵘ
halted x = halts

pub halted_twice : {U : Going} {J : Leaping} (x y : Tally) → DerivedU U J (ruleᵘ (afterᵘ x (afterᵘ y Halted)))
unfolding ruleᵘ afterᵘ
halted_twice x y = halts

pub rule_thrice : {U W : Going} {J K : Leaping} (x y : Tally) {r : Updated} → ((st : Bytes) (n : ℕ) → U st n → W st (1 + (x.work + (y.work + n))))
    → ((aim : ℕ) (v : Value) (st : Bytes) (n : ℕ) → J aim v st n → K aim v st (1 + (x.work + (y.work + n))))
    → DerivedU U J r → DerivedU W K (ruleᵘ (afterᵘ x (afterᵘ y r)))
unfolding ruleᵘ afterᵘ one_rule ◌plus◌
rule_thrice x y f g (goes u) = goes (f _ _ u)
rule_thrice x y f g (leaps j) = leaps (g _ _ _ _ j)
rule_thrice x y f g halts = halts

-- the derivation of an outcome
from_goes : {U : Going} {J : Leaping} {st : Bytes} {w : Tally} → DerivedU U J (Next st w) → U st w.work
from_goes (goes u) = u

from_leaps : {U : Going} {J : Leaping} {aim : ℕ} {v : Value} {st : Bytes} {w : Tally} → DerivedU U J (Jump aim v st w) → J aim v st w.work
from_leaps (leaps j) = j

pub next_of : {U : Going} {J : Leaping} {r : Updated} {st : Bytes} {w : Tally} → DerivedU U J r → r ≡ Next st w → U st w.work
next_of {U} {J} d e = from_goes (subst (DerivedU U J) e d)

pub jump_of : {U : Going} {J : Leaping} {r : Updated} {aim : ℕ} {v : Value} {st : Bytes} {w : Tally} → DerivedU U J r → r ≡ Jump aim v st w
    → J aim v st w.work
jump_of {U} {J} d e = from_leaps (subst (DerivedU U J) e d)
