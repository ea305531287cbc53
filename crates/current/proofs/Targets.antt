-- The targets of an until's cases in scope: each is the number of a branch, so it is one of 10 bits and the until takes the same case with it.
-- Assumes nothing.
use Rattle.std.specs.Prelude.{None}
use mathlib.Core.Path.{◌≡◌, refl, ap, ◌∙◌}
use mathlib.Core.List.{[], ◌∷◌}
use mathlib.Core.Bool.{true, false}
use mathlib.Core.Logic.{◌⊎◌, inl, inr}
use Prim.Native.Nat.{ℕ, zero, suc, ◌<◌, ◌≤◌}
use native.Mathlib.Omega.{arith}
use lib.Dec.{eqb}
use borrow.Author.Tests.{eqb-true, lt-ltb}
use Rattle.rules.specs.Bytes.{Bytes}
use Rattle.rules.specs.Tree.{Branches, no_branch, branch, Cases, no_case, case}
use Rattle.rules.specs.Scope.{Marks, Offers, onward, has_branch, is_offered, scope_s, scope_c}
use Rattle.rules.specs.Evaluate.{Env, eval_s}
use Rattle.rules.specs.Update.{occurs, first_present}
use Rattle.rules.proofs.Static.{both, holds, not_both}
use Rattle.promises.specs.Sits.{SitsB}
use Rattle.promises.proofs.ValidLaws.{or_cases}
use Rattle.current.specs.Current.{shortly, soonest}

-- Every branch that is offered has a number of 10 bits, and not the last of them.
abbrev pub Short : Offers → Type 0
Short Δ = (target : ℕ) → is_offered target Δ ≡ true → target < 1023

-- Nothing is offered.
pub short_none : Short []
unfolding is_offered
short_none target o = absurd (not_both o)

-- So is what a group hands on.
pub short_onward : (ed : ℕ) (Δ : Offers) → Short Δ → Short (onward ed Δ)
unfolding onward
short_onward zero Δ short = short_none
short_onward (suc ed) Δ short = short

module _ (count cells : ℕ) (τ : ℕ → ℕ) where
  -- A branch that sits in its table has a number below the count of the nodes.
  branch_below : (brs : Branches) → SitsB count cells τ brs → (target : ℕ) → has_branch target brs ≡ true → target < count
  unfolding has_branch
  branch_below no_branch sits target o = absurd (not_both o)
  branch_below (branch n t body more) sits target o = go (or_cases _ _ o) (branch_below more sits.3 target)
    where
      go : (eqb n target ≡ true) ⊎ (has_branch target more ≡ true) → (has_branch target more ≡ true → target < count) → target < count
      go (inl e) later = omega (arith, eqb-true n target e, sits.1.binds.below)
      go (inr e) later = later e

  -- The branches of one group more are offered.
  pub short_group : count ≤ 1023 → (brs : Branches) → SitsB count cells τ brs → (Δ : Offers) → Short Δ → Short (brs ∷ Δ)
  unfolding is_offered
  short_group few brs sits Δ short target o = go (or_cases _ _ o)
    where
      go : (has_branch target brs ≡ true) ⊎ (is_offered target Δ ≡ true) → target < 1023
      go (inl e) = omega (arith, few, branch_below brs sits target e)
      go (inr e) = short target e

-- A target below 1,023 is not changed,
shortly_same : (target : ℕ) → target < 1023 → shortly target ≡ target
unfolding shortly
shortly_same target less = rw (lt-ltb target 1023 less) refl

-- so the first present event of an until is the same one.
pub soonest_same : (ed : ℕ) (rec st : Bytes) (env : Env) (Γ : Marks) (Δ : Offers) (cs : Cases) → Short Δ → scope_c ed Γ Δ cs ≡ None
    → soonest rec st env cs ≡ first_present rec st env cs
unfolding soonest first_present scope_s
soonest_same ed rec st env Γ Δ no_case short sc = refl
soonest_same ed rec st env Γ Δ (case n event target t more) short sc =
    let s = both _ _ sc in
    let same = soonest_same ed rec st env Γ Δ more short (both _ _ s.1).1 in
    ap (λ k. occurs (eval_s rec st env event) k (soonest rec st env more)) (shortly_same target (short target (holds _ n s.0)))
    ∙ ap (occurs (eval_s rec st env event) target) same
