-- A branch that a group further up offers stands in no group below it, since no number stands twice in an accepted program's tree. So a jump that
-- passes an inner group of the old tree passes the paired one of the new tree.
-- Assumes nothing.
use mathlib.Core.Path.{◌≡◌, refl, sym}
use mathlib.Core.Logic.{◌⊎◌, inl, inr}
use mathlib.Core.List.{[], ◌∷◌}
use mathlib.Core.Bool.{Bool, true, false}
use Prim.Native.Nat.{ℕ, zero, suc, ◌+◌, ◌≤◌}
use native.Mathlib.Omega.{arith}
use lib.Dec.{eqb}
use borrow.Author.Tests.{eq-eqb, eqb-true}
use Rattle.rules.specs.Bytes.{◌or◌}
use Rattle.rules.specs.Tree.{Signal, Branches, no_branch, branch}
use Rattle.rules.specs.Scope.{Offers, has_branch, is_offered, onward}
use Rattle.rules.proofs.Static.{not_both}
use Rattle.promises.proofs.ValidLaws.{or_cases}
use Rattle.written.proofs.Counted.{sum_s, sum_b, is}
use Rattle.dropped.specs.Less.{LessB}
use Rattle.dropped.proofs.SameEval.{has_paired}

-- How often numbers stand in a part: none twice, and none that is paired with a branch on offer.
pub record Lone (π : ℕ → ℕ) (Δ : Offers) (times : ℕ → ℕ) : Type 0 where
  pub once : (x : ℕ) → times x ≤ 1
  pub others : (x : ℕ) → is_offered x Δ ≡ true → times (π x) ≡ 0

-- A part of it, under the same groups, or under none.
pub lone_part : {π : ℕ → ℕ} {Δ : Offers} {c d : ℕ → ℕ} → ((x : ℕ) → d x ≤ c x) → Lone π Δ c → Lone π Δ d
lone_part {π} less h = record { once = λ x. omega (arith, less x, h.once x); others = λ x i. omega (arith, less (π x), h.others x i) }

pub lone_apart : {π : ℕ → ℕ} {Δ : Offers} {c d : ℕ → ℕ} → ((x : ℕ) → d x ≤ c x) → Lone π Δ c → Lone π [] d
unfolding is_offered
lone_apart less h = record { once = λ x. omega (arith, less x, h.once x); others = λ x i. absurd (not_both i) }

-- The numbers in the bodies of a list of branches.
unfoldable pub sum_bodies : Branches → (ℕ → ℕ) → ℕ
sum_bodies no_branch own = 0
sum_bodies (branch n t body next) own = sum_s body own + sum_bodies next own

bodies_within : (brs : Branches) (own : ℕ → ℕ) → sum_bodies brs own ≤ sum_b brs own
unfolding sum_bodies sum_b
bodies_within no_branch own = omega arith
bodies_within (branch n t body next) own = omega (arith, bodies_within next own)

is_itself : (n x : ℕ) → n ≡ x → is x n ≡ 1
unfolding is
is_itself n x e = simp (eq-eqb x n (sym e))

-- A branch of the list counts besides.
has_counts : (brs : Branches) (x : ℕ) → has_branch x brs ≡ true → suc (sum_bodies brs (is x)) ≤ sum_b brs (is x)
unfolding has_branch sum_bodies sum_b
has_counts no_branch x h = absurd (not_both h)
has_counts (branch n t body next) x h = go (or_cases _ _ h) (has_counts next x)
  where
    go : (eqb n x ≡ true) ⊎ (has_branch x next ≡ true) → (has_branch x next ≡ true → suc (sum_bodies next (is x)) ≤ sum_b next (is x))
        → suc (sum_s body (is x) + sum_bodies next (is x)) ≤ is x n + sum_s body (is x) + sum_b next (is x)
    go (inl e) k = omega (arith, is_itself n x (eqb-true n x e), bodies_within next (is x))
    go (inr e) k = omega (arith, k e)

-- What a group hands on was on offer.
pub handed_on : (ed : ℕ) (Δ : Offers) (x : ℕ) → is_offered x (onward ed Δ) ≡ true → is_offered x Δ ≡ true
unfolding onward is_offered
handed_on zero Δ x h = absurd (not_both h)
handed_on (suc ed) Δ x h = h

-- A group: in its parts its own branches are on offer too, and stand in none of their bodies.
module _ {π : ℕ → ℕ} (ed n : ℕ) {Δ : Offers} (body : Signal) {brs brs' : Branches} (bs : LessB π brs brs')
    (h : Lone π Δ (λ x. is x n + sum_s body (is x) + sum_b brs (is x))) where
  own_or_handed : (x : ℕ) → is_offered x (brs' ∷ onward ed Δ) ≡ true → (has_branch (π x) brs ≡ true) ⊎ (is_offered x Δ ≡ true)
  unfolding is_offered
  own_or_handed x o = go (or_cases _ _ o)
    where
      go : (has_branch x brs' ≡ true) ⊎ (is_offered x (onward ed Δ) ≡ true) → (has_branch (π x) brs ≡ true) ⊎ (is_offered x Δ ≡ true)
      go (inl e) = inl (has_paired bs x e)
      go (inr e) = inr (handed_on ed Δ x e)

  pub lone_body : Lone π (brs' ∷ onward ed Δ) (λ x. sum_s body (is x))
  lone_body = record { once = λ x. omega (arith, h.once x); others = λ x o. go x (own_or_handed x o) }
    where
      go : (x : ℕ) → (has_branch (π x) brs ≡ true) ⊎ (is_offered x Δ ≡ true) → sum_s body (is (π x)) ≡ 0
      go x (inl e) = omega (arith, has_counts brs (π x) e, h.once (π x))
      go x (inr e) = omega (arith, h.others x e)

  pub lone_branches : Lone π (brs' ∷ onward ed Δ) (λ x. sum_bodies brs (is x))
  lone_branches = record { once = λ x. omega (arith, h.once x, bodies_within brs (is x)); others = λ x o. go x (own_or_handed x o) }
    where
      go : (x : ℕ) → (has_branch (π x) brs ≡ true) ⊎ (is_offered x Δ ≡ true) → sum_bodies brs (is (π x)) ≡ 0
      go x (inl e) = omega (arith, has_counts brs (π x) e, h.once (π x))
      go x (inr e) = omega (arith, h.others x e, bodies_within brs (is (π x)))

  -- What it hands on is none of its own.
  pub not_its_own : (x : ℕ) → is_offered x (onward ed Δ) ≡ true → has_branch (π x) brs ≡ false
  not_its_own x o = go (has_branch (π x) brs) refl
    where
      go : (b : Bool) → has_branch (π x) brs ≡ b → b ≡ false
      go true e = absurd (omega (arith, has_counts brs (π x) e, h.others x (handed_on ed Δ x o)))
      go false e = refl
