-- The list of what changed is rising, and lists exactly the cells whose content is another.
-- Assumes nothing.
use Rattle.std.specs.Prelude.{if◌then◌else◌}
use mathlib.Core.Path.{◌≡◌, refl, sym, ap, subst, ◌∙◌}
use mathlib.Core.Bool.{Bool, true, false}
use mathlib.Core.List.{List, [], ◌∷◌, ◌++◌}
use mathlib.Core.Logic.{◌⊎◌, inl, inr}
use Prim.Native.Nat.{ℕ, zero, suc, ◌+◌, ◌≤◌, ◌<◌}
use native.Mathlib.Omega.{arith}
use lib.Dec.{eqb}
use lib.ListN.{length, length-append}
use borrow.Author.Tests.{eqb-true, eqb-false, eq-eqb}
use Rattle.rules.specs.Bytes.{Bytes}
use Rattle.rules.specs.Layout.{no_next, cells, cell, last_time}
use Rattle.rules.proofs.ByKind.{choose}
use Rattle.mends.specs.Changes.{changed_from, changed_time, changed_below, changes}
use Rattle.mends.specs.Mends.{Among, Rising}

-- A list that rises from a larger number rises from a smaller one.
rising_from : (i k : ℕ) (ks : List ℕ) → i ≤ k → Rising k ks → Rising i ks
rising_from i k [] h r = tt
rising_from i k (j ∷ js) h r = (omega (arith, h, r.0), r.1)

module _ (st st₁ : Bytes) where
  pub record CellsListed (p : Bytes) (ks : List ℕ) : Type 0 where
    pub rising : Rising 0 ks
    pub changed : (k : ℕ) → Among k ks → (k < cells p) × (cell st₁ k ≡ cell st k → ⊥)
    pub all : (k : ℕ) → k < cells p → (cell st₁ k ≡ cell st k → ⊥) → Among k ks

  rises : (left k : ℕ) → Rising k (changed_from st st₁ k left)
  unfolding changed_from
  rises zero k = tt
  rises (suc left) k = go (eqb (cell st₁ k) (cell st k)) (rises left (suc k))
    where
      go : (b : Bool) → Rising (suc k) (changed_from st st₁ (suc k) left)
          → Rising k (if b then changed_from st st₁ (suc k) left else k ∷ changed_from st st₁ (suc k) left)
      go true r = rising_from k (suc k) (changed_from st st₁ (suc k) left) (omega arith) r
      go false r = (omega arith, r)

  listed_changed : (left k j : ℕ) → Among j (changed_from st st₁ k left) → (k ≤ j) × (j < k + left) × (cell st₁ j ≡ cell st j → ⊥)
  unfolding changed_from
  listed_changed zero k j a = absurd a
  listed_changed (suc left) k j a = go (eqb (cell st₁ k) (cell st k)) refl a (listed_changed left (suc k) j)
    where
      later : (suc k ≤ j) × (j < suc k + left) × (cell st₁ j ≡ cell st j → ⊥) → (k ≤ j) × (j < k + suc left) × (cell st₁ j ≡ cell st j → ⊥)
      later r = (omega (arith, r.0), omega (arith, r.1), r.2)

      go : (b : Bool) → eqb (cell st₁ k) (cell st k) ≡ b
          → Among j (if b then changed_from st st₁ (suc k) left else k ∷ changed_from st st₁ (suc k) left)
          → (Among j (changed_from st st₁ (suc k) left) → (suc k ≤ j) × (j < suc k + left) × (cell st₁ j ≡ cell st j → ⊥))
          → (k ≤ j) × (j < k + suc left) × (cell st₁ j ≡ cell st j → ⊥)
      go true e a more = later (more a)
      go false e (inl q) more =
          (omega (arith, q), omega (arith, q), λ z. eqb-false _ _ e (subst (λ (i : ℕ). cell st₁ i ≡ cell st i) q z))
      go false e (inr a) more = later (more a)

  changed_listed : (left k j : ℕ) → k ≤ j → j < k + left → (cell st₁ j ≡ cell st j → ⊥) → Among j (changed_from st st₁ k left)
  unfolding changed_from
  changed_listed zero k j l h d = absurd (omega arith)
  changed_listed (suc left) k j l h d =
      go (eqb (cell st₁ k) (cell st k)) refl (λ n. changed_listed left (suc k) j (omega (arith, n)) (omega arith) d)
    where
      go : (b : Bool) → eqb (cell st₁ k) (cell st k) ≡ b → ((j ≡ k → ⊥) → Among j (changed_from st st₁ (suc k) left))
          → Among j (if b then changed_from st st₁ (suc k) left else k ∷ changed_from st st₁ (suc k) left)
      go true e more = more (λ q. d (subst (λ (i : ℕ). cell st₁ i ≡ cell st i) (sym q) (eqb-true _ _ e)))
      go false e more = choose j k (λ q. inl q) (λ n. inr (more n))

  pub few : (left k : ℕ) → length (changed_from st st₁ k left) ≤ left
  unfolding changed_from
  few zero k = omega arith
  few (suc left) k = go (eqb (cell st₁ k) (cell st k)) (few left (suc k))
    where
      go : (b : Bool) → length (changed_from st st₁ (suc k) left) ≤ left
          → length (if b then changed_from st st₁ (suc k) left else k ∷ changed_from st st₁ (suc k) left) ≤ suc left
      go true h = omega arith
      go false h = omega arith

  pub one_time : length (changed_time st st₁) ≤ 1
  unfolding changed_time
  one_time = go (eqb (last_time st₁) (last_time st))
    where
      go : (b : Bool) → length {A = ℕ} (if b then [] else no_next ∷ []) ≤ 1
      go true = omega arith
      go false = omega arith

  -- All of a program's cells.
  pub lists_changes : (p : Bytes) → CellsListed p (changed_from st st₁ 0 (cells p))
  lists_changes p = record {
    rising = rises (cells p) 0;
    changed = λ k a. let h = listed_changed (cells p) 0 k a in (omega (arith, h.1), h.2);
    all = λ k l d. changed_listed (cells p) 0 k (omega arith) (omega arith) d;
  }

  pub room_enough : (p : Bytes) → length (changes p st st₁) ≤ suc (cells p)
  unfolding changes changed_below
  room_enough p = omega (arith, length-append (changed_time st st₁) (changed_from st st₁ 0 (cells p)), one_time, few (cells p) 0)

-- Nothing changed: nothing is listed.
none_from : (st : Bytes) (left k : ℕ) → changed_from st st k left ≡ []
unfolding changed_from
none_from st zero k = refl
none_from st (suc left) k = rw (eq-eqb (cell st k) (cell st k) refl) (none_from st left (suc k))

pub nothing_changed : (p st : Bytes) → changes p st st ≡ []
unfolding changes changed_below changed_time
nothing_changed p st = rw (eq-eqb (last_time st) (last_time st) refl) (none_from st (cells p) 0)
