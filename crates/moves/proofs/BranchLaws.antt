-- The branch that a group's cell names, found by its number: its body is what goes on, and a jump out of it may be caught.
-- Assumes nothing.
use mathlib.Core.Path.{◌≡◌, refl, sym, ap, ◌∙◌, subst}
use mathlib.Core.Bool.{Bool, true, false}
use Prim.Native.Nat.{ℕ, zero, suc, ◌<◌}
use native.Mathlib.Omega.{arith}
use native.Mathlib.Nat.{not-suc-le-zero}
use lib.Dec.{eqb}
use borrow.Author.Tests.{eq-eqb, ne_eqb, eqb-true, eqb-false}
use Rattle.rules.specs.Bytes.{Bytes, ◌or◌}
use Rattle.rules.specs.Layout.{a_at, b_at}
use Rattle.rules.specs.Kinds.{is_branch}
use Rattle.rules.specs.Shaped.{NodeOf}
use Rattle.rules.specs.Tree.{Branches, no_branch, branch, signal_at, branches_at}
use Rattle.rules.specs.Scope.{has_branch}
use Rattle.rules.specs.Work.{Halted}
use Rattle.rules.specs.Evaluate.{Env, bind}
use Rattle.rules.specs.declared.Value.{Value}
use Rattle.rules.proofs.Static.{not_both}
use Rattle.rules.proofs.Kids.{or_none}
use Rattle.rules.proofs.Signals.{branch_next, branch_law, branch_on}
use Rattle.rules.proofs.Branches.{number_last, number_next}
use Rattle.current.specs.Current.{leaves}
use Rattle.recalled.specs.Recall.{Memory, Recalled, leaving, on_outcome, recall_s, recall_b}

-- The branch k of the list at node n.
module _ (rec : Bytes) (env : Env) (cell : ℕ) (v : Value) (all : Branches) (st : Bytes) (m : Memory) (p : Bytes) where
  taken : ℕ → Recalled
  taken k = on_outcome (leaves cell (signal_at p (a_at p k)) all) (recall_s rec (bind env k v) (signal_at p (a_at p k)) st m)

  taken_here : (n : ℕ) → NodeOf is_branch p n → recall_b rec env cell n v all (branches_at p n) st m ≡ taken n
  unfolding recall_b taken
  taken_here n w = ap (λ (brs : Branches). recall_b rec env cell n v all brs st m) (branch_law p n w refl) ∙ simp (eq-eqb n n refl)

  taken_next : (n k : ℕ) → NodeOf is_branch p n → (n ≡ k → ⊥) → (b_at p n ≡ 65535 → ⊥) → recall_b rec env cell k v all (branches_at p (b_at p n)) st m ≡ taken k
      → recall_b rec env cell k v all (branches_at p n) st m ≡ taken k
  unfolding recall_b
  taken_next n k w d o h = ap (λ (brs : Branches). recall_b rec env cell k v all brs st m) (branch_on p n w o) ∙ simp (ne_eqb n k d) h

  taken_in : (f n k : ℕ) → n < f → NodeOf is_branch p n → has_branch k (branches_at p n) ≡ true → recall_b rec env cell k v all (branches_at p n) st m ≡ taken k
  taken_in zero n k h w e = absurd (not-suc-le-zero h)
  taken_in (suc f) n k h w e =
      go (eqb n k) (eqb (b_at p n) 65535) refl refl λ o. taken_in f (b_at p n) k (omega (arith, (branch_next p n w o).less)) (branch_next p n w o).node
    where
      go : (b d : Bool) → eqb n k ≡ b → eqb (b_at p n) 65535 ≡ d
          → ((b_at p n ≡ 65535 → ⊥) → has_branch k (branches_at p (b_at p n)) ≡ true → recall_b rec env cell k v all (branches_at p (b_at p n)) st m ≡ taken k)
          → recall_b rec env cell k v all (branches_at p n) st m ≡ taken k
      go true d q r more =
          subst (λ (x : ℕ). recall_b rec env cell x v all (branches_at p n) st m ≡ taken x) (eqb-true n k q) (taken_here n w)
      go false true q r more = absurd (not_both (sym (number_last p n w k (eqb-false n k q) (eqb-true _ _ r)) ∙ e))
      go false false q r more =
          let d = eqb-false n k q in
          let o = eqb-false _ _ r in
          taken_next n k w d o (more o (sym (number_next p n w k d o) ∙ e))

  pub branch_goes : (n k : ℕ) → NodeOf is_branch p n → has_branch k (branches_at p n) ≡ true
      → recall_b rec env cell k v all (branches_at p n) st m ≡ on_outcome (leaves cell (signal_at p (a_at p k)) all) (recall_s rec (bind env k v) (signal_at p (a_at p k)) st m)
  unfolding taken
  branch_goes n k w e = taken_in (suc n) n k (omega arith) w e

-- By any other number nothing goes on.
pub missing_goes : (rec : Bytes) (env : Env) (cell k : ℕ) (v : Value) (all brs : Branches) (st : Bytes) (m : Memory) → has_branch k brs ≡ false
    → recall_b rec env cell k v all brs st m ≡ leaving Halted m
unfolding recall_b has_branch
missing_goes rec env cell k v all no_branch st m e = refl
missing_goes rec env cell k v all (branch n t body next) st m e =
    let o = or_none _ _ e in
    simp o.0 (missing_goes rec env cell k v all next st m o.1)
