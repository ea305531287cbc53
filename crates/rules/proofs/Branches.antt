-- A branch found by its number in a group's list: it is a node of the table, and its body is what evaluation and update go on with. So code
-- that knows the number needs no walk over the list.
-- Assumes nothing.
use mathlib.Core.Path.{◌≡◌, refl, sym, ap, ◌∙◌, subst}
use mathlib.Core.Bool.{Bool, true, false}
use Prim.Native.Nat.{ℕ, zero, suc, ◌≤◌, ◌<◌}
use native.Mathlib.Omega.{arith}
use native.Mathlib.Nat.{not-suc-le-zero, le_refl}
use lib.Dec.{eqb}
use borrow.Author.Tests.{eq-eqb, ne_eqb, eqb-true, eqb-false}
use Rattle.rules.specs.Bytes.{Bytes, ◌or◌}
use Rattle.rules.specs.Layout.{a_at, b_at}
use Rattle.rules.specs.Kinds.{is_branch}
use Rattle.rules.specs.Tree.{Branches, no_branch, branch, signal_at, branches_at}
use Rattle.rules.specs.Work.{Halted}
use Rattle.rules.specs.Scope.{has_branch}
use Rattle.rules.specs.Evaluate.{Env, bind, eval_s, eval_b}
use Rattle.rules.specs.Update.{upd_s, upd_b}
use Rattle.rules.specs.Bound.{bound_s, bound_sb, bound_u, bound_ub}
use Rattle.rules.specs.Size.{size_s, size_b}
use Rattle.rules.specs.Shaped.{NodeOf}
use Rattle.rules.specs.declared.Value.{Value}
use Rattle.rules.specs.Evaluated.{Stuck}
use Rattle.rules.proofs.Static.{not_both}
use Rattle.rules.proofs.Kids.{or_none}
use Rattle.rules.proofs.Signals.{branch_next, branch_law, branch_end, branch_on}

-- The number is that of the list's first branch, of none where that is the last, or of one of the others.
module _ (p : Bytes) (n : ℕ) (w : NodeOf is_branch p n) (k : ℕ) where
  pub number_here : n ≡ k → has_branch k (branches_at p n) ≡ true
  unfolding has_branch ◌or◌
  number_here e = ap (has_branch k) (branch_law p n w refl) ∙ simp (eq-eqb n k e)

  pub number_last : (n ≡ k → ⊥) → b_at p n ≡ 65535 → has_branch k (branches_at p n) ≡ false
  unfolding has_branch ◌or◌
  number_last d e = ap (has_branch k) (branch_end p n w e) ∙ simp (ne_eqb n k d)

  pub number_next : (n ≡ k → ⊥) → (b_at p n ≡ 65535 → ⊥) → has_branch k (branches_at p n) ≡ has_branch k (branches_at p (b_at p n))
  unfolding has_branch ◌or◌
  number_next d e = ap (has_branch k) (branch_on p n w e) ∙ simp (ne_eqb n k d)

-- The branch k of the list at node n.
pub record Found (p : Bytes) (n k : ℕ) : Type 0 where
  pub node : NodeOf is_branch p k
  pub most : k ≤ n
  pub evaluates : (rec st : Bytes) (env : Env) (v : Value)
      → eval_b rec st env k v (branches_at p n) ≡ eval_s rec st (bind env k v) (signal_at p (a_at p k))
  pub updates : (rec st : Bytes) (env : Env) (v : Value)
      → upd_b rec env k v (branches_at p n) st ≡ upd_s rec (bind env k v) (signal_at p (a_at p k)) st
  pub evaluation : bound_s (signal_at p (a_at p k)) ≤ bound_sb (branches_at p n)
  pub update : bound_u (signal_at p (a_at p k)) ≤ bound_ub (branches_at p n)
  pub size : size_s (signal_at p (a_at p k)) ≤ size_b (branches_at p n)

module _ (p : Bytes) (n : ℕ) (w : NodeOf is_branch p n) where
  found_here : Found p n n
  unfolding eval_b upd_b bound_sb bound_ub size_b
  found_here =
      let e = branch_law p n w refl in
      record {
        node = w;
        most = le_refl n;
        evaluates = λ rec st env v. ap (eval_b rec st env n v) e ∙ simp (eq-eqb n n refl);
        updates = λ rec st env v. ap (λ (brs : Branches). upd_b rec env n v brs st) e ∙ simp (eq-eqb n n refl);
        evaluation = omega (arith, ap bound_sb e);
        update = omega (arith, ap bound_ub e);
        size = omega (arith, ap size_b e);
      }

  found_next : (k : ℕ) → (n ≡ k → ⊥) → (b_at p n ≡ 65535 → ⊥) → Found p (b_at p n) k → Found p n k
  unfolding eval_b upd_b bound_sb bound_ub size_b
  found_next k d m f =
      let e = branch_on p n w m in
      record {
        node = f.node;
        most = omega (arith, f.most, (branch_next p n w m).less);
        evaluates = λ rec st env v. ap (eval_b rec st env k v) e ∙ simp (ne_eqb n k d) (f.evaluates rec st env v);
        updates = λ rec st env v. ap (λ (brs : Branches). upd_b rec env k v brs st) e ∙ simp (ne_eqb n k d) (f.updates rec st env v);
        evaluation = omega (arith, ap bound_sb e, f.evaluation);
        update = omega (arith, ap bound_ub e, f.update);
        size = omega (arith, ap size_b e, f.size);
      }

found_in : (f : ℕ) (p : Bytes) (n k : ℕ) → n < f → NodeOf is_branch p n → has_branch k (branches_at p n) ≡ true → Found p n k
found_in zero p n k h w e = absurd (not-suc-le-zero h)
found_in (suc f) p n k h w e = go (eqb n k) (eqb (b_at p n) 65535) refl refl λ m. found_in f p (b_at p n) k (omega (arith, (branch_next p n w m).less)) (branch_next p n w m).node
  where
    go : (b d : Bool) → eqb n k ≡ b → eqb (b_at p n) 65535 ≡ d
        → ((b_at p n ≡ 65535 → ⊥) → has_branch k (branches_at p (b_at p n)) ≡ true → Found p (b_at p n) k) → Found p n k
    go true d q r more = subst (Found p n) (eqb-true n k q) (found_here p n w)
    go false true q r more = absurd (not_both (sym (number_last p n w k (eqb-false n k q) (eqb-true _ _ r)) ∙ e))
    go false false q r more =
        let d = eqb-false n k q in
        let m = eqb-false _ _ r in
        found_next p n w k d m (more m (sym (number_next p n w k d m) ∙ e))

-- A number that is in the list is that of a branch.
pub found : (p : Bytes) (n k : ℕ) → NodeOf is_branch p n → has_branch k (branches_at p n) ≡ true → Found p n k
found p n k w e = found_in (suc n) p n k (omega arith) w e

-- By any other number nothing is evaluated and nothing updated.
pub missing_evaluates : (rec st : Bytes) (env : Env) (k : ℕ) (v : Value) (brs : Branches) → has_branch k brs ≡ false → eval_b rec st env k v brs ≡ Stuck
unfolding eval_b has_branch
missing_evaluates rec st env k v no_branch e = refl
missing_evaluates rec st env k v (branch n t body next) e =
    let o = or_none _ _ e in
    simp o.0 (missing_evaluates rec st env k v next o.1)

pub missing_updates : (rec st : Bytes) (env : Env) (k : ℕ) (v : Value) (brs : Branches) → has_branch k brs ≡ false → upd_b rec env k v brs st ≡ Halted
unfolding upd_b has_branch
missing_updates rec st env k v no_branch e = refl
missing_updates rec st env k v (branch n t body next) e =
    let o = or_none _ _ e in
    simp o.0 (missing_updates rec st env k v next o.1)
