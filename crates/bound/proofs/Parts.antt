-- The parts of a tree of at most 1008 nodes have at most as many, and the bounds of such a tree are small.
-- Assumes nothing.
use mathlib.Core.Path.{◌≡◌, sym, subst}
use mathlib.Core.Bool.{Bool}
use Prim.Native.Nat.{ℕ, ◌*◌, ◌≤◌, ◌<◌}
use native.Mathlib.Omega.{arith}
use native.Mathlib.Nat.{mul-le-mul}
use Rattle.rules.specs.Bytes.{Bytes}
use Rattle.rules.specs.Kinds.{is_expression, is_signal, is_branch, is_case}
use Rattle.rules.specs.Tree.{expr_at, signal_at, branches_at, cases_at}
use Rattle.rules.specs.Bound.{bound_e, bound_s, bound_sb, bound_sc, bound_u, bound_ub, bound_uc}
use Rattle.rules.proofs.Bounds.{bound_e≤, bound_s≤, bound_sb≤, bound_sc≤, bound_u≤, bound_ub≤, bound_uc≤}
use Rattle.rules.proofs.Kids.{Child}
use Rattle.bound.specs.SmallTree.{nodes_e, nodes_s, nodes_b, nodes_c, eval_in, update_in, SmallTree, BoundsOf}

-- A child that is small.
pub record Part (sort : ℕ → Bool) (size : Bytes → ℕ → ℕ) (p : Bytes) (n x : ℕ) : Type 0 where
  pub less : x < n
  pub node : SmallTree sort size p x

-- A child whose tree has no more nodes than one that is small.
pub part : {sort : ℕ → Bool} {size : Bytes → ℕ → ℕ} {p : Bytes} {n x : ℕ} → Child sort p n x → size p x ≤ 1008 → Part sort size p n x
part k h = record { less = k.less; node = record { node = k.node; small = h } }

-- The same part, by the field that was read.
pub read : {sort : ℕ → Bool} {size : Bytes → ℕ → ℕ} {p : Bytes} {n x y : ℕ} → x ≡ y → Part sort size p n y → Part sort size p n x
read {sort} {size} {p} {n} e k = subst (Part sort size p n) (sym e) k

-- The bounds of a tree of a size: at most the size, and at most its square.
bounded : (b : ℕ) (eval update size : ℕ) → size ≤ 1008 → eval ≤ size → update ≤ size * size → eval_in b ≡ eval → update_in b ≡ update
    → BoundsOf eval update b
bounded b eval update size h e u p q =
    let s : size * size ≤ 1008 * 1008 = mul-le-mul h h in
    record { eval_is = p; update_is = q; most = record { eval_most = omega arith; update_most = omega arith } }

module _ (p : Bytes) (n : ℕ) where
  pub bounded_e : SmallTree is_expression nodes_e p n → {r : ℕ} → r ≡ bound_e (expr_at p n) → (r ≡ bound_e (expr_at p n)) × (r ≤ 1008)
  bounded_e w e = (e, omega (arith, bound_e≤ (expr_at p n), w.small))

  pub bounded_s : SmallTree is_signal nodes_s p n → {b : ℕ} → eval_in b ≡ bound_s (signal_at p n) → update_in b ≡ bound_u (signal_at p n)
      → BoundsOf (bound_s (signal_at p n)) (bound_u (signal_at p n)) b
  bounded_s w = bounded _ _ _ _ w.small (bound_s≤ (signal_at p n)) (bound_u≤ (signal_at p n))

  pub bounded_b : SmallTree is_branch nodes_b p n → {b : ℕ} → eval_in b ≡ bound_sb (branches_at p n) → update_in b ≡ bound_ub (branches_at p n)
      → BoundsOf (bound_sb (branches_at p n)) (bound_ub (branches_at p n)) b
  bounded_b w = bounded _ _ _ _ w.small (bound_sb≤ (branches_at p n)) (bound_ub≤ (branches_at p n))

  pub bounded_c : SmallTree is_case nodes_c p n → {b : ℕ} → eval_in b ≡ bound_sc (cases_at p n) → update_in b ≡ bound_uc (cases_at p n)
      → BoundsOf (bound_sc (cases_at p n)) (bound_uc (cases_at p n)) b
  bounded_c w = bounded _ _ _ _ w.small (bound_sc≤ (cases_at p n)) (bound_uc≤ (cases_at p n))
