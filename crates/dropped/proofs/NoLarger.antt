-- A tree with lets dropped has no more nodes, and no larger bound.
-- Assumes nothing.
use mathlib.Core.Path.{◌≡◌, refl}
use Prim.Native.Nat.{ℕ, ◌≤◌}
use native.Mathlib.Nat.{le_refl}
use native.Mathlib.Omega.{arith}
use Rattle.rules.specs.Bytes.{Bytes}
use Rattle.rules.specs.Layout.{nodes}
use Rattle.rules.specs.Tree.{Expr, Signal, Branches, Cases, root}
use Rattle.rules.specs.Size.{size_e, size_s, size_b, size_c}
use Rattle.rules.specs.Bound.{bound_e, bound_s, bound_sb, bound_sc, bound_u, bound_ub, bound_uc, bound}
use Rattle.rules.specs.Accepted.{Accepted}
use Rattle.rules.proofs.Once.{tree_size}
use Rattle.rules.proofs.Rooted.{some_node}
use Rattle.dropped.specs.Less.{LessE, variables, constants, operations, negations, choices, justs, takings, LessS, inputs, times, exts, delays, lets, dropped, switches, groups, untils, LessB, no_branches, branches, LessC, no_cases, cases}

-- Expressions have no lets.
size_e_same : {π : ℕ → ℕ} {e e' : Expr} → LessE π e e' → size_e e' ≡ size_e e
unfolding size_e
size_e_same (variables a b) = refl
size_e_same (constants a) = refl
size_e_same (operations a x y) = omega (arith, size_e_same x, size_e_same y)
size_e_same (negations a x) = omega (arith, size_e_same x)
size_e_same (choices a c x y) = omega (arith, size_e_same c, size_e_same x, size_e_same y)
size_e_same (justs a x) = omega (arith, size_e_same x)
size_e_same (takings a m x y) = omega (arith, size_e_same m, size_e_same x, size_e_same y)

bound_e_same : {π : ℕ → ℕ} {e e' : Expr} → LessE π e e' → bound_e e' ≡ bound_e e
unfolding bound_e
bound_e_same (variables a b) = refl
bound_e_same (constants a) = refl
bound_e_same (operations a x y) = omega (arith, bound_e_same x, bound_e_same y)
bound_e_same (negations a x) = omega (arith, bound_e_same x)
bound_e_same (choices a c x y) = omega (arith, bound_e_same c, bound_e_same x, bound_e_same y)
bound_e_same (justs a x) = omega (arith, bound_e_same x)
bound_e_same (takings a m x y) = omega (arith, bound_e_same m, bound_e_same x, bound_e_same y)

mutual
  unfolding size_s

  pub size_less : {π : ℕ → ℕ} {s s' : Signal} → LessS π s s' → size_s s' ≤ size_s s
  size_less (inputs a) = le_refl 1
  size_less (times a) = le_refl 1
  size_less (exts a e) = omega (arith, size_e_same e)
  size_less (delays a s) = omega (arith, size_less s)
  size_less (lets a d b) = omega (arith, size_less d, size_less b)
  size_less (dropped b) = omega (arith, size_less b)
  size_less (switches a x e y) = omega (arith, size_less x, size_less e, size_less y)
  size_less (groups a b bs) = omega (arith, size_less b, size_b_less bs)
  size_less (untils a s cs) = omega (arith, size_less s, size_c_less cs)

  size_b_less : {π : ℕ → ℕ} {s s' : Branches} → LessB π s s' → size_b s' ≤ size_b s
  size_b_less no_branches = le_refl 0
  size_b_less (branches a b bs) = omega (arith, size_less b, size_b_less bs)

  size_c_less : {π : ℕ → ℕ} {s s' : Cases} → LessC π s s' → size_c s' ≤ size_c s
  size_c_less no_cases = le_refl 0
  size_c_less (cases a t e cs) = omega (arith, size_less e, size_c_less cs)

mutual
  unfolding bound_s

  pub bound_s_less : {π : ℕ → ℕ} {s s' : Signal} → LessS π s s' → bound_s s' ≤ bound_s s
  bound_s_less (inputs a) = le_refl 1
  bound_s_less (times a) = le_refl 1
  bound_s_less (exts a e) = omega (arith, bound_e_same e)
  bound_s_less (delays a s) = le_refl 1
  bound_s_less (lets a d b) = omega (arith, bound_s_less d, bound_s_less b)
  bound_s_less (dropped b) = omega (arith, bound_s_less b)
  bound_s_less (switches a x e y) = omega (arith, bound_s_less x, bound_s_less y)
  bound_s_less (groups a b bs) = omega (arith, bound_s_less b, bound_sb_less bs)
  bound_s_less (untils a s cs) = omega (arith, bound_s_less s)

  bound_sb_less : {π : ℕ → ℕ} {s s' : Branches} → LessB π s s' → bound_sb s' ≤ bound_sb s
  bound_sb_less no_branches = le_refl 0
  bound_sb_less (branches a b bs) = omega (arith, bound_s_less b, bound_sb_less bs)

  bound_sc_less : {π : ℕ → ℕ} {s s' : Cases} → LessC π s s' → bound_sc s' ≤ bound_sc s
  bound_sc_less no_cases = le_refl 0
  bound_sc_less (cases a t e cs) = omega (arith, bound_s_less e, bound_sc_less cs)

mutual
  unfolding bound_u bound_s

  pub bound_u_less : {π : ℕ → ℕ} {s s' : Signal} → LessS π s s' → bound_u s' ≤ bound_u s
  bound_u_less (inputs a) = le_refl 1
  bound_u_less (times a) = le_refl 1
  bound_u_less (exts a e) = le_refl 1
  bound_u_less (delays a s) = omega (arith, bound_s_less s, bound_u_less s)
  bound_u_less (lets a d b) = omega (arith, bound_s_less d, bound_u_less d, bound_u_less b)
  bound_u_less (dropped b) = omega (arith, bound_u_less b)
  bound_u_less (switches a x e y) = omega (arith, bound_s_less e, bound_u_less x, bound_u_less e, bound_u_less y)
  bound_u_less (groups a b bs) = omega (arith, bound_u_less b, bound_ub_less bs)
  bound_u_less (untils a s cs) = omega (arith, bound_sc_less cs, bound_uc_less cs, bound_u_less s)

  bound_ub_less : {π : ℕ → ℕ} {s s' : Branches} → LessB π s s' → bound_ub s' ≤ bound_ub s
  bound_ub_less no_branches = le_refl 0
  bound_ub_less (branches a b bs) = omega (arith, bound_u_less b, bound_ub_less bs)

  bound_uc_less : {π : ℕ → ℕ} {s s' : Cases} → LessC π s s' → bound_uc s' ≤ bound_uc s
  bound_uc_less no_cases = le_refl 0
  bound_uc_less (cases a t e cs) = omega (arith, bound_u_less e, bound_uc_less cs)

-- N and the bound are no larger.
pub no_larger : {π : ℕ → ℕ} (p q : Bytes) → Accepted p → Accepted q → LessS π (root p) (root q) → (nodes q ≤ nodes p) × (bound q ≤ bound p)
unfolding bound
no_larger p q a b x =
    let sp = tree_size p a.formed.length_right a.shape_right (some_node p a.formed) in
    let sq = tree_size q b.formed.length_right b.shape_right (some_node q b.formed) in
    (omega (arith, size_less x), omega (arith, bound_s_less x, bound_u_less x))
