-- The number of nodes of a tree and how often a cell stands in it are weights of the tree.
-- Assumes nothing.
use mathlib.Core.Path.{◌≡◌, refl}
use Prim.Native.Nat.{ℕ}
use native.Mathlib.Omega.{arith}
use Rattle.rules.specs.Tree.{Expr, variable, constant, operation, negation, choice, just, taking, Signal, input, time, ext, delay, let_signal, switch, group, until, Branches, no_branch, branch, Cases, no_case, case}
use Rattle.rules.specs.Size.{size_e, size_s, size_b, size_c, is_cell, times_s, times_b, times_c}
use Rattle.rules.proofs.Weights.{weigh_e, weigh_s, weigh_b, weigh_c}

-- Each node weighs 1.
size_e_weight : (e : Expr) → size_e e ≡ weigh_e 1 e
unfolding size_e weigh_e
size_e_weight (variable n binder t) = refl
size_e_weight (constant n v) = refl
size_e_weight (operation n k x y) = omega (arith, size_e_weight x, size_e_weight y)
size_e_weight (negation n x) = omega (arith, size_e_weight x)
size_e_weight (choice n test x y) = omega (arith, size_e_weight test, size_e_weight x, size_e_weight y)
size_e_weight (just n x) = omega (arith, size_e_weight x)
size_e_weight (taking n t m x y) = omega (arith, size_e_weight m, size_e_weight x, size_e_weight y)

mutual
  unfolding size_s weigh_s

  pub size_weight : (s : Signal) → size_s s ≡ weigh_s s 1 (λ _. 1)
  size_weight (input n c) = refl
  size_weight (time n) = refl
  size_weight (ext n e) = omega (arith, size_e_weight e)
  size_weight (delay n k v s) = omega (arith, size_weight s)
  size_weight (let_signal n t d b) = omega (arith, size_weight d, size_weight b)
  size_weight (switch n k t x e y) = omega (arith, size_weight x, size_weight e, size_weight y)
  size_weight (group n k body brs) = omega (arith, size_weight body, size_b_weight brs)
  size_weight (until n s cs) = omega (arith, size_weight s, size_c_weight cs)

  size_b_weight : (b : Branches) → size_b b ≡ weigh_b b 1 (λ _. 1)
  size_b_weight no_branch = refl
  size_b_weight (branch n t body next) = omega (arith, size_weight body, size_b_weight next)

  size_c_weight : (c : Cases) → size_c c ≡ weigh_c c 1 (λ _. 1)
  size_c_weight no_case = refl
  size_c_weight (case n event target t next) = omega (arith, size_weight event, size_c_weight next)

-- Each cell of number k weighs 1, all else nothing.
no_weight : (e : Expr) → weigh_e 0 e ≡ 0
unfolding weigh_e
no_weight (variable n binder t) = refl
no_weight (constant n v) = refl
no_weight (operation n k x y) = omega (arith, no_weight x, no_weight y)
no_weight (negation n x) = omega (arith, no_weight x)
no_weight (choice n test x y) = omega (arith, no_weight test, no_weight x, no_weight y)
no_weight (just n x) = omega (arith, no_weight x)
no_weight (taking n t m x y) = omega (arith, no_weight m, no_weight x, no_weight y)

mutual
  unfolding times_s weigh_s

  pub times_weight : (s : Signal) (k : ℕ) → times_s k s ≡ weigh_s s 0 (is_cell k)
  times_weight (input n c) k = refl
  times_weight (time n) k = refl
  times_weight (ext n e) k = omega (arith, no_weight e)
  times_weight (delay n j v s) k = omega (arith, times_weight s k)
  times_weight (let_signal n t d b) k = omega (arith, times_weight d k, times_weight b k)
  times_weight (switch n j t x e y) k = omega (arith, times_weight x k, times_weight e k, times_weight y k)
  times_weight (group n j body brs) k = omega (arith, times_weight body k, times_b_weight brs k)
  times_weight (until n s cs) k = omega (arith, times_weight s k, times_c_weight cs k)

  times_b_weight : (b : Branches) (k : ℕ) → times_b k b ≡ weigh_b b 0 (is_cell k)
  times_b_weight no_branch k = refl
  times_b_weight (branch n t body next) k = omega (arith, times_weight body k, times_b_weight next k)

  times_c_weight : (c : Cases) (k : ℕ) → times_c k c ≡ weigh_c c 0 (is_cell k)
  times_c_weight no_case k = refl
  times_c_weight (case n event target t next) k = omega (arith, times_weight event k, times_c_weight next k)
