-- The nodes of a tree, children first in field order.
-- Assumes nothing: these are definitions.
use Rattle.std.specs.Prelude.{ℕ, ◌≡◌, ◌⊎◌, List, [], ◌∷◌, ◌++◌}
use Rattle.rules.specs.Tree.{Expr, variable, constant, operation, negation, choice, just, taking, Signal, input, time, ext, delay, let_signal, switch, group, until, Branches, no_branch, branch, Cases, no_case, case}

unfoldable pub order_e : Expr → List ℕ
order_e (variable n binder t) = n ∷ []
order_e (constant n v) = n ∷ []
order_e (operation n k x y) = order_e x ++ order_e y ++ n ∷ []
order_e (negation n x) = order_e x ++ n ∷ []
order_e (choice n test x y) = order_e test ++ order_e x ++ order_e y ++ n ∷ []
order_e (just n x) = order_e x ++ n ∷ []
order_e (taking n t m x y) = order_e m ++ order_e x ++ order_e y ++ n ∷ []

unfoldable mutual
  pub order_s : Signal → List ℕ
  order_s (input n c) = n ∷ []
  order_s (time n) = n ∷ []
  order_s (ext n e) = order_e e ++ n ∷ []
  order_s (delay n k v s) = order_s s ++ n ∷ []
  order_s (let_signal n t d b) = order_s d ++ order_s b ++ n ∷ []
  order_s (switch n k t x e y) = order_s x ++ order_s e ++ order_s y ++ n ∷ []
  order_s (group n k body brs) = order_s body ++ order_b brs ++ n ∷ []
  order_s (until n s cs) = order_s s ++ order_c cs ++ n ∷ []

  pub order_b : Branches → List ℕ
  order_b no_branch = []
  order_b (branch n t body next) = order_s body ++ order_b next ++ n ∷ []

  pub order_c : Cases → List ℕ
  order_c no_case = []
  order_c (case n event target t next) = order_s event ++ order_c next ++ n ∷ []

-- A number is in a list.
abbrev pub In : ℕ → List ℕ → Type 0
In x [] = ⊥
In x (y ∷ ys) = (y ≡ x) ⊎ In x ys
