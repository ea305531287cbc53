-- An expression of each kind: its parts and its bound.
-- Assumes nothing.
use mathlib.Core.Path.{◌≡◌, ap}
use Prim.Native.Nat.{ℕ, ◌+◌, ◌≤◌, max}
use native.Mathlib.Omega.{arith}
use Rattle.rules.specs.Bytes.{Bytes}
use Rattle.rules.specs.Layout.{kind_at, a_at, b_at, c_at}
use Rattle.rules.specs.Kinds.{is_expression}
use Rattle.rules.specs.Tree.{expr_at}
use Rattle.rules.specs.Size.{size_e}
use Rattle.rules.specs.Bound.{bound_e}
use Rattle.rules.proofs.Nodes.{expr_variable, expr_constant}
use Rattle.rules.proofs.Expressions.{IsOperation, negation_kid, just_kid, choice_kids, taking_kids, operation_kids, negation_tree, just_tree, choice_tree, taking_tree, operation_tree}
use Rattle.bound.specs.SmallTree.{nodes_e, SmallTree}
use Rattle.bound.proofs.Parts.{Part, part}

module _ (p : Bytes) (n : ℕ) (w : SmallTree is_expression nodes_e p n) where
  -- What a part has, the whole has.
  within : {m : ℕ} → m ≤ size_e (expr_at p n) → m ≤ 1008
  within h = omega (arith, w.small)

  pub variable_bound : kind_at p n ≡ 16 → bound_e (expr_at p n) ≡ 1
  unfolding bound_e
  variable_bound e = ap bound_e (expr_variable p n e)

  pub constant_bound : kind_at p n ≡ 17 → bound_e (expr_at p n) ≡ 1
  unfolding bound_e
  constant_bound e = ap bound_e (expr_constant p n e)

  pub negation_part : kind_at p n ≡ 24 → Part is_expression nodes_e p n (a_at p n)
  unfolding size_e
  negation_part e = part (negation_kid p n w.node e) (within (omega (arith, ap size_e (negation_tree p n w.node e))))

  pub negation_bound : kind_at p n ≡ 24 → bound_e (expr_at p n) ≡ 1 + bound_e (expr_at p (a_at p n))
  unfolding bound_e
  negation_bound e = ap bound_e (negation_tree p n w.node e)

  pub just_part : kind_at p n ≡ 28 → Part is_expression nodes_e p n (a_at p n)
  unfolding size_e
  just_part e = part (just_kid p n w.node e) (within (omega (arith, ap size_e (just_tree p n w.node e))))

  pub just_bound : kind_at p n ≡ 28 → bound_e (expr_at p n) ≡ 1 + bound_e (expr_at p (a_at p n))
  unfolding bound_e
  just_bound e = ap bound_e (just_tree p n w.node e)

  pub choice_parts : kind_at p n ≡ 27 → Part is_expression nodes_e p n (a_at p n) × Part is_expression nodes_e p n (b_at p n) × Part is_expression nodes_e p n (c_at p n)
  unfolding size_e
  choice_parts e =
      let k = choice_kids p n w.node e in
      let s = ap size_e (choice_tree p n w.node e) in
      (part k.0 (within (omega arith)), part k.1 (within (omega arith)), part k.2 (within (omega arith)))

  pub choice_bound : kind_at p n ≡ 27 → bound_e (expr_at p n) ≡ 1 + (bound_e (expr_at p (a_at p n)) + max (bound_e (expr_at p (b_at p n))) (bound_e (expr_at p (c_at p n))))
  unfolding bound_e
  choice_bound e = ap bound_e (choice_tree p n w.node e)

  pub taking_parts : kind_at p n ≡ 29 → Part is_expression nodes_e p n (a_at p n) × Part is_expression nodes_e p n (b_at p n) × Part is_expression nodes_e p n (c_at p n)
  unfolding size_e
  taking_parts e =
      let k = taking_kids p n w.node e in
      let s = ap size_e (taking_tree p n w.node e) in
      (part k.0 (within (omega arith)), part k.1 (within (omega arith)), part k.2 (within (omega arith)))

  pub taking_bound : kind_at p n ≡ 29 → bound_e (expr_at p n) ≡ 1 + (bound_e (expr_at p (a_at p n)) + max (bound_e (expr_at p (b_at p n))) (bound_e (expr_at p (c_at p n))))
  unfolding bound_e
  taking_bound e = ap bound_e (taking_tree p n w.node e)

  pub operation_parts : IsOperation (kind_at p n) → Part is_expression nodes_e p n (a_at p n) × Part is_expression nodes_e p n (b_at p n)
  unfolding size_e
  operation_parts o =
      let k = operation_kids p n w.node o in
      let s = ap size_e (operation_tree p n w.node o) in
      (part k.0 (within (omega arith)), part k.1 (within (omega arith)))

  pub operation_bound : IsOperation (kind_at p n) → bound_e (expr_at p n) ≡ 1 + (bound_e (expr_at p (a_at p n)) + bound_e (expr_at p (b_at p n)))
  unfolding bound_e
  operation_bound o = ap bound_e (operation_tree p n w.node o)

  -- The bound of expression n over one part, over two, and over a test and two arms, from those that are answered for its parts.
  pub over_said : {a x r : ℕ} → bound_e (expr_at p n) ≡ 1 + bound_e (expr_at p (a_at p n)) → a ≡ a_at p n → x ≡ bound_e (expr_at p a) → r ≡ 1 + x → r ≡ bound_e (expr_at p n)
  over_said b ea sx s = cc (b, s, sx, ea)

  pub both_said : {a b x y r : ℕ} → bound_e (expr_at p n) ≡ 1 + (bound_e (expr_at p (a_at p n)) + bound_e (expr_at p (b_at p n))) → a ≡ a_at p n → b ≡ b_at p n
      → x ≡ bound_e (expr_at p a) → y ≡ bound_e (expr_at p b) → r ≡ 1 + (x + y)
      → r ≡ bound_e (expr_at p n)
  both_said e ea eb sx sy s = cc (e, s, sx, sy, ea, eb)

  pub arms_said : {a b c x y z r : ℕ} → bound_e (expr_at p n) ≡ 1 + (bound_e (expr_at p (a_at p n)) + max (bound_e (expr_at p (b_at p n))) (bound_e (expr_at p (c_at p n))))
      → a ≡ a_at p n → b ≡ b_at p n → c ≡ c_at p n → x ≡ bound_e (expr_at p a) → y ≡ bound_e (expr_at p b) → z ≡ bound_e (expr_at p c) → r ≡ 1 + (x + max y z)
      → r ≡ bound_e (expr_at p n)
  arms_said e ea eb ec sx sy sz s = cc (e, s, sx, sy, sz, ea, eb, ec)
