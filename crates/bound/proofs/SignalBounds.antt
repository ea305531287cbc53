-- A signal of each kind, a list of branches and a list of cases: parts, and both bounds.
-- Assumes nothing.
use mathlib.Core.Path.{◌≡◌, refl, ap}
use Prim.Native.Nat.{ℕ, ◌+◌, ◌≤◌, max}
use native.Mathlib.Omega.{arith}
use Rattle.rules.specs.Bytes.{Bytes}
use Rattle.rules.specs.Layout.{kind_at, a_at, b_at, c_at}
use Rattle.rules.specs.Kinds.{is_expression, is_signal, is_branch, is_case}
use Rattle.rules.specs.Tree.{expr_at, signal_at, branches_at, cases_at}
use Rattle.rules.specs.Size.{size_s, size_b, size_c}
use Rattle.rules.specs.Bound.{bound_e, bound_s, bound_sb, bound_sc, bound_u, bound_ub, bound_uc}
use Rattle.rules.proofs.Nodes.{signal_input, signal_time}
use Rattle.rules.proofs.Signals.{ext_kid, delay_kid, let_kids, switch_kids, group_kids, until_kids, branch_kid, branch_next, case_kid, case_next, ext_tree, delay_tree, let_tree, switch_tree, group_tree, until_tree, branch_law, branch_end, branch_on, case_law, case_end, case_on}
use Rattle.bound.specs.SmallTree.{nodes_e, nodes_s, nodes_b, nodes_c, SmallTree}
use Rattle.bound.proofs.Parts.{Part, part}

-- Both bounds of the signal, of the branches and of the cases at a node.
abbrev Signal : Bytes → ℕ → ℕ → ℕ → Type 0
Signal p e u m = (e ≡ bound_s (signal_at p m)) × (u ≡ bound_u (signal_at p m))

abbrev Branches : Bytes → ℕ → ℕ → ℕ → Type 0
Branches p e u m = (e ≡ bound_sb (branches_at p m)) × (u ≡ bound_ub (branches_at p m))

abbrev Cases : Bytes → ℕ → ℕ → ℕ → Type 0
Cases p e u m = (e ≡ bound_sc (cases_at p m)) × (u ≡ bound_uc (cases_at p m))

module _ (p : Bytes) (n : ℕ) (w : SmallTree is_signal nodes_s p n) where
  -- What a part has, the whole has.
  within : {m : ℕ} → m ≤ size_s (signal_at p n) → m ≤ 1008
  within h = omega (arith, w.small)

  pub input_bound : kind_at p n ≡ 1
      → (bound_s (signal_at p n) ≡ 1)
      × (bound_u (signal_at p n) ≡ 1)
  unfolding bound_s bound_u
  input_bound e = let x = signal_input p n e in (ap bound_s x, ap bound_u x)

  pub time_bound : kind_at p n ≡ 2
      → (bound_s (signal_at p n) ≡ 1)
      × (bound_u (signal_at p n) ≡ 1)
  unfolding bound_s bound_u
  time_bound e = let x = signal_time p n e in (ap bound_s x, ap bound_u x)

  pub ext_part : kind_at p n ≡ 3 → Part is_expression nodes_e p n (a_at p n)
  unfolding size_s
  ext_part e = part (ext_kid p n w.node e) (within (omega (arith, ap size_s (ext_tree p n w.node e))))

  ext_bound : kind_at p n ≡ 3
      → (bound_s (signal_at p n) ≡ 1 + bound_e (expr_at p (a_at p n)))
      × (bound_u (signal_at p n) ≡ 1)
  unfolding bound_s bound_u
  ext_bound e = let x = ext_tree p n w.node e in (ap bound_s x, ap bound_u x)

  pub delay_part : kind_at p n ≡ 4 → Part is_signal nodes_s p n (a_at p n)
  unfolding size_s
  delay_part e = part (delay_kid p n w.node e) (within (omega (arith, ap size_s (delay_tree p n w.node e))))

  delay_bound : kind_at p n ≡ 4
      → (bound_s (signal_at p n) ≡ 1)
      × (bound_u (signal_at p n) ≡ 1 + (bound_s (signal_at p (a_at p n)) + bound_u (signal_at p (a_at p n))))
  unfolding bound_s bound_u
  delay_bound e = let x = delay_tree p n w.node e in (ap bound_s x, ap bound_u x)

  pub let_parts : kind_at p n ≡ 5 → Part is_signal nodes_s p n (a_at p n) × Part is_signal nodes_s p n (b_at p n)
  unfolding size_s
  let_parts e =
      let k = let_kids p n w.node e in
      let s = ap size_s (let_tree p n w.node e) in
      (part k.0 (within (omega arith)), part k.1 (within (omega arith)))

  let_bound : kind_at p n ≡ 5
      → (bound_s (signal_at p n) ≡ 1 + (bound_s (signal_at p (a_at p n)) + bound_s (signal_at p (b_at p n))))
      × (bound_u (signal_at p n) ≡ 1 + (bound_s (signal_at p (a_at p n)) + (bound_u (signal_at p (a_at p n)) + bound_u (signal_at p (b_at p n)))))
  unfolding bound_s bound_u
  let_bound e = let x = let_tree p n w.node e in (ap bound_s x, ap bound_u x)

  pub switch_parts : kind_at p n ≡ 6 → Part is_signal nodes_s p n (a_at p n) × Part is_signal nodes_s p n (b_at p n) × Part is_signal nodes_s p n (c_at p n)
  unfolding size_s
  switch_parts e =
      let k = switch_kids p n w.node e in
      let s = ap size_s (switch_tree p n w.node e) in
      (part k.0 (within (omega arith)), part k.1 (within (omega arith)), part k.2 (within (omega arith)))

  switch_bound : kind_at p n ≡ 6
      → (bound_s (signal_at p n) ≡ 1 + max (bound_s (signal_at p (a_at p n))) (bound_s (signal_at p (c_at p n))))
      × (bound_u (signal_at p n) ≡ 1 + (bound_s (signal_at p (b_at p n)) + (bound_u (signal_at p (b_at p n)) + max (bound_u (signal_at p (a_at p n))) (bound_u (signal_at p (c_at p n))))))
  unfolding bound_s bound_u
  switch_bound e = let x = switch_tree p n w.node e in (ap bound_s x, ap bound_u x)

  pub group_parts : kind_at p n ≡ 7 → Part is_signal nodes_s p n (a_at p n) × Part is_branch nodes_b p n (b_at p n)
  unfolding size_s
  group_parts e =
      let k = group_kids p n w.node e in
      let s = ap size_s (group_tree p n w.node e) in
      (part k.0 (within (omega arith)), part k.1 (within (omega arith)))

  group_bound : kind_at p n ≡ 7
      → (bound_s (signal_at p n) ≡ 1 + max (bound_s (signal_at p (a_at p n))) (bound_sb (branches_at p (b_at p n))))
      × (bound_u (signal_at p n) ≡ 1 + max (bound_u (signal_at p (a_at p n))) (bound_ub (branches_at p (b_at p n))))
  unfolding bound_s bound_u
  group_bound e = let x = group_tree p n w.node e in (ap bound_s x, ap bound_u x)

  pub until_parts : kind_at p n ≡ 8 → Part is_signal nodes_s p n (a_at p n) × Part is_case nodes_c p n (b_at p n)
  unfolding size_s
  until_parts e =
      let k = until_kids p n w.node e in
      let s = ap size_s (until_tree p n w.node e) in
      (part k.0 (within (omega arith)), part k.1 (within (omega arith)))

  until_bound : kind_at p n ≡ 8
      → (bound_s (signal_at p n) ≡ 1 + bound_s (signal_at p (a_at p n)))
      × (bound_u (signal_at p n) ≡ 1 + (bound_sc (cases_at p (b_at p n)) + (bound_uc (cases_at p (b_at p n)) + bound_u (signal_at p (a_at p n)))))
  unfolding bound_s bound_u
  until_bound e = let x = until_tree p n w.node e in (ap bound_s x, ap bound_u x)

  -- The bounds of signal n of each kind, from those that are answered for its parts.
  pub alone_said : {e u : ℕ} → (bound_s (signal_at p n) ≡ 1) × (bound_u (signal_at p n) ≡ 1) → (e ≡ 1) × (u ≡ 1) → Signal p e u n
  alone_said b s = (cc (b.0, s.0), cc (b.1, s.1))

  pub ext_said : {a x e u : ℕ} → kind_at p n ≡ 3 → a ≡ a_at p n → x ≡ bound_e (expr_at p a) → (e ≡ 1 + x) × (u ≡ 1) → Signal p e u n
  ext_said k ea sx s = let b = ext_bound k in (cc (b.0, s.0, sx, ea), cc (b.1, s.1))

  pub delay_said : {a ex ux e u : ℕ} → kind_at p n ≡ 4 → a ≡ a_at p n → Signal p ex ux a → (e ≡ 1) × (u ≡ 1 + (ex + ux)) → Signal p e u n
  delay_said k ea sx s = let b = delay_bound k in (cc (b.0, s.0), cc (b.1, s.1, sx.0, sx.1, ea))

  pub let_said : {a b ex ux ey uy e u : ℕ} → kind_at p n ≡ 5 → a ≡ a_at p n → b ≡ b_at p n → Signal p ex ux a → Signal p ey uy b
      → (e ≡ 1 + (ex + ey)) × (u ≡ 1 + (ex + (ux + uy)))
      → Signal p e u n
  let_said k ea eb sx sy s = let b = let_bound k in (cc (b.0, s.0, sx.0, sy.0, ea, eb), cc (b.1, s.1, sx.0, sx.1, sy.1, ea, eb))

  pub switch_said : {a b c ex ux ey uy ez uz e u : ℕ} → kind_at p n ≡ 6 → a ≡ a_at p n → b ≡ b_at p n → c ≡ c_at p n → Signal p ex ux a → Signal p ey uy b → Signal p ez uz c
      → (e ≡ 1 + max ex ez) × (u ≡ 1 + (ey + (uy + max ux uz)))
      → Signal p e u n
  switch_said k ea eb ec sx sy sz s = let b = switch_bound k in (cc (b.0, s.0, sx.0, sz.0, ea, ec), cc (b.1, s.1, sx.1, sy.0, sy.1, sz.1, ea, eb, ec))

  pub group_said : {a b ex ux ey uy e u : ℕ} → kind_at p n ≡ 7 → a ≡ a_at p n → b ≡ b_at p n → Signal p ex ux a → Branches p ey uy b
      → (e ≡ 1 + max ex ey) × (u ≡ 1 + max ux uy)
      → Signal p e u n
  group_said k ea eb sx sy s = let b = group_bound k in (cc (b.0, s.0, sx.0, sy.0, ea, eb), cc (b.1, s.1, sx.1, sy.1, ea, eb))

  pub until_said : {a b ex ux ey uy e u : ℕ} → kind_at p n ≡ 8 → a ≡ a_at p n → b ≡ b_at p n → Signal p ex ux a → Cases p ey uy b
      → (e ≡ 1 + ex) × (u ≡ 1 + (ey + (uy + ux)))
      → Signal p e u n
  until_said k ea eb sx sy s = let b = until_bound k in (cc (b.0, s.0, sx.0, ea), cc (b.1, s.1, sx.1, sy.0, sy.1, ea, eb))

module _ (p : Bytes) (n : ℕ) (w : SmallTree is_branch nodes_b p n) where
  pub branch_part : Part is_signal nodes_s p n (a_at p n)
  unfolding size_b
  branch_part = part (branch_kid p n w.node) (omega (arith, w.small, by_size))
    where
      by_size : size_s (signal_at p (a_at p n)) ≤ size_b (branches_at p n)
      by_size = omega (arith, ap size_b (branch_law p n w.node refl))

  pub branch_more : (b_at p n ≡ 65535 → ⊥) → Part is_branch nodes_b p n (b_at p n)
  unfolding size_b
  branch_more d = part (branch_next p n w.node d) (omega (arith, w.small, ap size_b (branch_on p n w.node d)))

  branch_last_bound : b_at p n ≡ 65535
      → (bound_sb (branches_at p n) ≡ max (bound_s (signal_at p (a_at p n))) 0)
      × (bound_ub (branches_at p n) ≡ max (bound_u (signal_at p (a_at p n))) 0)
  unfolding bound_s bound_u
  branch_last_bound e = let x = branch_end p n w.node e in (ap bound_sb x, ap bound_ub x)

  branch_more_bound : (b_at p n ≡ 65535 → ⊥)
      → (bound_sb (branches_at p n) ≡ max (bound_s (signal_at p (a_at p n))) (bound_sb (branches_at p (b_at p n))))
      × (bound_ub (branches_at p n) ≡ max (bound_u (signal_at p (a_at p n))) (bound_ub (branches_at p (b_at p n))))
  unfolding bound_s bound_u
  branch_more_bound d = let x = branch_on p n w.node d in (ap bound_sb x, ap bound_ub x)

  -- The bounds of a list, from those of its first body and of the list behind it.
  pub branch_last_said : {a ex ux ey uy e u : ℕ} → b_at p n ≡ 65535 → a ≡ a_at p n → Signal p ex ux a → (ey ≡ 0) × (uy ≡ 0)
      → (e ≡ max ex ey) × (u ≡ max ux uy)
      → Branches p e u n
  branch_last_said z ea sx sy s = let b = branch_last_bound z in (cc (b.0, s.0, sx.0, sy.0, ea), cc (b.1, s.1, sx.1, sy.1, ea))

  pub branch_more_said : {a b ex ux ey uy e u : ℕ} → (b_at p n ≡ 65535 → ⊥) → a ≡ a_at p n → b ≡ b_at p n → Signal p ex ux a → Branches p ey uy b
      → (e ≡ max ex ey) × (u ≡ max ux uy)
      → Branches p e u n
  branch_more_said z ea eb sx sy s = let b = branch_more_bound z in (cc (b.0, s.0, sx.0, sy.0, ea, eb), cc (b.1, s.1, sx.1, sy.1, ea, eb))

module _ (p : Bytes) (n : ℕ) (w : SmallTree is_case nodes_c p n) where
  pub case_part : Part is_signal nodes_s p n (a_at p n)
  unfolding size_c
  case_part = part (case_kid p n w.node) (omega (arith, w.small, by_size))
    where
      by_size : size_s (signal_at p (a_at p n)) ≤ size_c (cases_at p n)
      by_size = omega (arith, ap size_c (case_law p n w.node refl))

  pub case_more : (b_at p n ≡ 65535 → ⊥) → Part is_case nodes_c p n (b_at p n)
  unfolding size_c
  case_more d = part (case_next p n w.node d) (omega (arith, w.small, ap size_c (case_on p n w.node d)))

  case_last_bound : b_at p n ≡ 65535
      → (bound_sc (cases_at p n) ≡ bound_s (signal_at p (a_at p n)) + 0)
      × (bound_uc (cases_at p n) ≡ bound_u (signal_at p (a_at p n)) + 0)
  unfolding bound_s bound_u
  case_last_bound e = let x = case_end p n w.node e in (ap bound_sc x, ap bound_uc x)

  case_more_bound : (b_at p n ≡ 65535 → ⊥)
      → (bound_sc (cases_at p n) ≡ bound_s (signal_at p (a_at p n)) + bound_sc (cases_at p (b_at p n)))
      × (bound_uc (cases_at p n) ≡ bound_u (signal_at p (a_at p n)) + bound_uc (cases_at p (b_at p n)))
  unfolding bound_s bound_u
  case_more_bound d = let x = case_on p n w.node d in (ap bound_sc x, ap bound_uc x)

  -- The bounds of a list, from those of its first event and of the list behind it.
  pub case_last_said : {a ex ux ey uy e u : ℕ} → b_at p n ≡ 65535 → a ≡ a_at p n → Signal p ex ux a → (ey ≡ 0) × (uy ≡ 0)
      → (e ≡ ex + ey) × (u ≡ ux + uy)
      → Cases p e u n
  case_last_said z ea sx sy s = let b = case_last_bound z in (cc (b.0, s.0, sx.0, sy.0, ea), cc (b.1, s.1, sx.1, sy.1, ea))

  pub case_more_said : {a b ex ux ey uy e u : ℕ} → (b_at p n ≡ 65535 → ⊥) → a ≡ a_at p n → b ≡ b_at p n → Signal p ex ux a → Cases p ey uy b
      → (e ≡ ex + ey) × (u ≡ ux + uy)
      → Cases p e u n
  case_more_said z ea eb sx sy s = let b = case_more_bound z in (cc (b.0, s.0, sx.0, sy.0, ea, eb), cc (b.1, s.1, sx.1, sy.1, ea, eb))
