-- A signal of each kind, a branch and a case in a shaped program: children, and the tree over theirs.
-- Assumes nothing.
use mathlib.Core.Path.{◌≡◌, ◌∙◌}
use Prim.Native.Nat.{ℕ, suc, ◌≤◌, ◌<◌}
use native.Mathlib.Omega.{arith}
use borrow.Author.Tests.{leb-true, eqb-true}
use Rattle.rules.specs.Bytes.{Bytes}
use Rattle.rules.specs.Layout.{kind_at, type_at, a_at, b_at, c_at, cells_before}
use Rattle.rules.specs.Kinds.{row, is_expression, is_signal, is_branch, is_case, fields_of}
use Rattle.rules.specs.Shaped.{NodeOf}
use Rattle.rules.specs.Tree.{Branches, Cases, ext, delay, let_signal, switch, group, until, branch, case, no_branch, no_case, no_signal, below, branches_as, cases_as, expr_at, signal_at, branches_at, cases_at, value_at}
use Rattle.rules.proofs.Static.{and_both}
use Rattle.rules.proofs.Laws.{branches_law, cases_law}
use Rattle.rules.proofs.Nodes.{below_lt, below_ge, signal_ext, signal_delay, signal_let, signal_switch, signal_group, signal_until}
use Rattle.rules.proofs.Kids.{Child, kids}

pub less : {m : ℕ} (k : ℕ) → m ≤ suc k → (m ≡ suc k → ⊥) → m ≤ k
less k h d = omega (arith, d)

two : (m : ℕ) → 1 ≤ m → (m ≡ 1 → ⊥) → m ≤ 2 → m ≡ 2
two m l d u = omega (arith, d)

module _ (p : Bytes) (n : ℕ) (w : NodeOf is_signal p n) where
  pub ext_kid : kind_at p n ≡ 3 → Child is_expression p n (a_at p n)
  unfolding fields_of row
  ext_kid e = (kids p n w.shaped w.inside 3 e).0

  pub ext_tree : kind_at p n ≡ 3
      → signal_at p n ≡ ext n (expr_at p (a_at p n))
  ext_tree e = signal_ext p n e (ext_kid e).less

  pub delay_kid : kind_at p n ≡ 4 → Child is_signal p n (a_at p n)
  unfolding fields_of row
  delay_kid e = (kids p n w.shaped w.inside 4 e).0

  pub delay_tree : kind_at p n ≡ 4
      → signal_at p n ≡ delay n (cells_before p n) (value_at p n) (signal_at p (a_at p n))
  delay_tree e = signal_delay p n e (delay_kid e).less

  pub let_kids : kind_at p n ≡ 5 → Child is_signal p n (a_at p n) × Child is_signal p n (b_at p n)
  unfolding fields_of row
  let_kids e = let k = kids p n w.shaped w.inside 5 e in (k.0, k.1)

  pub let_tree : kind_at p n ≡ 5
      → signal_at p n ≡ let_signal n (type_at p n) (signal_at p (a_at p n)) (signal_at p (b_at p n))
  let_tree e = let k = let_kids e in signal_let p n e k.0.less k.1.less

  pub switch_kids : kind_at p n ≡ 6 → Child is_signal p n (a_at p n) × Child is_signal p n (b_at p n) × Child is_signal p n (c_at p n)
  unfolding fields_of row
  switch_kids e = kids p n w.shaped w.inside 6 e

  pub switch_tree : kind_at p n ≡ 6
      → signal_at p n ≡ switch n (cells_before p n) (type_at p n) (signal_at p (a_at p n)) (signal_at p (b_at p n)) (signal_at p (c_at p n))
  switch_tree e = let k = switch_kids e in signal_switch p n e k.0.less k.1.less k.2.less

  pub group_kids : kind_at p n ≡ 7 → Child is_signal p n (a_at p n) × Child is_branch p n (b_at p n)
  unfolding fields_of row
  group_kids e = let k = kids p n w.shaped w.inside 7 e in (k.0, k.1)

  pub group_tree : kind_at p n ≡ 7
      → signal_at p n ≡ group n (cells_before p n) (signal_at p (a_at p n)) (branches_at p (b_at p n))
  group_tree e = let k = group_kids e in signal_group p n e k.0.less k.1.less

  pub until_kids : kind_at p n ≡ 8 → Child is_signal p n (a_at p n) × Child is_case p n (b_at p n)
  unfolding fields_of row
  until_kids e = let k = kids p n w.shaped w.inside 8 e in (k.0, k.1)

  pub until_tree : kind_at p n ≡ 8
      → signal_at p n ≡ until n (signal_at p (a_at p n)) (cases_at p (b_at p n))
  until_tree e = let k = until_kids e in signal_until p n e k.0.less k.1.less

  -- No kind but time is left.
  pub time_left : {A : Type 0} {m : ℕ} → m ≡ kind_at p n
      → (((((((A × (m ≡ 1 → ⊥)) × (m ≡ 3 → ⊥)) × (m ≡ 4 → ⊥)) × (m ≡ 5 → ⊥)) × (m ≡ 6 → ⊥)) × (m ≡ 7 → ⊥)) × (m ≡ 8 → ⊥))
      → kind_at p n ≡ 2
  unfolding is_signal
  time_left e r =
      let b = and_both _ _ w.sorted in
      let l = leb-true 1 (kind_at p n) b.0 in
      let u = leb-true (kind_at p n) 8 b.1 in
      two (kind_at p n) l (λ h. r.0.0.0.0.0.0.1 (e ∙ h))
      (less 2 (less 3 (less 4 (less 5 (less 6 (less 7 u (λ h. r.1 (e ∙ h))) (λ h. r.0.1 (e ∙ h))) (λ h. r.0.0.1 (e ∙ h)))
      (λ h. r.0.0.0.1 (e ∙ h))) (λ h. r.0.0.0.0.1 (e ∙ h))) (λ h. r.0.0.0.0.0.1 (e ∙ h)))

  -- None but until, above a let's.
  pub until_left : {m : ℕ} → m ≡ kind_at p n → 5 < m → (m ≡ 6 → ⊥) → (m ≡ 7 → ⊥) → kind_at p n ≡ 8
  unfolding is_signal
  until_left e h six seven = let u : kind_at p n ≤ 8 = leb-true (kind_at p n) 8 (and_both _ _ w.sorted).1 in omega (arith, e, h, six, seven, u)

module _ (p : Bytes) (n : ℕ) (w : NodeOf is_branch p n) where
  is_branch_lem : kind_at p n ≡ 9
  unfolding is_branch
  is_branch_lem = eqb-true _ _ w.sorted

  pub branch_kid : Child is_signal p n (a_at p n)
  unfolding fields_of row
  branch_kid = (kids p n w.shaped w.inside 9 is_branch_lem).0

  pub branch_next : (b_at p n ≡ 65535 → ⊥) → Child is_branch p n (b_at p n)
  unfolding fields_of row
  branch_next = (kids p n w.shaped w.inside 9 is_branch_lem).1

  pub branch_law : {next : Branches} → below n no_branch (branches_at p) (b_at p n) ≡ next
      → branches_at p n ≡ branch n (type_at p n) (signal_at p (a_at p n)) next
  unfolding branches_as
  branch_law e = branches_law p n ∙ (λ i. branch n (type_at p n) (below_lt n no_signal (signal_at p) (a_at p n) branch_kid.less i) (e i))

  pub branch_end : b_at p n ≡ 65535 → branches_at p n ≡ branch n (type_at p n) (signal_at p (a_at p n)) no_branch
  branch_end e = branch_law (below_ge n no_branch (branches_at p) (b_at p n) (omega (arith, w.inside, w.shaped.small)))

  pub branch_on : (b_at p n ≡ 65535 → ⊥)
      → branches_at p n ≡ branch n (type_at p n) (signal_at p (a_at p n)) (branches_at p (b_at p n))
  branch_on d = branch_law (below_lt n no_branch (branches_at p) (b_at p n) (branch_next d).less)

module _ (p : Bytes) (n : ℕ) (w : NodeOf is_case p n) where
  is_case_lem : kind_at p n ≡ 10
  unfolding is_case
  is_case_lem = eqb-true _ _ w.sorted

  pub case_kid : Child is_signal p n (a_at p n)
  unfolding fields_of row
  case_kid = (kids p n w.shaped w.inside 10 is_case_lem).0

  pub case_next : (b_at p n ≡ 65535 → ⊥) → Child is_case p n (b_at p n)
  unfolding fields_of row
  case_next = (kids p n w.shaped w.inside 10 is_case_lem).1

  pub case_law : {next : Cases} → below n no_case (cases_at p) (b_at p n) ≡ next
      → cases_at p n ≡ case n (signal_at p (a_at p n)) (c_at p n) (type_at p (c_at p n)) next
  unfolding cases_as
  case_law e = cases_law p n ∙ (λ i. case n (below_lt n no_signal (signal_at p) (a_at p n) case_kid.less i) (c_at p n) (type_at p (c_at p n)) (e i))

  pub case_end : b_at p n ≡ 65535 → cases_at p n ≡ case n (signal_at p (a_at p n)) (c_at p n) (type_at p (c_at p n)) no_case
  case_end e = case_law (below_ge n no_case (cases_at p) (b_at p n) (omega (arith, w.inside, w.shaped.small)))

  pub case_on : (b_at p n ≡ 65535 → ⊥)
      → cases_at p n ≡ case n (signal_at p (a_at p n)) (c_at p n) (type_at p (c_at p n)) (cases_at p (b_at p n))
  case_on d = case_law (below_lt n no_case (cases_at p) (b_at p n) (case_next d).less)
