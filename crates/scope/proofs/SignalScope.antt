-- The scope of a signal of each kind, of a list of branches and of a list of cases.
-- Assumes nothing.
use Rattle.std.specs.Prelude.{None}
use mathlib.Core.Path.{◌≡◌, refl, sym, ap, ◌∙◌}
use mathlib.Core.List.{List, [], ◌∷◌}
use mathlib.Core.Bool.{Bool, true, false}
use Prim.Native.Nat.{ℕ, ◌≤◌}
use native.Mathlib.Omega.{arith}
use lib.Dec.{eqb}
use borrow.Author.Tests.{leb-true, eq-eqb, ne_eqb, eqb-true, eqb-false}
use Rattle.rules.specs.Bytes.{Bytes, ◌and◌, ◌or◌}
use Rattle.rules.specs.Layout.{kind_at, a_at, b_at, c_at}
use Rattle.rules.specs.Kinds.{is_signal, is_branch, is_case}
use Rattle.rules.specs.Places.{sooner, wrong_unless}
use Rattle.rules.specs.Tree.{expr_at, signal_at, branches_at, cases_at, no_branch, no_case}
use Rattle.rules.specs.Scope.{Marks, Offers, mark, onward, is_offered, scope_e, scope_s, scope_b, scope_c}
use Rattle.rules.proofs.Static.{and_both}
use Rattle.rules.proofs.Nodes.{below_lt, below_ge, signal_input, signal_time, signal_ext, signal_delay, signal_let, signal_switch, signal_group, signal_until}
use Rattle.rules.specs.Shaped.{NodeOf}
use Rattle.rules.proofs.Signals.{less, ext_kid, delay_kid, let_kids, switch_kids, group_kids, until_kids, branch_next, branch_law, case_next, case_law}

module _ (ed : ℕ) (p : Bytes) (n : ℕ) (w : NodeOf is_branch p n) where
  pub branch_last_scope : (Γ : Marks) (Δ : Offers) → b_at p n ≡ 65535
      → scope_b ed Γ Δ (branches_at p n) ≡ sooner (scope_s ed (mark Γ n) Δ (signal_at p (a_at p n))) None
  unfolding scope_b
  branch_last_scope Γ Δ e =
      ap (scope_b ed Γ Δ) (branch_law p n w (below_ge n no_branch (branches_at p) (b_at p n) (omega (arith, w.inside, w.shaped.small))))

  pub branch_more_scope : (Γ : Marks) (Δ : Offers) → (b_at p n ≡ 65535 → ⊥)
      → scope_b ed Γ Δ (branches_at p n) ≡ sooner (scope_s ed (mark Γ n) Δ (signal_at p (a_at p n))) (scope_b ed Γ Δ (branches_at p (b_at p n)))
  unfolding scope_b
  branch_more_scope Γ Δ e =
      ap (scope_b ed Γ Δ) (branch_law p n w (below_lt n no_branch (branches_at p) (b_at p n) (branch_next p n w e).less))

module _ (ed : ℕ) (p : Bytes) (n : ℕ) (w : NodeOf is_case p n) (Γ : Marks) (Δ : Offers) where
  pub case_last_scope : b_at p n ≡ 65535
      → scope_c ed Γ Δ (cases_at p n) ≡ sooner (wrong_unless (is_offered (c_at p n) Δ) n) (sooner (scope_s ed Γ [] (signal_at p (a_at p n))) None)
  unfolding scope_c
  case_last_scope e =
      ap (scope_c ed Γ Δ) (case_law p n w (below_ge n no_case (cases_at p) (b_at p n) (omega (arith, w.inside, w.shaped.small))))

  pub case_more_scope : (b_at p n ≡ 65535 → ⊥)
      → scope_c ed Γ Δ (cases_at p n) ≡ sooner (wrong_unless (is_offered (c_at p n) Δ) n) (sooner (scope_s ed Γ [] (signal_at p (a_at p n))) (scope_c ed Γ Δ (cases_at p (b_at p n))))
  unfolding scope_c
  case_more_scope e =
      ap (scope_c ed Γ Δ) (case_law p n w (below_lt n no_case (cases_at p) (b_at p n) (case_next p n w e).less))

module _ (ed : ℕ) (p : Bytes) (n : ℕ) (w : NodeOf is_signal p n) (Γ : Marks) (Δ : Offers) where
  pub ext_scope : kind_at p n ≡ 3 → scope_s ed Γ Δ (signal_at p n) ≡ scope_e Γ (expr_at p (a_at p n))
  unfolding scope_s
  ext_scope e = ap (scope_s ed Γ Δ) (signal_ext p n e (ext_kid p n w e).less)

  pub delay_scope : kind_at p n ≡ 4 → scope_s ed Γ Δ (signal_at p n) ≡ scope_s ed Γ [] (signal_at p (a_at p n))
  unfolding scope_s
  delay_scope e = ap (scope_s ed Γ Δ) (signal_delay p n e (delay_kid p n w e).less)

  pub let_scope : kind_at p n ≡ 5
      → scope_s ed Γ Δ (signal_at p n) ≡ sooner (scope_s ed (mark Γ n) [] (signal_at p (a_at p n))) (scope_s ed (mark Γ n) Δ (signal_at p (b_at p n)))
  unfolding scope_s
  let_scope e = let k = let_kids p n w e in ap (scope_s ed Γ Δ) (signal_let p n e k.0.less k.1.less)

  pub switch_scope : kind_at p n ≡ 6
      → scope_s ed Γ Δ (signal_at p n) ≡ sooner (scope_s ed Γ [] (signal_at p (a_at p n)))
      (sooner (scope_s ed Γ [] (signal_at p (b_at p n))) (scope_s ed (mark Γ n) [] (signal_at p (c_at p n))))
  unfolding scope_s
  switch_scope e = let k = switch_kids p n w e in ap (scope_s ed Γ Δ) (signal_switch p n e k.0.less k.1.less k.2.less)

  pub group_scope : kind_at p n ≡ 7
      → scope_s ed Γ Δ (signal_at p n)
      ≡ sooner (scope_s ed Γ (branches_at p (b_at p n) ∷ onward ed Δ) (signal_at p (a_at p n))) (scope_b ed Γ (branches_at p (b_at p n) ∷ onward ed Δ) (branches_at p (b_at p n)))
  unfolding scope_s
  group_scope e = let k = group_kids p n w e in ap (scope_s ed Γ Δ) (signal_group p n e k.0.less k.1.less)

  pub until_scope : kind_at p n ≡ 8
      → scope_s ed Γ Δ (signal_at p n) ≡ sooner (scope_s ed Γ [] (signal_at p (a_at p n))) (scope_c ed Γ Δ (cases_at p (b_at p n)))
  unfolding scope_s
  until_scope e = let k = until_kids p n w e in ap (scope_s ed Γ Δ) (signal_until p n e k.0.less k.1.less)

  one_or_two : (b : Bool) → eqb (kind_at p n) 1 ≡ b → 1 ≤ kind_at p n → kind_at p n ≤ 2 → scope_s ed Γ Δ (signal_at p n) ≡ None
  unfolding scope_s
  one_or_two true q l u = ap (scope_s ed Γ Δ) (signal_input p n (eqb-true _ _ q))
  one_or_two false q l u = ap (scope_s ed Γ Δ) (signal_time p n (two (kind_at p n) q l u))
    where
      two : (m : ℕ) → eqb m 1 ≡ false → 1 ≤ m → m ≤ 2 → m ≡ 2
      two m q l u = omega (arith, eqb-false m 1 q)

  -- Input and time.
  pub leaf_scope : {A : Type 0} {m : ℕ} → m ≡ kind_at p n
      → ((((((A × (m ≡ 3 → ⊥)) × (m ≡ 4 → ⊥)) × (m ≡ 5 → ⊥)) × (m ≡ 6 → ⊥)) × (m ≡ 7 → ⊥)) × (m ≡ 8 → ⊥))
      → scope_s ed Γ Δ (signal_at p n) ≡ None
  unfolding is_signal
  leaf_scope e r =
      let b = and_both _ _ w.sorted in
      let l = leb-true 1 (kind_at p n) b.0 in
      let u = leb-true (kind_at p n) 8 b.1 in
      one_or_two (eqb (kind_at p n) 1) refl l
      (less 2 (less 3 (less 4 (less 5 (less 6 (less 7 u (λ h. r.1 (e ∙ h))) (λ h. r.0.1 (e ∙ h))) (λ h. r.0.0.1 (e ∙ h)))
      (λ h. r.0.0.0.1 (e ∙ h))) (λ h. r.0.0.0.0.1 (e ∙ h))) (λ h. r.0.0.0.0.0.1 (e ∙ h)))
