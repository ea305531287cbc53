-- A signal of each kind, a list of branches and a list of cases: their cells put to start, and the same from what the calls for the parts have left.
-- Assumes nothing.
use mathlib.Core.Path.{◌≡◌, refl, sym, ap, ◌∙◌}
use mathlib.Core.List.{List}
use Prim.Native.Nat.{ℕ, ◌≤◌}
use native.Mathlib.Omega.{arith}
use lib.ListN.{get_or}
use Rattle.rules.specs.Bytes.{Bytes}
use Rattle.rules.specs.Values.{packed, value_from}
use Rattle.rules.specs.Layout.{kind_at, type_at, a_at, b_at, c_at, word_at, set_cell, hold, clear}
use Rattle.rules.specs.Kinds.{is_signal, is_branch, is_case}
use Rattle.rules.specs.Reset.{reset_s, reset_b, reset_c}
use Rattle.rules.specs.Tree.{Signal, Branches, Cases, signal_at, branches_at, cases_at, value_at}
use Rattle.rules.specs.Shaped.{NodeOf}
use Rattle.rules.specs.Node.{IsNode}
use Rattle.rules.specs.declared.Node.{Node}
use Rattle.rules.proofs.Signals.{delay_tree, let_tree, switch_tree, group_tree, until_tree, branch_end, branch_on, case_end, case_on}
use Rattle.state.specs.Stated.{Stated}
use Rattle.state.proofs.Carried.{number, quiet}

module _ (p : Bytes) (index : List ℕ) (size n : ℕ) (w : Stated is_signal p index size n) (st : Bytes) where
  delay_reset : kind_at p n ≡ 4
      → reset_s (signal_at p n) st ≡ reset_s (signal_at p (a_at p n)) (set_cell st (get_or index n 0) (packed (value_from (type_at p n) (b_at p n) (word_at p n))))
  unfolding reset_s hold value_at
  delay_reset e = rw (delay_tree p n w.node e, number p index size n w) refl

  let_reset : kind_at p n ≡ 5 → reset_s (signal_at p n) st ≡ reset_s (signal_at p (b_at p n)) (reset_s (signal_at p (a_at p n)) st)
  unfolding reset_s
  let_reset e = ap (λ (s : Signal). reset_s s st) (let_tree p n w.node e)

  switch_reset : kind_at p n ≡ 6
      → reset_s (signal_at p n) st
      ≡ reset_s (signal_at p (c_at p n)) (reset_s (signal_at p (b_at p n)) (reset_s (signal_at p (a_at p n)) (set_cell st (get_or index n 0) 0)))
  unfolding reset_s clear
  switch_reset e = rw (switch_tree p n w.node e, number p index size n w) refl

  group_reset : kind_at p n ≡ 7
      → reset_s (signal_at p n) st ≡ reset_b (branches_at p (b_at p n)) (reset_s (signal_at p (a_at p n)) (set_cell st (get_or index n 0) 0))
  unfolding reset_s clear
  group_reset e = rw (group_tree p n w.node e, number p index size n w) refl

  until_reset : kind_at p n ≡ 8 → reset_s (signal_at p n) st ≡ reset_c (cases_at p (b_at p n)) (reset_s (signal_at p (a_at p n)) st)
  unfolding reset_s
  until_reset e = ap (λ (s : Signal). reset_s s st) (until_tree p n w.node e)

  pub quiet_reset : {A : Type 0} {m : ℕ} → m ≡ kind_at p n
      → (((((A × (m ≡ 4 → ⊥)) × (m ≡ 5 → ⊥)) × (m ≡ 6 → ⊥)) × (m ≡ 7 → ⊥)) × (m ≡ 8 → ⊥))
      → st ≡ reset_s (signal_at p n) st
  unfolding reset_s
  quiet_reset e r = quiet p n w.node (λ s. st ≡ reset_s s st) (λ c. refl) refl (λ x. refl) e r

  pub low_reset : {m : ℕ} → m ≡ kind_at p n → m ≤ 3 → st ≡ reset_s (signal_at p n) st
  low_reset e u =
      quiet_reset e (((((e, (λ h. omega (arith, h, u))), (λ h. omega (arith, h, u))), (λ h. omega (arith, h, u))), (λ h. omega (arith, h, u))), (λ h. omega (arith, h, u)))

  module _ {x : Node} (e : IsNode p n x) where
    pub delay_reset_said : {m : ℕ} {q r : Bytes} → x.kind ≡ 4 → m ≡ packed (value_from (type_at p n) (b_at p n) (word_at p n))
        → q ≡ set_cell st (get_or index n 0) m → r ≡ reset_s (signal_at p x.a) q → r ≡ reset_s (signal_at p n) st
    delay_reset_said k hm hq hr = cc (delay_reset (sym e.kind_is ∙ k), e.a_is)

    pub let_reset_said : {q r : Bytes} → x.kind ≡ 5 → q ≡ reset_s (signal_at p x.a) st → r ≡ reset_s (signal_at p x.b) q → r ≡ reset_s (signal_at p n) st
    let_reset_said k hq hr = cc (let_reset (sym e.kind_is ∙ k), e.a_is, e.b_is)

    pub switch_reset_said : {o q s r : Bytes} → x.kind ≡ 6 → o ≡ set_cell st (get_or index n 0) 0 → q ≡ reset_s (signal_at p x.a) o
        → s ≡ reset_s (signal_at p x.b) q → r ≡ reset_s (signal_at p x.c) s → r ≡ reset_s (signal_at p n) st
    switch_reset_said k ho hq hs hr = cc (switch_reset (sym e.kind_is ∙ k), e.a_is, e.b_is, e.c_is)

    pub group_reset_said : {o q r : Bytes} → x.kind ≡ 7 → o ≡ set_cell st (get_or index n 0) 0 → q ≡ reset_s (signal_at p x.a) o
        → r ≡ reset_b (branches_at p x.b) q → r ≡ reset_s (signal_at p n) st
    group_reset_said k ho hq hr = cc (group_reset (sym e.kind_is ∙ k), e.a_is, e.b_is)

    pub until_reset_said : {q r : Bytes} → x.kind ≡ 8 → q ≡ reset_s (signal_at p x.a) st → r ≡ reset_c (cases_at p x.b) q → r ≡ reset_s (signal_at p n) st
    until_reset_said k hq hr = cc (until_reset (sym e.kind_is ∙ k), e.a_is, e.b_is)

module _ (p : Bytes) (n : ℕ) (w : NodeOf is_branch p n) (st : Bytes) where
  branch_reset_end : b_at p n ≡ 65535 → reset_b (branches_at p n) st ≡ reset_s (signal_at p (a_at p n)) st
  unfolding reset_b
  branch_reset_end e = ap (λ (b : Branches). reset_b b st) (branch_end p n w e)

  branch_reset_on : (b_at p n ≡ 65535 → ⊥) → reset_b (branches_at p n) st ≡ reset_b (branches_at p (b_at p n)) (reset_s (signal_at p (a_at p n)) st)
  unfolding reset_b
  branch_reset_on d = ap (λ (b : Branches). reset_b b st) (branch_on p n w d)

  module _ {x : Node} (e : IsNode p n x) where
    pub branch_reset_end_said : {r : Bytes} → r ≡ reset_s (signal_at p x.a) st → x.b ≡ 65535 → r ≡ reset_b (branches_at p n) st
    branch_reset_end_said hr l = cc (branch_reset_end (sym e.b_is ∙ l), e.a_is)

    pub branch_reset_on_said : {q r : Bytes} → q ≡ reset_s (signal_at p x.a) st → (x.b ≡ 65535 → ⊥) → r ≡ reset_b (branches_at p x.b) q
        → r ≡ reset_b (branches_at p n) st
    branch_reset_on_said hq l hr = cc (branch_reset_on (λ h. l (e.b_is ∙ h)), e.a_is, e.b_is)

module _ (p : Bytes) (n : ℕ) (w : NodeOf is_case p n) (st : Bytes) where
  case_reset_end : b_at p n ≡ 65535 → reset_c (cases_at p n) st ≡ reset_s (signal_at p (a_at p n)) st
  unfolding reset_c
  case_reset_end e = ap (λ (b : Cases). reset_c b st) (case_end p n w e)

  case_reset_on : (b_at p n ≡ 65535 → ⊥) → reset_c (cases_at p n) st ≡ reset_c (cases_at p (b_at p n)) (reset_s (signal_at p (a_at p n)) st)
  unfolding reset_c
  case_reset_on d = ap (λ (b : Cases). reset_c b st) (case_on p n w d)

  module _ {x : Node} (e : IsNode p n x) where
    pub case_reset_end_said : {r : Bytes} → r ≡ reset_s (signal_at p x.a) st → x.b ≡ 65535 → r ≡ reset_c (cases_at p n) st
    case_reset_end_said hr l = cc (case_reset_end (sym e.b_is ∙ l), e.a_is)

    pub case_reset_on_said : {q r : Bytes} → q ≡ reset_s (signal_at p x.a) st → (x.b ≡ 65535 → ⊥) → r ≡ reset_c (cases_at p x.b) q
        → r ≡ reset_c (cases_at p n) st
    case_reset_on_said hq l hr = cc (case_reset_on (λ h. l (e.b_is ∙ h)), e.a_is, e.b_is)
