-- A signal of each kind, a list of branches and a list of cases: whether their cells hold their start content, and the same from what the calls for the parts have answered.
-- Assumes nothing.
use mathlib.Core.Path.{◌≡◌, refl, sym, ap, ◌∙◌}
use mathlib.Core.Bool.{Bool, true}
use mathlib.Core.List.{List}
use Prim.Native.Nat.{ℕ}
use lib.Dec.{eqb}
use lib.ListN.{get_or}
use Rattle.rules.specs.Bytes.{Bytes, ◌and◌}
use Rattle.rules.specs.Values.{packed, value_from}
use Rattle.rules.specs.Layout.{kind_at, type_at, a_at, b_at, c_at, word_at, cell, is_clear}
use Rattle.rules.specs.Kinds.{is_signal, is_branch, is_case}
use Rattle.rules.specs.Reset.{rests_s, rests_b, rests_c}
use Rattle.rules.specs.Tree.{signal_at, branches_at, cases_at, value_at}
use Rattle.rules.specs.Shaped.{NodeOf}
use Rattle.rules.specs.Node.{IsNode}
use Rattle.rules.specs.declared.Node.{Node}
use Rattle.rules.proofs.Signals.{delay_tree, let_tree, switch_tree, group_tree, until_tree, branch_end, branch_on, case_end, case_on}
use Rattle.state.specs.Stated.{Stated}
use Rattle.state.proofs.Carried.{number, quiet}

module _ (p : Bytes) (index : List ℕ) (size n : ℕ) (w : Stated is_signal p index size n) (st : Bytes) where
  delay_rests : kind_at p n ≡ 4
      → rests_s st (signal_at p n)
      ≡ (eqb (cell st (get_or index n 0)) (packed (value_from (type_at p n) (b_at p n) (word_at p n))) and rests_s st (signal_at p (a_at p n)))
  unfolding rests_s value_at
  delay_rests e = rw (delay_tree p n w.node e, number p index size n w) refl

  let_rests : kind_at p n ≡ 5 → rests_s st (signal_at p n) ≡ (rests_s st (signal_at p (a_at p n)) and rests_s st (signal_at p (b_at p n)))
  unfolding rests_s
  let_rests e = ap (rests_s st) (let_tree p n w.node e)

  switch_rests : kind_at p n ≡ 6
      → rests_s st (signal_at p n)
      ≡ (eqb (cell st (get_or index n 0)) 0 and rests_s st (signal_at p (a_at p n)) and rests_s st (signal_at p (b_at p n)) and rests_s st (signal_at p (c_at p n)))
  unfolding rests_s is_clear
  switch_rests e = rw (switch_tree p n w.node e, number p index size n w) refl

  group_rests : kind_at p n ≡ 7
      → rests_s st (signal_at p n)
      ≡ (eqb (cell st (get_or index n 0)) 0 and rests_s st (signal_at p (a_at p n)) and rests_b st (branches_at p (b_at p n)))
  unfolding rests_s is_clear
  group_rests e = rw (group_tree p n w.node e, number p index size n w) refl

  until_rests : kind_at p n ≡ 8 → rests_s st (signal_at p n) ≡ (rests_s st (signal_at p (a_at p n)) and rests_c st (cases_at p (b_at p n)))
  unfolding rests_s
  until_rests e = ap (rests_s st) (until_tree p n w.node e)

  pub quiet_rests : {A : Type 0} {m : ℕ} → m ≡ kind_at p n
      → (((((A × (m ≡ 4 → ⊥)) × (m ≡ 5 → ⊥)) × (m ≡ 6 → ⊥)) × (m ≡ 7 → ⊥)) × (m ≡ 8 → ⊥))
      → true ≡ rests_s st (signal_at p n)
  unfolding rests_s
  quiet_rests e r = quiet p n w.node (λ s. true ≡ rests_s st s) (λ c. refl) refl (λ x. refl) e r

  module _ {x : Node} (e : IsNode p n x) where
    pub delay_rests_said : {m v : ℕ} {s r : Bool} → x.kind ≡ 4 → m ≡ cell st (get_or index n 0) → s ≡ rests_s st (signal_at p x.a)
        → v ≡ packed (value_from x.ty x.b x.word) → r ≡ (eqb m v and s) → r ≡ rests_s st (signal_at p n)
    delay_rests_said k hm hs hv hr = cc (delay_rests (sym e.kind_is ∙ k), e.type_is, e.a_is, e.b_is, e.word_is)

    pub let_rests_said : {s t r : Bool} → x.kind ≡ 5 → s ≡ rests_s st (signal_at p x.a) → t ≡ rests_s st (signal_at p x.b) → r ≡ (s and t)
        → r ≡ rests_s st (signal_at p n)
    let_rests_said k hs ht hr = cc (let_rests (sym e.kind_is ∙ k), e.a_is, e.b_is)

    pub switch_rests_said : {m : ℕ} {s t u v q r : Bool} → x.kind ≡ 6 → m ≡ cell st (get_or index n 0)
        → s ≡ rests_s st (signal_at p x.a) → t ≡ rests_s st (signal_at p x.b) → u ≡ rests_s st (signal_at p x.c)
        → v ≡ (eqb m 0 and s) → q ≡ (v and t) → r ≡ (q and u) → r ≡ rests_s st (signal_at p n)
    switch_rests_said k hm hs ht hu hv hq hr = cc (switch_rests (sym e.kind_is ∙ k), e.a_is, e.b_is, e.c_is)

    pub group_rests_said : {m : ℕ} {s t v r : Bool} → x.kind ≡ 7 → m ≡ cell st (get_or index n 0)
        → s ≡ rests_s st (signal_at p x.a) → t ≡ rests_b st (branches_at p x.b) → v ≡ (eqb m 0 and s) → r ≡ (v and t) → r ≡ rests_s st (signal_at p n)
    group_rests_said k hm hs ht hv hr = cc (group_rests (sym e.kind_is ∙ k), e.a_is, e.b_is)

    pub until_rests_said : {s t r : Bool} → x.kind ≡ 8 → s ≡ rests_s st (signal_at p x.a) → t ≡ rests_c st (cases_at p x.b) → r ≡ (s and t)
        → r ≡ rests_s st (signal_at p n)
    until_rests_said k hs ht hr = cc (until_rests (sym e.kind_is ∙ k), e.a_is, e.b_is)

module _ (p : Bytes) (n : ℕ) (w : NodeOf is_branch p n) (st : Bytes) where
  branch_rests_end : b_at p n ≡ 65535 → rests_b st (branches_at p n) ≡ (rests_s st (signal_at p (a_at p n)) and true)
  unfolding rests_b
  branch_rests_end e = ap (rests_b st) (branch_end p n w e)

  branch_rests_on : (b_at p n ≡ 65535 → ⊥) → rests_b st (branches_at p n) ≡ (rests_s st (signal_at p (a_at p n)) and rests_b st (branches_at p (b_at p n)))
  unfolding rests_b
  branch_rests_on d = ap (rests_b st) (branch_on p n w d)

  module _ {x : Node} (e : IsNode p n x) where
    pub branch_rests_end_said : {s r : Bool} → s ≡ rests_s st (signal_at p x.a) → x.b ≡ 65535 → r ≡ (s and true) → r ≡ rests_b st (branches_at p n)
    branch_rests_end_said hs l hr = cc (branch_rests_end (sym e.b_is ∙ l), e.a_is)

    pub branch_rests_on_said : {s t r : Bool} → s ≡ rests_s st (signal_at p x.a) → (x.b ≡ 65535 → ⊥) → t ≡ rests_b st (branches_at p x.b) → r ≡ (s and t)
        → r ≡ rests_b st (branches_at p n)
    branch_rests_on_said hs l ht hr = cc (branch_rests_on (λ h. l (e.b_is ∙ h)), e.a_is, e.b_is)

module _ (p : Bytes) (n : ℕ) (w : NodeOf is_case p n) (st : Bytes) where
  case_rests_end : b_at p n ≡ 65535 → rests_c st (cases_at p n) ≡ (rests_s st (signal_at p (a_at p n)) and true)
  unfolding rests_c
  case_rests_end e = ap (rests_c st) (case_end p n w e)

  case_rests_on : (b_at p n ≡ 65535 → ⊥) → rests_c st (cases_at p n) ≡ (rests_s st (signal_at p (a_at p n)) and rests_c st (cases_at p (b_at p n)))
  unfolding rests_c
  case_rests_on d = ap (rests_c st) (case_on p n w d)

  module _ {x : Node} (e : IsNode p n x) where
    pub case_rests_end_said : {s r : Bool} → s ≡ rests_s st (signal_at p x.a) → x.b ≡ 65535 → r ≡ (s and true) → r ≡ rests_c st (cases_at p n)
    case_rests_end_said hs l hr = cc (case_rests_end (sym e.b_is ∙ l), e.a_is)

    pub case_rests_on_said : {s t r : Bool} → s ≡ rests_s st (signal_at p x.a) → (x.b ≡ 65535 → ⊥) → t ≡ rests_c st (cases_at p x.b) → r ≡ (s and t)
        → r ≡ rests_c st (cases_at p n)
    case_rests_on_said hs l ht hr = cc (case_rests_on (λ h. l (e.b_is ∙ h)), e.a_is, e.b_is)
