-- The place that readiness gives is a let of the table that is not ready.
-- Assumes nothing.
use Rattle.std.specs.Prelude.{if◌then◌else◌, Option, Some, None, ℕ}
use mathlib.Core.Path.{◌≡◌, refl, sym, ap, subst, ◌∙◌}
use mathlib.Core.Bool.{Bool, true, false}
use Prim.Native.Nat.{ℕ, zero, suc, min, ◌-◌, ◌≤◌, ◌<◌}
use native.Mathlib.Nat.{not-suc-le-zero, min_comm, min-eq_left}
use native.Mathlib.Omega.{arith}
use lib.Dec.{leb}
use borrow.Author.Tests.{leb-true, leb-false, eqb-true}
use Rattle.rules.specs.Bytes.{Bytes}
use Rattle.rules.specs.Layout.{nodes, kind_at, a_at, b_at}
use Rattle.rules.specs.Kinds.{is_signal, is_branch, is_case}
use Rattle.rules.specs.Shaped.{NodeOf}
use Rattle.rules.specs.Places.{sooner, wrong_if}
use Rattle.rules.specs.Tree.{signal_at, branches_at, cases_at}
use Rattle.rules.specs.Ready.{needs_s, ready_s, ready_b, ready_c}
use Rattle.rules.proofs.Nodes.{signal_input, signal_time}
use Rattle.rules.proofs.Kids.{Child}
use Rattle.rules.proofs.Signals.{ext_tree, delay_kid, delay_tree, let_kids, let_tree, switch_kids, switch_tree, group_kids, group_tree, until_kids, until_tree, branch_kid, branch_next, branch_end, branch_on, case_kid, case_next, case_end, case_on}
use Rattle.rules.proofs.ByKind.{SignalKind, is_input, is_time, is_ext, is_delay, is_let, is_switch, is_group, is_until, signal_kind, choose}
use Rattle.chains.specs.Explains.{IsLet, NotReady}

-- No place is not a place.
not_at : {A : Type 0} {n : ℕ} → None ≡ Some n → A
not_at e = absurd (let z : ◌≡◌ {A = ℕ} 0 1 = cc in omega arith)

-- The number of a place.
number : Option ℕ → ℕ
number (Some n) = n
number None = 0

smaller_at : (m k n : ℕ) → Some (min m k) ≡ Some n → (A : Type 0) → (Some m ≡ Some n → A) → (Some k ≡ Some n → A) → A
smaller_at m k n e A f g = go (leb m k) refl
  where
    go : (b : Bool) → leb m k ≡ b → A
    go true h = f (ap Some (sym (min-eq_left (leb-true m k h))) ∙ e)
    go false h = g (ap Some (sym (min-eq_left (let z : k ≤ m = omega (arith, leb-false m k h) in z))) ∙ ap Some (min_comm k m) ∙ e)

-- The smaller of two places is one of them.
by_sooner : (q r : Option ℕ) {A : Type 0} {n : ℕ} → sooner q r ≡ Some n → (q ≡ Some n → A) → (r ≡ Some n → A) → A
unfolding sooner
by_sooner None r e f g = g e
by_sooner (Some m) None e f g = f e
by_sooner (Some m) (Some k) {A} {n} e f g = smaller_at m k n e A f g

-- A rule that is broken at a place.
by_wrong : (t : Bool) (m : ℕ) {n : ℕ} → wrong_if t m ≡ Some n → (t ≡ true) × (m ≡ n)
unfolding wrong_if number
by_wrong true m e = (refl, ap number e)
by_wrong false m e = not_at e

-- A let that is not ready.
pub record Unready (p : Bytes) (n : ℕ) : Type 0 where
  pub node : NodeOf is_signal p n
  pub kind : kind_at p n ≡ 5
  pub needed : NotReady p n

module _ (p : Bytes) where
  record Found (i : ℕ) : Type 0 where
    signals : NodeOf is_signal p i → (n : ℕ) → ready_s (signal_at p i) ≡ Some n → Unready p n
    branches : NodeOf is_branch p i → (n : ℕ) → ready_b (branches_at p i) ≡ Some n → Unready p n
    cases : NodeOf is_case p i → (n : ℕ) → ready_c (cases_at p i) ≡ Some n → Unready p n

  module _ (i : ℕ) (ih : (m : ℕ) → m < i → Found m) (n : ℕ) where
    sub : {m : ℕ} → Child is_signal p i m → ready_s (signal_at p m) ≡ Some n → Unready p n
    sub {m} c e = (ih m c.less).signals c.node n e

    brs : {m : ℕ} → Child is_branch p i m → ready_b (branches_at p m) ≡ Some n → Unready p n
    brs {m} c e = (ih m c.less).branches c.node n e

    cs : {m : ℕ} → Child is_case p i m → ready_c (cases_at p m) ≡ Some n → Unready p n
    cs {m} c e = (ih m c.less).cases c.node n e

    here : NodeOf is_signal p i → kind_at p i ≡ 5 → (needs_s i (signal_at p (a_at p i)) ≡ true) × (i ≡ n) → Unready p n
    here w k h = subst (Unready p) h.1 (record { node = w; kind = k; needed = h.0 })

    signal_at_lem : NodeOf is_signal p i → SignalKind (kind_at p i) → ready_s (signal_at p i) ≡ Some n → Unready p n
    unfolding ready_s
    signal_at_lem w (is_input e) h = not_at (sym (ap ready_s (signal_input p i e)) ∙ h)
    signal_at_lem w (is_time e) h = not_at (sym (ap ready_s (signal_time p i e)) ∙ h)
    signal_at_lem w (is_ext e) h = not_at (sym (ap ready_s (ext_tree p i w e)) ∙ h)
    signal_at_lem w (is_delay e) h = sub (delay_kid p i w e) (sym (ap ready_s (delay_tree p i w e)) ∙ h)
    signal_at_lem w (is_let e) h =
        let k = let_kids p i w e in
        by_sooner _ _ (sym (ap ready_s (let_tree p i w e)) ∙ h) (λ q. here w e (by_wrong _ i q)) (λ q. by_sooner _ _ q (sub k.0) (sub k.1))
    signal_at_lem w (is_switch e) h =
        let k = switch_kids p i w e in
        by_sooner _ _ (sym (ap ready_s (switch_tree p i w e)) ∙ h) (sub k.0) (λ q. by_sooner _ _ q (sub k.1) (sub k.2))
    signal_at_lem w (is_group e) h =
        let k = group_kids p i w e in
        by_sooner _ _ (sym (ap ready_s (group_tree p i w e)) ∙ h) (sub k.0) (brs k.1)
    signal_at_lem w (is_until e) h =
        let k = until_kids p i w e in
        by_sooner _ _ (sym (ap ready_s (until_tree p i w e)) ∙ h) (sub k.0) (cs k.1)

    branch_at : NodeOf is_branch p i → ready_b (branches_at p i) ≡ Some n → Unready p n
    unfolding ready_s
    branch_at w h =
        choose (b_at p i) 65535
        (λ e. by_sooner _ _ (sym (ap ready_b (branch_end p i w e)) ∙ h) (sub (branch_kid p i w)) not_at)
        (λ d. by_sooner _ _ (sym (ap ready_b (branch_on p i w d)) ∙ h) (sub (branch_kid p i w)) (brs (branch_next p i w d)))

    case_at : NodeOf is_case p i → ready_c (cases_at p i) ≡ Some n → Unready p n
    unfolding ready_s
    case_at w h =
        choose (b_at p i) 65535
        (λ e. by_sooner _ _ (sym (ap ready_c (case_end p i w e)) ∙ h) (sub (case_kid p i w)) not_at)
        (λ d. by_sooner _ _ (sym (ap ready_c (case_on p i w d)) ∙ h) (sub (case_kid p i w)) (cs (case_next p i w d)))

  found : (f i : ℕ) → i < f → Found i
  found zero i h = absurd (not-suc-le-zero h)
  found (suc f) i h =
      let ih : (m : ℕ) → m < i → Found m = λ m l. found f m (omega arith) in
      record {
        signals = λ w n. signal_at_lem i ih n w (signal_kind (kind_at p i) w.sorted);
        branches = λ w n. branch_at i ih n w;
        cases = λ w n. case_at i ih n w;
      }

pub place_unready : (p : Bytes) (i n : ℕ) → NodeOf is_signal p i → ready_s (signal_at p i) ≡ Some n → Unready p n
place_unready p i n w e = (found p (suc i) i (omega arith)).signals w n e
