-- No number is a binder's twice in the tree of a program whose shape is right.
-- Assumes nothing.
use Rattle.std.specs.Prelude.{if◌then◌else◌}
use mathlib.Core.Path.{◌≡◌, refl, sym, ap, subst, ◌∙◌}
use mathlib.Core.Bool.{Bool, true, false}
use Prim.Native.Nat.{ℕ, zero, suc, ◌+◌, ◌-◌, ◌≤◌, ◌<◌}
use native.Mathlib.Nat.{not-suc-le-zero}
use native.Mathlib.Omega.{arith}
use lib.Dec.{eqb}
use borrow.Author.Tests.{eqb-true, ne_eqb}
use Rattle.rules.specs.Bytes.{Bytes, first, ◌and◌, ◌or◌}
use Rattle.rules.specs.Layout.{kind_at, a_at, b_at, c_at, nodes}
use Rattle.rules.specs.Kinds.{row, is_signal, is_branch, is_case, fields_of}
use Rattle.rules.specs.Format.{length_wrong}
use Rattle.rules.specs.Shape.{is_child, shape_wrong}
use Rattle.rules.specs.Shaped.{NodeOf}
use Rattle.rules.specs.Tree.{Signal, Branches, Cases, below, signal_at, branches_at, cases_at, root}
use Rattle.rules.specs.Size.{is_cell}
use Rattle.rules.specs.Accepted.{Accepted}
use Rattle.rules.proofs.Nodes.{below_lt, below_ge, signal_input, signal_time}
use Rattle.rules.proofs.Kids.{Child}
use Rattle.rules.proofs.Signals.{ext_kid, ext_tree, delay_kid, delay_tree, let_kids, let_tree, switch_kids, switch_tree, group_kids, group_tree, until_kids, until_tree, branch_kid, branch_next, branch_end, branch_on, case_kid, case_next, case_end, case_on}
use Rattle.rules.proofs.ByKind.{SignalKind, is_input, is_time, is_ext, is_delay, is_let, is_switch, is_group, is_until, signal_kind, choose}
use Rattle.rules.proofs.Counting.{total}
use Rattle.rules.proofs.Weights.{of_child, of_children, whole, whole_law}
use Rattle.rules.proofs.Established.{root_signal}
use Rattle.rules.proofs.Once.{whole_once}
use Rattle.rules.proofs.Rooted.{some_node}
use Rattle.recalled.specs.Recall.{binds_s, binds_b, binds_c}

module _ (p : Bytes) (x : ℕ) where
  abbrev at : ℕ → ℕ
  at n = whole p (is_cell x) n

  at_kind : (n k : ℕ) → kind_at p n ≡ k → at n ≡ is_cell x n + of_children (fields_of k) p n (below n 0 (whole p (is_cell x)))
  at_kind n k e = whole_law p (is_cell x) n ∙ ap (λ (j : ℕ). is_cell x n + of_children (fields_of j) p n (below n 0 (whole p (is_cell x)))) e

  record Few (n : ℕ) : Type 0 where
    signals : NodeOf is_signal p n → binds_s x (signal_at p n) ≤ at n
    branches : NodeOf is_branch p n → binds_b x (branches_at p n) ≤ at n
    cases : NodeOf is_case p n → binds_c x (cases_at p n) ≤ at n

  module _ (n : ℕ) (ih : (m : ℕ) → m < n → Few m) where
    sub : {i : ℕ} → Child is_signal p n i → binds_s x (signal_at p i) ≤ below n 0 (whole p (is_cell x)) i
    sub {i} c = omega (arith, (ih i c.less).signals c.node, below_lt n 0 (whole p (is_cell x)) i c.less)

    brs : {i : ℕ} → Child is_branch p n i → binds_b x (branches_at p i) ≤ below n 0 (whole p (is_cell x)) i
    brs {i} c = omega (arith, (ih i c.less).branches c.node, below_lt n 0 (whole p (is_cell x)) i c.less)

    cs : {i : ℕ} → Child is_case p n i → binds_c x (cases_at p i) ≤ below n 0 (whole p (is_cell x)) i
    cs {i} c = omega (arith, (ih i c.less).cases c.node, below_lt n 0 (whole p (is_cell x)) i c.less)

    signal_at_lem : NodeOf is_signal p n → SignalKind (kind_at p n) → binds_s x (signal_at p n) ≤ at n
    unfolding binds_s of_children of_child is_child fields_of row ◌or◌ ◌and◌
    signal_at_lem w (is_input e) = omega (arith, ap (binds_s x) (signal_input p n e))
    signal_at_lem w (is_time e) = omega (arith, ap (binds_s x) (signal_time p n e))
    signal_at_lem w (is_ext e) = omega (arith, ap (binds_s x) (ext_tree p n w e))
    signal_at_lem w (is_delay e) = omega (arith, ap (binds_s x) (delay_tree p n w e), at_kind n 4 e, sub (delay_kid p n w e))
    signal_at_lem w (is_let e) =
        let k = let_kids p n w e in
        omega (arith, ap (binds_s x) (let_tree p n w e), at_kind n 5 e, sub k.0, sub k.1)
    signal_at_lem w (is_switch e) =
        let k = switch_kids p n w e in
        omega (arith, ap (binds_s x) (switch_tree p n w e), at_kind n 6 e, sub k.0, sub k.1, sub k.2)
    signal_at_lem w (is_group e) =
        let k = group_kids p n w e in
        omega (arith, ap (binds_s x) (group_tree p n w e), at_kind n 7 e, sub k.0, brs k.1)
    signal_at_lem w (is_until e) =
        let k = until_kids p n w e in
        omega (arith, ap (binds_s x) (until_tree p n w e), at_kind n 8 e, sub k.0, cs k.1)

    branch_at : NodeOf is_branch p n → binds_b x (branches_at p n) ≤ at n
    unfolding binds_s of_children of_child is_child fields_of row ◌or◌ is_branch
    branch_at w =
        let k = at_kind n 9 (eqb-true _ _ w.sorted) in
        choose (b_at p n) 65535
        (λ e. omega (arith, ap (binds_b x) (branch_end p n w e), sub (branch_kid p n w)))
        (λ d. omega (arith, ap (binds_b x) (branch_on p n w d), sub (branch_kid p n w), brs (branch_next p n w d)))

    case_at : NodeOf is_case p n → binds_c x (cases_at p n) ≤ at n
    unfolding binds_s of_children of_child is_child fields_of row ◌or◌ is_case
    case_at w =
        let k = at_kind n 10 (eqb-true _ _ w.sorted) in
        choose (b_at p n) 65535
        (λ e. omega (arith, ap (binds_c x) (case_end p n w e), sub (case_kid p n w)))
        (λ d. omega (arith, ap (binds_c x) (case_on p n w d), sub (case_kid p n w), cs (case_next p n w d)))

  few : (f n : ℕ) → n < f → Few n
  few zero n h = absurd (not-suc-le-zero h)
  few (suc f) n h =
      let ih : (m : ℕ) → m < n → Few m = λ m l. few f m (omega arith) in
      record {
        signals = λ w. signal_at_lem n ih w (signal_kind (kind_at p n) w.sorted);
        branches = branch_at n ih;
        cases = case_at n ih;
      }

-- A number is one of those below n at most once.
before : (x n : ℕ) → n ≤ x → total n (is_cell x) ≡ 0
unfolding total is_cell
before x zero h = refl
before x (suc n) h =
    let e : is_cell x n ≡ 0 = simp (ne_eqb n x (λ z. omega arith)) in
    omega (arith, before x n (omega arith))

lone : (x n : ℕ) → total n (is_cell x) ≤ 1
unfolding total is_cell
lone x zero = omega arith
lone x (suc n) =
    choose n x
    (λ e. let z : is_cell x n ≤ 1 = small (eqb n x) in omega (arith, before x n (omega arith)))
    (λ d. let z : is_cell x n ≡ 0 = simp (ne_eqb n x d) in omega (arith, lone x n))
  where
    small : (b : Bool) → ◌≤◌ (if b then 1 else 0) 1
    small true = omega arith
    small false = omega arith

pub binders_once : (p : Bytes) → Accepted p → (x : ℕ) → binds_s x (root p) ≤ 1
unfolding root
binders_once p a x =
    let l = a.formed.length_right in
    let e = a.shape_right in
    let h = some_node p a.formed in
    omega (arith, (few p x (suc (nodes p - 1)) (nodes p - 1) (omega arith)).signals (root_signal p l e h), whole_once p l e h (is_cell x), lone x (nodes p))
