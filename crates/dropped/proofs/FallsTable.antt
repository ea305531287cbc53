-- The numbers of an accepted program's tree fall on the way down.
-- Assumes nothing.
use mathlib.Core.Path.{sym, subst}
use Prim.Native.Nat.{ℕ, zero, suc, ◌-◌, ◌<◌}
use native.Mathlib.Nat.{not-suc-le-zero}
use native.Mathlib.Omega.{arith}
use Rattle.rules.specs.Bytes.{Bytes}
use Rattle.rules.specs.Layout.{nodes, kind_at, a_at, b_at}
use Rattle.rules.specs.Kinds.{is_signal, is_expression, is_branch, is_case}
use Rattle.rules.specs.Shaped.{NodeOf}
use Rattle.rules.specs.Accepted.{Accepted}
use Rattle.rules.specs.Tree.{expr_at, signal_at, branches_at, cases_at, root}
use Rattle.rules.proofs.Kids.{Child}
use Rattle.rules.proofs.Nodes.{expr_variable, expr_constant, signal_input, signal_time}
use Rattle.rules.proofs.Expressions.{negation_kid, negation_tree, just_kid, just_tree, choice_kids, choice_tree, taking_kids, taking_tree, operation_kids, operation_tree}
use Rattle.rules.proofs.Signals.{ext_kid, ext_tree, delay_kid, delay_tree, let_kids, let_tree, switch_kids, switch_tree, group_kids, group_tree, until_kids, until_tree, branch_kid, branch_next, branch_end, branch_on, case_kid, case_next, case_end, case_on}
use Rattle.rules.proofs.ByKind.{ExpressionKind, is_variable, is_constant, is_negation, is_choice, is_just, is_taking, is_operation, expression_kind, SignalKind, is_input, is_time, is_ext, is_delay, is_let, is_switch, is_group, is_until, signal_kind, choose}
use Rattle.rules.proofs.Rooted.{root_of}
use Rattle.dropped.specs.Falls.{FallsE, FallsS, FallsB, FallsC}

module _ (p : Bytes) where
  module _ (n : ℕ) (m : ℕ) (l : n < m) (ih : (x : ℕ) → x < n → NodeOf is_expression p x → FallsE n (expr_at p x)) where
    kid : {x : ℕ} → Child is_expression p n x → FallsE n (expr_at p x)
    kid {x} c = ih x c.less c.node

    expr_at_lem : NodeOf is_expression p n → ExpressionKind (kind_at p n) → FallsE m (expr_at p n)
    expr_at_lem w (is_variable e) = subst (FallsE m) (sym (expr_variable p n e)) tt
    expr_at_lem w (is_constant e) = subst (FallsE m) (sym (expr_constant p n e)) tt
    expr_at_lem w (is_negation e) = subst (FallsE m) (sym (negation_tree p n w e)) (l, kid (negation_kid p n w e))
    expr_at_lem w (is_choice e) =
        let k = choice_kids p n w e in
        subst (FallsE m) (sym (choice_tree p n w e)) (l, kid k.0, kid k.1, kid k.2)
    expr_at_lem w (is_just e) = subst (FallsE m) (sym (just_tree p n w e)) (l, kid (just_kid p n w e))
    expr_at_lem w (is_taking e) =
        let k = taking_kids p n w e in
        subst (FallsE m) (sym (taking_tree p n w e)) (l, kid k.0, kid k.1, kid k.2)
    expr_at_lem w (is_operation o) =
        let k = operation_kids p n w o in
        subst (FallsE m) (sym (operation_tree p n w o)) (l, kid k.0, kid k.1)

  expr_falls : (g n m : ℕ) → n < g → n < m → NodeOf is_expression p n → FallsE m (expr_at p n)
  expr_falls zero n m h l w = absurd (not-suc-le-zero h)
  expr_falls (suc g) n m h l w = expr_at_lem n m l (λ x i v. expr_falls g x n (omega arith) i v) w (expression_kind (kind_at p n))

  record FallsAt (n : ℕ) : Type 0 where
    signals : (m : ℕ) → n < m → NodeOf is_signal p n → FallsS m (signal_at p n)
    branches : (m : ℕ) → n < m → NodeOf is_branch p n → FallsB m (branches_at p n)
    cases : (m : ℕ) → n < m → NodeOf is_case p n → FallsC m (cases_at p n)

  module _ (n : ℕ) (ih : (x : ℕ) → x < n → FallsAt x) (m : ℕ) (l : n < m) where
    sub : {x : ℕ} → Child is_signal p n x → FallsS n (signal_at p x)
    sub {x} c = (ih x c.less).signals n c.less c.node

    brs : {x : ℕ} → Child is_branch p n x → FallsB n (branches_at p x)
    brs {x} c = (ih x c.less).branches n c.less c.node

    cs : {x : ℕ} → Child is_case p n x → FallsC n (cases_at p x)
    cs {x} c = (ih x c.less).cases n c.less c.node

    signal_at_lem : NodeOf is_signal p n → SignalKind (kind_at p n) → FallsS m (signal_at p n)
    signal_at_lem w (is_input e) = subst (FallsS m) (sym (signal_input p n e)) tt
    signal_at_lem w (is_time e) = subst (FallsS m) (sym (signal_time p n e)) tt
    signal_at_lem w (is_ext e) =
        let k = ext_kid p n w e in
        subst (FallsS m) (sym (ext_tree p n w e)) (l, expr_falls (suc (a_at p n)) (a_at p n) n (omega arith) k.less k.node)
    signal_at_lem w (is_delay e) = subst (FallsS m) (sym (delay_tree p n w e)) (l, sub (delay_kid p n w e))
    signal_at_lem w (is_let e) =
        let k = let_kids p n w e in
        subst (FallsS m) (sym (let_tree p n w e)) (l, sub k.0, sub k.1)
    signal_at_lem w (is_switch e) =
        let k = switch_kids p n w e in
        subst (FallsS m) (sym (switch_tree p n w e)) (l, sub k.0, sub k.1, sub k.2)
    signal_at_lem w (is_group e) =
        let k = group_kids p n w e in
        subst (FallsS m) (sym (group_tree p n w e)) (l, sub k.0, brs k.1)
    signal_at_lem w (is_until e) =
        let k = until_kids p n w e in
        subst (FallsS m) (sym (until_tree p n w e)) (l, sub k.0, cs k.1)

    branch_at : NodeOf is_branch p n → FallsB m (branches_at p n)
    branch_at w =
        let body = sub (branch_kid p n w) in
        choose (b_at p n) 65535
        (λ e. subst (FallsB m) (sym (branch_end p n w e)) (l, body, tt))
        (λ d. subst (FallsB m) (sym (branch_on p n w d)) (l, body, brs (branch_next p n w d)))

    case_at : NodeOf is_case p n → FallsC m (cases_at p n)
    case_at w =
        let event = sub (case_kid p n w) in
        choose (b_at p n) 65535
        (λ e. subst (FallsC m) (sym (case_end p n w e)) (l, event, tt))
        (λ d. subst (FallsC m) (sym (case_on p n w d)) (l, event, cs (case_next p n w d)))

  falls_at : (g n : ℕ) → n < g → FallsAt n
  falls_at zero n h = absurd (not-suc-le-zero h)
  falls_at (suc g) n h =
      let ih : (x : ℕ) → x < n → FallsAt x = λ x i. falls_at g x (omega arith) in
      record {
        signals = λ m l w. signal_at_lem n ih m l w (signal_kind (kind_at p n) w.sorted);
        branches = λ m l w. branch_at n ih m l w;
        cases = λ m l w. case_at n ih m l w;
      }

pub root_falls : (p : Bytes) → Accepted p → FallsS (suc (nodes p - 1)) (root p)
unfolding root
root_falls p a = (falls_at p (suc (nodes p - 1)) (nodes p - 1) (omega arith)).signals _ (omega arith) (root_of p a)
