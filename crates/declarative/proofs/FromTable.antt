-- The tree that is read off a shaped table carries what the table declares.
-- Assumes nothing.
use mathlib.Core.Path.{◌≡◌, refl, sym, subst}
use mathlib.Core.Bool.{Bool, true, false}
use Prim.Native.Nat.{ℕ, zero, suc, ◌≤◌, ◌<◌}
use native.Mathlib.Nat.{not-suc-le-zero}
use native.Mathlib.Omega.{arith}
use lib.Dec.{leb}
use borrow.Author.Tests.{leb-true, leb-false, le-leb, lt-leb, ne_eqb}
use Rattle.rules.specs.Bytes.{Bytes}
use Rattle.rules.specs.Layout.{kind_at, type_at, a_at, b_at}
use Rattle.rules.specs.Operations.{operand_type, result_type}
use Rattle.rules.specs.Kinds.{is_signal, is_expression, is_branch, is_case}
use Rattle.rules.specs.Shaped.{NodeOf}
use Rattle.rules.specs.Tree.{Expr, Signal, Branches, Cases, expr_at, signal_at, branches_at, cases_at}
use Rattle.rules.proofs.Static.{and_both}
use Rattle.rules.proofs.Nodes.{expr_variable, expr_constant, signal_input, signal_time}
use Rattle.rules.proofs.Kids.{Child}
use Rattle.rules.proofs.Expressions.{IsOperation, negation_kid, negation_tree, just_kid, just_tree, choice_kids, choice_tree, taking_kids, taking_tree, operation_kids, operation_tree}
use Rattle.rules.proofs.Signals.{ext_kid, ext_tree, delay_kid, delay_tree, let_kids, let_tree, switch_kids, switch_tree, group_kids, group_tree, until_kids, until_tree, branch_kid, branch_next, branch_end, branch_on, case_kid, case_next, case_end, case_on}
use Rattle.rules.proofs.ByKind.{ExpressionKind, is_variable, is_constant, is_negation, is_choice, is_just, is_taking, is_operation, expression_kind, SignalKind, is_input, is_time, is_ext, is_delay, is_let, is_switch, is_group, is_until, signal_kind, choose}
use Rattle.declarative.specs.TypedE.{Takes, number, quotient, comparison, logical}
use Rattle.declarative.proofs.Declares.{Binder, DeclaresE, DeclaresS, DeclaresB, DeclaresC}

-- The kinds of operation: what each takes and gives.
pub takes : (k : ℕ) → is_expression k ≡ true → IsOperation k → Takes k (operand_type k) (result_type k)
unfolding is_expression operand_type result_type
takes k h o =
    let b = and_both _ _ h in
    let l = leb-true 16 k b.0 in
    let u = leb-true k 29 b.1 in
    let l18 : 18 ≤ k = omega (arith, o.no16, o.no17) in
    let u26 : k ≤ 26 = omega (arith, o.no27, o.no28, o.no29) in
    low l18 u26 (leb k 20) refl
  where
    high : 21 ≤ k → k ≤ 26 → (k ≡ 21 → ⊥) → (b : Bool) → leb k 23 ≡ b → Takes k (operand_type k) (result_type k)
    high l u d true e = rw (e, lt-leb k 20 l, ne_eqb k 21 d) (comparison {k = k} (omega (arith, d)) (leb-true k 23 e))
    high l u d false e =
        rw (e, lt-leb k 20 l, ne_eqb k 21 d) (logical {k = k} (let z = leb-false k 23 e in omega (arith, o.no24)) u)

    low : 18 ≤ k → k ≤ 26 → (b : Bool) → leb k 20 ≡ b → Takes k (operand_type k) (result_type k)
    low l u true e = let z = leb-true k 20 e in rw (e, le-leb k 23 (omega arith)) (number {k = k} l z)
    low l u false e =
        let z = leb-false k 20 e in
        choose k 21 (λ q. subst (λ (m : ℕ). Takes m (operand_type m) (result_type m)) (sym q) quotient) (λ d. high z u d (leb k 23) refl)

-- A binder of a shaped program.
binder_at : {sort : ℕ → Bool} (p : Bytes) (n : ℕ) → NodeOf sort p n → Binder (type_at p) n (type_at p n)
binder_at p n w = record { inside = omega (arith, w.inside, w.shaped.small); declared = refl }

module _ (p : Bytes) where
  -- What the tree at an expression, a signal, a branch or a case is to meet.
  abbrev E : Expr → Type 0
  E x = DeclaresE (type_at p) x

  abbrev S : Signal → Type 0
  S x = DeclaresS (type_at p) x

  abbrev B : Branches → Type 0
  B x = DeclaresB (type_at p) x

  abbrev C : Cases → Type 0
  C x = DeclaresC (type_at p) x

  -- An expression, given this for smaller ones.
  module _ (n : ℕ) (ih : (m : ℕ) → m < n → NodeOf is_expression p m → E (expr_at p m)) where
    kid : {x : ℕ} → Child is_expression p n x → E (expr_at p x)
    kid {x} c = ih x c.less c.node

    -- By its kind.
    expr_at_lem : NodeOf is_expression p n → ExpressionKind (kind_at p n) → E (expr_at p n)
    expr_at_lem w (is_variable e) = subst E (sym (expr_variable p n e)) refl
    expr_at_lem w (is_constant e) = subst E (sym (expr_constant p n e)) tt
    expr_at_lem w (is_negation e) = subst E (sym (negation_tree p n w e)) (kid (negation_kid p n w e))
    expr_at_lem w (is_choice e) =
        let k = choice_kids p n w e in
        subst E (sym (choice_tree p n w e)) (kid k.0, kid k.1, kid k.2)
    expr_at_lem w (is_just e) = subst E (sym (just_tree p n w e)) (kid (just_kid p n w e))
    expr_at_lem w (is_taking e) =
        let k = taking_kids p n w e in
        subst E (sym (taking_tree p n w e)) (binder_at p n w, kid k.0, kid k.1, kid k.2)
    expr_at_lem w (is_operation o) =
        let k = operation_kids p n w o in
        subst E (sym (operation_tree p n w o)) (takes (kind_at p n) w.sorted o, kid k.0, kid k.1)

  -- Every expression.
  expr_declares : (g n : ℕ) → n < g → NodeOf is_expression p n → E (expr_at p n)
  expr_declares zero n h w = absurd (not-suc-le-zero h)
  expr_declares (suc g) n h w = expr_at_lem n (λ m l. expr_declares g m (omega arith)) w (expression_kind (kind_at p n))

  -- A signal, a branch and a case, given this for smaller ones.
  record DeclaresAt (n : ℕ) : Type 0 where
    signals : NodeOf is_signal p n → S (signal_at p n)
    branches : NodeOf is_branch p n → B (branches_at p n)
    cases : NodeOf is_case p n → C (cases_at p n)

  module _ (n : ℕ) (ih : (m : ℕ) → m < n → DeclaresAt m) where
    sub : {x : ℕ} → Child is_signal p n x → S (signal_at p x)
    sub {x} c = (ih x c.less).signals c.node

    -- A child that is a branch,
    brs : {x : ℕ} → Child is_branch p n x → B (branches_at p x)
    brs {x} c = (ih x c.less).branches c.node

    -- and one that is a case.
    cs : {x : ℕ} → Child is_case p n x → C (cases_at p x)
    cs {x} c = (ih x c.less).cases c.node

    -- A signal, by its kind.
    signal_at_lem : NodeOf is_signal p n → SignalKind (kind_at p n) → S (signal_at p n)
    signal_at_lem w (is_input e) = subst S (sym (signal_input p n e)) tt
    signal_at_lem w (is_time e) = subst S (sym (signal_time p n e)) tt
    signal_at_lem w (is_ext e) =
        let k = ext_kid p n w e in
        subst S (sym (ext_tree p n w e)) (expr_declares (suc (a_at p n)) (a_at p n) (omega arith) k.node)
    signal_at_lem w (is_delay e) = subst S (sym (delay_tree p n w e)) (sub (delay_kid p n w e))
    signal_at_lem w (is_let e) =
        let k = let_kids p n w e in
        subst S (sym (let_tree p n w e)) (binder_at p n w, sub k.0, sub k.1)
    signal_at_lem w (is_switch e) =
        let k = switch_kids p n w e in
        subst S (sym (switch_tree p n w e)) (binder_at p n w, sub k.0, sub k.1, sub k.2)
    signal_at_lem w (is_group e) =
        let k = group_kids p n w e in
        subst S (sym (group_tree p n w e)) (sub k.0, brs k.1)
    signal_at_lem w (is_until e) =
        let k = until_kids p n w e in
        subst S (sym (until_tree p n w e)) (sub k.0, cs k.1)

    -- A branch, with or without a next.
    branch_at : NodeOf is_branch p n → B (branches_at p n)
    branch_at w =
        let body = sub (branch_kid p n w) in
        choose (b_at p n) 65535
        (λ e. subst B (sym (branch_end p n w e)) (binder_at p n w, body, tt))
        (λ d. subst B (sym (branch_on p n w d)) (binder_at p n w, body, brs (branch_next p n w d)))

    -- A case, with or without a next.
    case_at : NodeOf is_case p n → C (cases_at p n)
    case_at w =
        let event = sub (case_kid p n w) in
        choose (b_at p n) 65535
        (λ e. subst C (sym (case_end p n w e)) (refl, event, tt))
        (λ d. subst C (sym (case_on p n w d)) (refl, event, cs (case_next p n w d)))

  -- Every signal, branch and case.
  declares_at : (g n : ℕ) → n < g → DeclaresAt n
  declares_at zero n h = absurd (not-suc-le-zero h)
  declares_at (suc g) n h =
      let ih : (m : ℕ) → m < n → DeclaresAt m = λ m l. declares_at g m (omega arith) in
      record {
        signals = λ w. signal_at_lem n ih w (signal_kind (kind_at p n) w.sorted);
        branches = branch_at n ih;
        cases = case_at n ih;
      }

-- The tree at a signal of a shaped program.
pub declared : (p : Bytes) (n : ℕ) → NodeOf is_signal p n → DeclaresS (type_at p) (signal_at p n)
declared p n w = (declares_at p (suc n) n (omega arith)).signals w
