-- Where every node below a bound keeps its own rule of types and every let below one is ready, the definitions find no fault of type or of
-- readiness there.
-- Assumes nothing.
use mathlib.Core.Path.{◌≡◌, sym, ap, subst, ◌∙◌}
use Prim.Native.Nat.{ℕ, zero, suc, ◌<◌}
use native.Mathlib.Nat.{not-suc-le-zero}
use native.Mathlib.Omega.{arith}
use borrow.Author.Tests.{eqb-true, eq-eqb}
use Rattle.rules.specs.Bytes.{Bytes}
use Rattle.rules.specs.Values.{is_plain}
use Rattle.rules.specs.Layout.{nodes, kind_at, a_at, b_at, c_at}
use Rattle.rules.specs.Kinds.{is_signal, is_expression, is_branch, is_case}
use Rattle.rules.specs.Operations.{operand_type, result_type}
use Rattle.rules.specs.Shaped.{NodeOf}
use Rattle.rules.specs.Tree.{Expr, Signal, Branches, Cases, expr_at, signal_at, branches_at, cases_at}
use Rattle.rules.specs.Typing.{type_e, type_s, types_e, types_s, types_b, types_c}
use Rattle.rules.specs.Ready.{needs_s, ready_s, ready_b, ready_c}
use Rattle.rules.proofs.Nodes.{expr_variable, expr_constant, signal_input, signal_time}
use Rattle.rules.proofs.Kids.{Child}
use Rattle.rules.proofs.Expressions.{negation_kid, negation_tree, just_kid, just_tree, choice_kids, choice_tree, taking_kids, taking_tree, operation_kids, operation_tree}
use Rattle.rules.proofs.Signals.{ext_kid, ext_tree, delay_kid, delay_tree, let_kids, let_tree, switch_kids, switch_tree, group_kids, group_tree, until_kids, until_tree, branch_kid, branch_next, branch_end, branch_on, case_kid, case_next, case_end, case_on}
use Rattle.rules.proofs.ByKind.{ExpressionKind, is_variable, is_constant, is_negation, is_choice, is_just, is_taking, is_operation, expression_kind, SignalKind, is_input, is_time, is_ext, is_delay, is_let, is_switch, is_group, is_until, signal_kind, choose}
use Rattle.declarative.specs.NeedsAt.{LetRight}
use Rattle.declarative.specs.HasType.{OneType, OwnTypeRight}
use Rattle.declarative.proofs.Free.{Free, free_nowhere, free_sooner, free_right, free_unbroken}
use Rattle.declarative.proofs.Joining.{and_true}
use Rattle.declarative.proofs.EachShape.{is_between}
use Rattle.declarative.proofs.FromTable.{takes}
use Rattle.declarative.proofs.Parents.{Table}
use Rattle.declarative.proofs.NeedsTable.{signal_needs}
use Rattle.declarative.proofs.TypeTable.{value_at_type, typed_e, typed_s}
use Rattle.declarative.proofs.TypesEach.{branch_node, each_bodies}

module _ (p : Bytes) (t : Table p) (β ρ : ℕ) (ty : (n : ℕ) → n < β → n < nodes p → OwnTypeRight p n)
    (rd : (n : ℕ) → n < ρ → n < nodes p → LetRight p n) where
  -- Two nodes of one type.
  same_e : (m n : ℕ) → NodeOf is_expression p m → NodeOf is_expression p n → OneType p m n → type_e (expr_at p m) ≡ type_e (expr_at p n)
  same_e m n v w o = typed_e p m o.type o.one v ∙ sym (typed_e p n o.type o.other w)

  -- The same for signals.
  same_s : (m n : ℕ) → NodeOf is_signal p m → NodeOf is_signal p n → OneType p m n → type_s (signal_at p m) ≡ type_s (signal_at p n)
  same_s m n v w o = typed_s p m o.type o.one v ∙ sym (typed_s p n o.type o.other w)

  -- An expression, given this for smaller ones.
  module _ (n : ℕ) (ih : (m : ℕ) → m < n → NodeOf is_expression p m → Free β (types_e (expr_at p m))) where
    kid : {m : ℕ} → Child is_expression p n m → Free β (types_e (expr_at p m))
    kid {m} c = ih m c.less c.node

    expr_at_lem : (w : NodeOf is_expression p n) → ExpressionKind (kind_at p n) → Free β (types_e (expr_at p n))
    unfolding types_e is_plain
    expr_at_lem w (is_variable e) = subst (λ (x : Expr). Free β (types_e x)) (sym (expr_variable p n e)) free_nowhere
    expr_at_lem w (is_constant e) = subst (λ (x : Expr). Free β (types_e x)) (sym (expr_constant p n e)) free_nowhere
    expr_at_lem w (is_negation e) =
        let k = negation_kid p n w e in
        subst (λ (x : Expr). Free β (types_e x)) (sym (negation_tree p n w e))
        (free_sooner (free_right _ n (λ i. eq-eqb _ _ (typed_e p (a_at p n) _ ((ty n i w.inside).negation e) k.node))) (kid k))
    expr_at_lem w (is_choice e) =
        let k = choice_kids p n w e in
        subst (λ (x : Expr). Free β (types_e x)) (sym (choice_tree p n w e))
        (free_sooner
        (free_right _ n (λ i.
        let r = (ty n i w.inside).choice e in
        and_true (eq-eqb _ _ (typed_e p (a_at p n) _ r.0 k.0.node))
        (eq-eqb _ _ (same_e (b_at p n) (c_at p n) k.1.node k.2.node r.1))))
        (free_sooner (kid k.0) (free_sooner (kid k.1) (kid k.2))))
    expr_at_lem w (is_just e) =
        let k = just_kid p n w e in
        subst (λ (x : Expr). Free β (types_e x)) (sym (just_tree p n w e))
        (free_sooner (free_right _ n (λ i.
        let r = (ty n i w.inside).just e in
        ap is_plain (typed_e p (a_at p n) _ r.has k.node) ∙ is_between 1 r.type 3 r.plain)) (kid k))
    expr_at_lem w (is_taking e) =
        let k = taking_kids p n w e in
        subst (λ (x : Expr). Free β (types_e x)) (sym (taking_tree p n w e))
        (free_sooner
        (free_right _ n (λ i.
        let r = (ty n i w.inside).taking e in
        and_true (eq-eqb _ _ (typed_e p (a_at p n) _ r.0 k.0.node))
        (eq-eqb _ _ (same_e (b_at p n) (c_at p n) k.1.node k.2.node r.1))))
        (free_sooner (kid k.0) (free_sooner (kid k.1) (kid k.2))))
    expr_at_lem w (is_operation o) =
        let k = operation_kids p n w o in
        subst (λ (x : Expr). Free β (types_e x)) (sym (operation_tree p n w o))
        (free_sooner
        (free_right _ n (λ i.
        let r = (ty n i w.inside).operation (operand_type (kind_at p n)) (result_type (kind_at p n)) (takes (kind_at p n) w.sorted o) in
        and_true (eq-eqb _ _ (typed_e p (a_at p n) _ r.0 k.0.node))
        (eq-eqb _ _ (typed_e p (b_at p n) _ r.1 k.1.node))))
        (free_sooner (kid k.0) (kid k.1)))

  expr_down : (g n : ℕ) → n < g → NodeOf is_expression p n → Free β (types_e (expr_at p n))
  expr_down zero n h w = absurd (not-suc-le-zero h)
  expr_down (suc g) n h w = expr_at_lem n (λ m l. expr_down g m (omega arith)) w (expression_kind (kind_at p n))

  -- What is to be shown of a signal, of a branch and of a case.
  abbrev S : Signal → Type 0
  S x = Free β (types_s x) × Free ρ (ready_s x)

  abbrev B : Branches → Type 0
  B x = Free β (types_b x) × Free ρ (ready_b x)

  abbrev C : Cases → Type 0
  C x = Free β (types_c x) × Free ρ (ready_c x)

  record DownAt (n : ℕ) : Type 0 where
    signals : NodeOf is_signal p n → S (signal_at p n)
    branches : NodeOf is_branch p n → B (branches_at p n)
    cases : NodeOf is_case p n → C (cases_at p n)

  -- Given it for smaller ones.
  module _ (n : ℕ) (ih : (m : ℕ) → m < n → DownAt m) where
    sub : {m : ℕ} → Child is_signal p n m → S (signal_at p m)
    sub {m} c = (ih m c.less).signals c.node

    -- A child that is a branch,
    brs : {m : ℕ} → Child is_branch p n m → B (branches_at p m)
    brs {m} c = (ih m c.less).branches c.node

    -- and one that is a case.
    cs : {m : ℕ} → Child is_case p n m → C (cases_at p m)
    cs {m} c = (ih m c.less).cases c.node

    -- A signal, by its kind.
    signal_at_lem : (w : NodeOf is_signal p n) → SignalKind (kind_at p n) → S (signal_at p n)
    unfolding types_s ready_s
    signal_at_lem w (is_input e) = subst S (sym (signal_input p n e)) (free_nowhere, free_nowhere)
    signal_at_lem w (is_time e) = subst S (sym (signal_time p n e)) (free_nowhere, free_nowhere)
    signal_at_lem w (is_ext e) =
        subst S (sym (ext_tree p n w e)) (expr_down (suc (a_at p n)) (a_at p n) (omega arith) (ext_kid p n w e).node, free_nowhere)
    signal_at_lem w (is_delay e) =
        let k = delay_kid p n w e in
        let a = sub k in
        subst S (sym (delay_tree p n w e)) (
          free_sooner (free_right _ n (λ i.
              eq-eqb _ _ (typed_s p (a_at p n) _ ((ty n i w.inside).delay e) k.node ∙ sym (value_at_type p n)))) a.0,
          a.1,
        )
    signal_at_lem w (is_let e) =
        let k = let_kids p n w e in
        let a = sub k.0 in
        let b = sub k.1 in
        let ready = free_unbroken (needs_s n (signal_at p (a_at p n))) n
        (λ i h. (rd n i w.inside).ready e (signal_needs p t n (a_at p n) k.0.node h)) in
        subst S (sym (let_tree p n w e)) (
          free_sooner (free_right _ n (λ i. eq-eqb _ _ (typed_s p (a_at p n) _ ((ty n i w.inside).definition e) k.0.node))) (free_sooner a.0 b.0),
          free_sooner ready (free_sooner a.1 b.1),
        )
    signal_at_lem w (is_switch e) =
        let k = switch_kids p n w e in
        let a = sub k.0 in
        let b = sub k.1 in
        let c = sub k.2 in
        subst S (sym (switch_tree p n w e)) (
          free_sooner (free_right _ n (λ i.
              let r = (ty n i w.inside).switch e in
              and_true (eq-eqb _ _ (typed_s p (b_at p n) _ r.0 k.1.node))
              (eq-eqb _ _ (same_s (a_at p n) (c_at p n) k.0.node k.2.node r.1)))) (free_sooner a.0 (free_sooner b.0 c.0)),
          free_sooner a.1 (free_sooner b.1 c.1),
        )
    signal_at_lem w (is_group e) =
        let k = group_kids p n w e in
        let a = sub k.0 in
        let b = brs k.1 in
        subst S (sym (group_tree p n w e)) (
          free_sooner (free_right _ n (λ i.
              each_bodies p (type_s (signal_at p (a_at p n))) (b_at p n) k.1.node λ j h.
              sym (same_s (a_at p n) (a_at p j) k.0.node (branch_kid p j (branch_node p j (b_at p n) k.1.node h)).node
              ((ty n i w.inside).group e j h)))) (free_sooner a.0 b.0),
          free_sooner a.1 b.1,
        )
    signal_at_lem w (is_until e) =
        let k = until_kids p n w e in
        let a = sub k.0 in
        let b = cs k.1 in
        subst S (sym (until_tree p n w e)) (free_sooner a.0 b.0, free_sooner a.1 b.1)

    -- A branch, with or without a next.
    branch_at : (w : NodeOf is_branch p n) → B (branches_at p n)
    unfolding types_s ready_s
    branch_at w =
        let a = sub (branch_kid p n w) in
        choose (b_at p n) 65535
        (λ q. subst B (sym (branch_end p n w q)) (free_sooner a.0 free_nowhere, free_sooner a.1 free_nowhere))
        (λ d. let b = brs (branch_next p n w d) in
        subst B (sym (branch_on p n w d)) (free_sooner a.0 b.0, free_sooner a.1 b.1))

    -- A case, with or without a next.
    case_at : (w : NodeOf is_case p n) → kind_at p n ≡ 10 → C (cases_at p n)
    unfolding types_s ready_s
    case_at w e =
        let k = case_kid p n w in
        let a = sub k in
        let own = free_right _ n (λ i. eq-eqb _ _ (typed_s p (a_at p n) _ ((ty n i w.inside).case e) k.node)) in
        choose (b_at p n) 65535
        (λ q. subst C (sym (case_end p n w q)) (free_sooner own (free_sooner a.0 free_nowhere), free_sooner a.1 free_nowhere))
        (λ d. let b = cs (case_next p n w d) in
        subst C (sym (case_on p n w d)) (free_sooner own (free_sooner a.0 b.0), free_sooner a.1 b.1))

  -- Every signal, branch and case.
  down_at : (g n : ℕ) → n < g → DownAt n
  unfolding is_case
  down_at zero n h = absurd (not-suc-le-zero h)
  down_at (suc g) n h =
      let ih : (m : ℕ) → m < n → DownAt m = λ m l. down_at g m (omega arith) in
      record {
        signals = λ w. signal_at_lem n ih w (signal_kind (kind_at p n) w.sorted);
        branches = branch_at n ih;
        cases = λ w. case_at n ih w (eqb-true _ _ w.sorted);
      }

-- The tree at a signal.
pub types_down : (p : Bytes) → Table p → (β ρ : ℕ) → ((n : ℕ) → n < β → n < nodes p → OwnTypeRight p n)
    → ((n : ℕ) → n < ρ → n < nodes p → LetRight p n) → (n : ℕ) → NodeOf is_signal p n
    → Free β (types_s (signal_at p n)) × Free ρ (ready_s (signal_at p n))
types_down p t β ρ ty rd n w = (down_at p t β ρ ty rd (suc n) n (omega arith)).signals w
