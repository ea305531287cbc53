-- A node's type by document 01's sentences is its tree's type by the definition: it is that one, and a tree without fault below a bound, above its own number,
-- has it.
-- Assumes nothing.
use Rattle.std.specs.Prelude.{if◌then◌else◌}
use mathlib.Core.Path.{◌≡◌, refl, sym, ap, subst, ◌∙◌}
use mathlib.Core.Bool.{Bool, true, false}
use Prim.Native.Nat.{ℕ, zero, suc, ◌≤◌, ◌<◌}
use native.Mathlib.Nat.{not-suc-le-zero}
use native.Mathlib.Omega.{arith}
use lib.Dec.{eqb}
use borrow.Author.Tests.{leb-true}
use Rattle.rules.specs.Bytes.{Bytes, ◌and◌}
use Rattle.rules.specs.Values.{is_plain, type_of, value_from}
use Rattle.rules.specs.Layout.{kind_at, type_at, a_at, b_at, word_at}
use Rattle.rules.specs.Kinds.{is_signal, is_expression}
use Rattle.rules.specs.Shaped.{NodeOf}
use Rattle.rules.specs.Tree.{Expr, Signal, expr_at, signal_at, value_at}
use Rattle.rules.specs.Typing.{just_type, type_e, type_s, types_e, types_s}
use Rattle.rules.specs.declared.Value.TheVariants.{Plain, Absent, Present}
use Rattle.rules.proofs.Static.{and_both, not_both}
use Rattle.rules.proofs.Nodes.{expr_variable, expr_constant, signal_input, signal_time}
use Rattle.rules.proofs.Kids.{Child}
use Rattle.rules.proofs.Expressions.{IsOperation, negation_tree, just_kid, just_tree, choice_kids, choice_tree, taking_kids, taking_tree, operation_tree}
use Rattle.rules.proofs.Signals.{ext_kid, ext_tree, delay_kid, delay_tree, let_kids, let_tree, switch_kids, switch_tree, group_kids, group_tree, until_kids, until_tree}
use Rattle.rules.proofs.ByKind.{ExpressionKind, is_variable, is_constant, is_negation, is_choice, is_just, is_taking, is_operation, expression_kind, SignalKind, is_input, is_time, is_ext, is_delay, is_let, is_switch, is_group, is_until, signal_kind}
use Rattle.declarative.specs.TypedE.{Takes, number, quotient, comparison, logical}
use Rattle.declarative.specs.HasType.{HasType, input_type, time_type, ext_type, delay_type, let_type, switch_type, group_type, until_type, variable_type, constant_type, operation_type, not_type, if_type, just_typed, take_type}
use Rattle.declarative.proofs.Free.{Free, free_both, free_holds}
use Rattle.declarative.proofs.EachShape.{between, is_between}
use Rattle.declarative.proofs.TypingE.{takes_result, just_plain}
use Rattle.declarative.proofs.FromTable.{takes}

-- The kinds that take operands.
pub takes_least : {k g h : ℕ} → Takes k g h → 18 ≤ k
takes_least (number l u) = l
takes_least quotient = omega arith
takes_least (comparison l u) = omega arith
takes_least (logical l u) = omega arith

-- The kinds 18-26 but 24.
operation_kind : (k : ℕ) → 18 ≤ k → k ≤ 26 → (k ≡ 24 → ⊥) → IsOperation k
operation_kind k l u d = record {
  no16 = λ e. omega arith;
  no17 = λ e. omega arith;
  no24 = d;
  no27 = λ e. omega arith;
  no28 = λ e. omega arith;
  no29 = λ e. omega arith;
}

-- So they are operations.
pub takes_operation : {k g h : ℕ} → Takes k g h → IsOperation k
takes_operation (number {k = k} l u) = operation_kind k l (omega arith) (λ e. omega arith)
takes_operation quotient = operation_kind 21 (omega arith) (omega arith) (λ e. omega arith)
takes_operation (comparison {k = k} l u) = operation_kind k (omega arith) (omega arith) (λ e. omega arith)
takes_operation (logical {k = k} l u) = operation_kind k (omega arith) u (λ e. omega arith)

-- They are expressions.
pub takes_expression : {k g h : ℕ} → Takes k g h → is_expression k ≡ true
unfolding is_expression
takes_expression (number {k = k} l u) = is_between 16 k 29 (omega arith, omega arith)
takes_expression quotient = is_between 16 21 29 (omega arith, omega arith)
takes_expression (comparison {k = k} l u) = is_between 16 k 29 (omega arith, omega arith)
takes_expression (logical {k = k} l u) = is_between 16 k 29 (omega arith, omega arith)

-- The type of a delay's first value and of a constant is the node's.
value_type : (t b w : ℕ) → type_of (value_from t b w) ≡ t
unfolding type_of value_from
value_type t b w = go (is_plain t) (eqb b 0)
  where
    go : (q r : Bool) → type_of (if q then Plain t w else if r then Absent t else Present t w) ≡ t
    go true r = refl
    go false true = refl
    go false false = refl

-- The same, read off the table.
pub value_at_type : (p : Bytes) (n : ℕ) → type_of (value_at p n) ≡ type_at p n
unfolding value_at
value_at_type p n = value_type (type_at p n) (b_at p n) (word_at p n)

-- A kind that is not of the sort.
other : {A : Type 0} (sort : ℕ → Bool) (p : Bytes) (n k : ℕ) → kind_at p n ≡ k → sort k ≡ false → NodeOf sort p n → A
other sort p n k e f w = absurd (not_both (sym f ∙ ap sort (sym e) ∙ w.sorted))

-- No signal takes operands.
not_operation : (k : ℕ) → 18 ≤ k → is_signal k ≡ true → ⊥
unfolding is_signal
not_operation k l h = let u = leb-true k 8 (and_both _ _ h).1 in omega arith

module _ (p : Bytes) where
  -- An expression has no other type.
  pub typed_e : (n t : ℕ) → HasType p n t → NodeOf is_expression p n → type_e (expr_at p n) ≡ t
  unfolding type_e is_expression ◌and◌ is_plain
  typed_e n t (input_type k e) w = other is_expression p n 1 k refl w
  typed_e n t (time_type k e) w = other is_expression p n 2 k refl w
  typed_e n t (ext_type k h) w = other is_expression p n 3 k refl w
  typed_e n t (delay_type k h) w = other is_expression p n 4 k refl w
  typed_e n t (let_type k h) w = other is_expression p n 5 k refl w
  typed_e n t (switch_type k h) w = other is_expression p n 6 k refl w
  typed_e n t (group_type k h) w = other is_expression p n 7 k refl w
  typed_e n t (until_type k h) w = other is_expression p n 8 k refl w
  typed_e n t (variable_type k e) w = ap type_e (expr_variable p n k) ∙ e
  typed_e n t (constant_type k e) w = ap type_e (expr_constant p n k) ∙ value_at_type p n ∙ e
  typed_e n t (operation_type h) w = ap type_e (operation_tree p n w (takes_operation h)) ∙ takes_result h
  typed_e n t (not_type k e) w = ap type_e (negation_tree p n w k) ∙ e
  typed_e n t (if_type k h) w = ap type_e (choice_tree p n w k) ∙ typed_e (b_at p n) t h (choice_kids p n w k).1.node
  typed_e n t (just_typed {g = g} k h q e) w =
      let z = typed_e (a_at p n) g h (just_kid p n w k).node in
      ap type_e (just_tree p n w k) ∙ ap just_type z ∙ just_plain g (is_between 1 g 3 q) ∙ e
  typed_e n t (take_type k h) w = ap type_e (taking_tree p n w k) ∙ typed_e (b_at p n) t h (taking_kids p n w k).1.node

  -- Nor has a signal.
  pub typed_s : (n t : ℕ) → HasType p n t → NodeOf is_signal p n → type_s (signal_at p n) ≡ t
  unfolding type_s is_signal ◌and◌
  typed_s n t (input_type k e) w = ap type_s (signal_input p n k) ∙ e
  typed_s n t (time_type k e) w = ap type_s (signal_time p n k) ∙ e
  typed_s n t (ext_type k h) w = ap type_s (ext_tree p n w k) ∙ typed_e (a_at p n) t h (ext_kid p n w k).node
  typed_s n t (delay_type k h) w = ap type_s (delay_tree p n w k) ∙ typed_s (a_at p n) t h (delay_kid p n w k).node
  typed_s n t (let_type k h) w = ap type_s (let_tree p n w k) ∙ typed_s (b_at p n) t h (let_kids p n w k).1.node
  typed_s n t (switch_type k h) w = ap type_s (switch_tree p n w k) ∙ typed_s (a_at p n) t h (switch_kids p n w k).0.node
  typed_s n t (group_type k h) w = ap type_s (group_tree p n w k) ∙ typed_s (a_at p n) t h (group_kids p n w k).0.node
  typed_s n t (until_type k h) w = ap type_s (until_tree p n w k) ∙ typed_s (a_at p n) t h (until_kids p n w k).0.node
  typed_s n t (variable_type k e) w = other is_signal p n 16 k refl w
  typed_s n t (constant_type k e) w = other is_signal p n 17 k refl w
  typed_s n t (operation_type h) w = absurd (not_operation (kind_at p n) (takes_least h) w.sorted)
  typed_s n t (not_type k e) w = other is_signal p n 24 k refl w
  typed_s n t (if_type k h) w = other is_signal p n 27 k refl w
  typed_s n t (just_typed k h q e) w = other is_signal p n 28 k refl w
  typed_s n t (take_type k h) w = other is_signal p n 29 k refl w

  -- An expression without fault has its type.
  module _ (β n : ℕ) (i : n < β)
      (ih : (m : ℕ) → m < n → NodeOf is_expression p m → Free β (types_e (expr_at p m)) → HasType p m (type_e (expr_at p m))) where
    kid : {m : ℕ} → Child is_expression p n m → Free β (types_e (expr_at p m)) → HasType p m (type_e (expr_at p m))
    kid {m} c h = ih m c.less c.node h

    expr_at_lem : (w : NodeOf is_expression p n) → ExpressionKind (kind_at p n) → Free β (types_e (expr_at p n)) → HasType p n (type_e (expr_at p n))
    unfolding type_e types_e is_plain
    expr_at_lem w (is_variable e) h = variable_type e (sym (ap type_e (expr_variable p n e)))
    expr_at_lem w (is_constant e) h = constant_type e (sym (ap type_e (expr_constant p n e) ∙ value_at_type p n))
    expr_at_lem w (is_negation e) h = not_type e (sym (ap type_e (negation_tree p n w e)))
    expr_at_lem w (is_choice e) h =
        let q = free_both _ _ (free_both _ _ (free_both _ _ (subst (λ (x : Expr). Free β (types_e x)) (choice_tree p n w e) h)).1).1 in
        subst (HasType p n) (sym (ap type_e (choice_tree p n w e))) (if_type e (kid (choice_kids p n w e).1 q.0))
    expr_at_lem w (is_just e) h =
        let q = free_both _ _ (subst (λ (x : Expr). Free β (types_e x)) (just_tree p n w e) h) in
        let z = free_holds _ _ i q.0 in
        just_typed e (kid (just_kid p n w e) q.1) (between 1 _ 3 z) (sym (ap type_e (just_tree p n w e) ∙ just_plain _ z))
    expr_at_lem w (is_taking e) h =
        let q = free_both _ _ (free_both _ _ (free_both _ _ (subst (λ (x : Expr). Free β (types_e x)) (taking_tree p n w e) h)).1).1 in
        subst (HasType p n) (sym (ap type_e (taking_tree p n w e))) (take_type e (kid (taking_kids p n w e).1 q.0))
    expr_at_lem w (is_operation o) h =
        subst (HasType p n) (sym (ap type_e (operation_tree p n w o))) (operation_type (takes (kind_at p n) w.sorted o))

  expr_has : (β g n : ℕ) → n < g → n < β → NodeOf is_expression p n → Free β (types_e (expr_at p n)) → HasType p n (type_e (expr_at p n))
  expr_has β zero n l i w h = absurd (not-suc-le-zero l)
  expr_has β (suc g) n l i w h = expr_at_lem β n i (λ m j. expr_has β g m (omega arith) (omega arith)) w (expression_kind (kind_at p n)) h

  pub has_type_e : (β n : ℕ) → n < β → NodeOf is_expression p n → Free β (types_e (expr_at p n)) → HasType p n (type_e (expr_at p n))
  has_type_e β n i w h = expr_has β (suc n) n (omega arith) i w h

  -- So has a signal.
  module _ (β n : ℕ) (i : n < β)
      (ih : (m : ℕ) → m < n → NodeOf is_signal p m → Free β (types_s (signal_at p m)) → HasType p m (type_s (signal_at p m))) where
    sub : {m : ℕ} → Child is_signal p n m → Free β (types_s (signal_at p m)) → HasType p m (type_s (signal_at p m))
    sub {m} c h = ih m c.less c.node h

    signal_at_lem : (w : NodeOf is_signal p n) → SignalKind (kind_at p n) → Free β (types_s (signal_at p n)) → HasType p n (type_s (signal_at p n))
    unfolding type_s types_s
    signal_at_lem w (is_input e) h = input_type e (sym (ap type_s (signal_input p n e)))
    signal_at_lem w (is_time e) h = time_type e (sym (ap type_s (signal_time p n e)))
    signal_at_lem w (is_ext e) h =
        subst (HasType p n) (sym (ap type_s (ext_tree p n w e)))
        (ext_type e (has_type_e β (a_at p n) (omega (arith, (ext_kid p n w e).less)) (ext_kid p n w e).node (subst (λ (x : Signal). Free β (types_s x)) (ext_tree p n w e) h)))
    signal_at_lem w (is_delay e) h =
        let q = free_both _ _ (subst (λ (x : Signal). Free β (types_s x)) (delay_tree p n w e) h) in
        subst (HasType p n) (sym (ap type_s (delay_tree p n w e))) (delay_type e (sub (delay_kid p n w e) q.1))
    signal_at_lem w (is_let e) h =
        let q = free_both _ _ (free_both _ _ (subst (λ (x : Signal). Free β (types_s x)) (let_tree p n w e) h)).1 in
        subst (HasType p n) (sym (ap type_s (let_tree p n w e))) (let_type e (sub (let_kids p n w e).1 q.1))
    signal_at_lem w (is_switch e) h =
        let q = free_both _ _ (free_both _ _ (subst (λ (x : Signal). Free β (types_s x)) (switch_tree p n w e) h)).1 in
        subst (HasType p n) (sym (ap type_s (switch_tree p n w e))) (switch_type e (sub (switch_kids p n w e).0 q.0))
    signal_at_lem w (is_group e) h =
        let q = free_both _ _ (free_both _ _ (subst (λ (x : Signal). Free β (types_s x)) (group_tree p n w e) h)).1 in
        subst (HasType p n) (sym (ap type_s (group_tree p n w e))) (group_type e (sub (group_kids p n w e).0 q.0))
    signal_at_lem w (is_until e) h =
        let q = free_both _ _ (subst (λ (x : Signal). Free β (types_s x)) (until_tree p n w e) h) in
        subst (HasType p n) (sym (ap type_s (until_tree p n w e))) (until_type e (sub (until_kids p n w e).0 q.0))

  signal_has : (β g n : ℕ) → n < g → n < β → NodeOf is_signal p n → Free β (types_s (signal_at p n)) → HasType p n (type_s (signal_at p n))
  signal_has β zero n l i w h = absurd (not-suc-le-zero l)
  signal_has β (suc g) n l i w h =
      signal_at_lem β n i (λ m j. signal_has β g m (omega arith) (omega arith)) w (signal_kind (kind_at p n) w.sorted) h

  pub has_type_s : (β n : ℕ) → n < β → NodeOf is_signal p n → Free β (types_s (signal_at p n)) → HasType p n (type_s (signal_at p n))
  has_type_s β n i w h = signal_has β (suc n) n (omega arith) i w h
