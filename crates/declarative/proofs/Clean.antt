-- Where the definitions find no fault of type or of readiness below a bound at the root, they find none there at any node.
-- Assumes nothing.
use mathlib.Core.Path.{◌≡◌, refl, sym, subst, ◌∙◌}
use mathlib.Core.Bool.{Bool, true, false}
use Prim.Native.Nat.{ℕ, ◌-◌, ◌<◌}
use native.Mathlib.Omega.{arith}
use borrow.Author.Tests.{eqb-true}
use Rattle.rules.specs.Bytes.{Bytes, ◌and◌}
use Rattle.rules.specs.Layout.{nodes, kind_at, a_at, b_at}
use Rattle.rules.specs.Kinds.{row, is_signal, is_expression, is_branch, is_case, fields_of}
use Rattle.rules.specs.Shape.{is_child}
use Rattle.rules.specs.Shaped.{NodeOf}
use Rattle.rules.specs.Tree.{Expr, Signal, Branches, Cases, expr_at, signal_at, branches_at, cases_at}
use Rattle.rules.specs.Typing.{types_e, types_s, types_b, types_c}
use Rattle.rules.specs.Ready.{ready_s, ready_b, ready_c}
use Rattle.rules.proofs.Static.{not_both}
use Rattle.rules.proofs.Kids.{Child}
use Rattle.rules.proofs.Expressions.{negation_kid, negation_tree, just_kid, just_tree, choice_kids, choice_tree, taking_kids, taking_tree, operation_kids, operation_tree}
use Rattle.rules.proofs.Signals.{ext_kid, ext_tree, delay_kid, delay_tree, let_kids, let_tree, switch_kids, switch_tree, group_kids, group_tree, until_kids, until_tree, branch_kid, branch_next, branch_law, branch_on, case_kid, case_next, case_law, case_on}
use Rattle.rules.proofs.ByKind.{ExpressionKind, is_variable, is_constant, is_negation, is_choice, is_just, is_taking, is_operation, expression_kind, SignalKind, is_input, is_time, is_ext, is_delay, is_let, is_switch, is_group, is_until, signal_kind, two_kids}
use Rattle.declarative.specs.WayUp.{Above}
use Rattle.declarative.proofs.Free.{Free, free_both}
use Rattle.declarative.proofs.Parents.{from_above, Table, each_node}

-- No fault of type below β, and none of readiness below ρ, in the tree at a node.
pub data Clean (p : Bytes) (β ρ n : ℕ) : Type 0 where
  clean_e : NodeOf is_expression p n → Free β (types_e (expr_at p n)) → Clean p β ρ n
  clean_s : NodeOf is_signal p n → Free β (types_s (signal_at p n)) → Free ρ (ready_s (signal_at p n)) → Clean p β ρ n
  clean_b : NodeOf is_branch p n → Free β (types_b (branches_at p n)) → Free ρ (ready_b (branches_at p n)) → Clean p β ρ n
  clean_c : NodeOf is_case p n → Free β (types_c (cases_at p n)) → Free ρ (ready_c (cases_at p n)) → Clean p β ρ n

-- From node m to its part n.
module _ (p : Bytes) (β ρ m : ℕ) (l : m < nodes p) where
  abbrev Part : ℕ → Type 0
  Part n = n < nodes p → Clean p β ρ n

  -- A field that names no child.
  no_part : {n : ℕ} → false ≡ true → Part n
  no_part e = absurd (not_both e)

  kid : {n : ℕ} {b : Bool} → Child is_expression p m n → Free β (types_e (expr_at p n)) → b ≡ true → Part n
  kid w r c _ = clean_e w.node r

  sub : {n : ℕ} {b : Bool} → Child is_signal p m n → Free β (types_s (signal_at p n)) → Free ρ (ready_s (signal_at p n)) → b ≡ true → Part n
  sub w r q c _ = clean_s w.node r q

  expr_step : (w : NodeOf is_expression p m) → Free β (types_e (expr_at p m)) → ExpressionKind (kind_at p m) → (n : ℕ) → Above p m n → Part n
  unfolding types_e fields_of row is_child ◌and◌
  expr_step w r (is_variable e) n a = from_above p m Part 16 n e no_part no_part no_part a
  expr_step w r (is_constant e) n a = from_above p m Part 17 n e no_part no_part no_part a
  expr_step w r (is_negation e) n a =
      let q = free_both _ _ (subst (λ (x : Expr). Free β (types_e x)) (negation_tree p m w e) r) in
      from_above p m Part 24 n e (kid (negation_kid p m w e) q.1) no_part no_part a
  expr_step w r (is_choice e) n a =
      let k = choice_kids p m w e in
      let q = free_both _ _ (subst (λ (x : Expr). Free β (types_e x)) (choice_tree p m w e) r) in
      let q' = free_both _ _ q.1 in
      let q'' = free_both _ _ q'.1 in
      from_above p m Part 27 n e (kid k.0 q'.0) (kid k.1 q''.0) (kid k.2 q''.1) a
  expr_step w r (is_just e) n a =
      let q = free_both _ _ (subst (λ (x : Expr). Free β (types_e x)) (just_tree p m w e) r) in
      from_above p m Part 28 n e (kid (just_kid p m w e) q.1) no_part no_part a
  expr_step w r (is_taking e) n a =
      let k = taking_kids p m w e in
      let q = free_both _ _ (subst (λ (x : Expr). Free β (types_e x)) (taking_tree p m w e) r) in
      let q' = free_both _ _ q.1 in
      let q'' = free_both _ _ q'.1 in
      from_above p m Part 29 n e (kid k.0 q'.0) (kid k.1 q''.0) (kid k.2 q''.1) a
  expr_step w r (is_operation o) n a =
      let k = operation_kids p m w o in
      let two = two_kids (kind_at p m) w.sorted o in
      let q = free_both _ _ (subst (λ (x : Expr). Free β (types_e x)) (operation_tree p m w o) r) in
      let q' = free_both _ _ q.1 in
      from_above p m Part (kind_at p m) n refl (kid k.0 q'.0) (kid k.1 q'.1) (λ c. absurd (not_both (sym two.no_third ∙ c))) a

  signal_step : (w : NodeOf is_signal p m) → Free β (types_s (signal_at p m)) → Free ρ (ready_s (signal_at p m)) → SignalKind (kind_at p m)
      → (n : ℕ) → Above p m n → Part n
  unfolding types_s ready_s fields_of row is_child ◌and◌
  signal_step w r s (is_input e) n a = from_above p m Part 1 n e no_part no_part no_part a
  signal_step w r s (is_time e) n a = from_above p m Part 2 n e no_part no_part no_part a
  signal_step w r s (is_ext e) n a =
      let q : Free β (types_e (expr_at p (a_at p m))) = subst (λ (x : Signal). Free β (types_s x)) (ext_tree p m w e) r in
      from_above p m Part 3 n e (kid (ext_kid p m w e) q) no_part no_part a
  signal_step w r s (is_delay e) n a =
      let q = free_both _ _ (subst (λ (x : Signal). Free β (types_s x)) (delay_tree p m w e) r) in
      let z : Free ρ (ready_s (signal_at p (a_at p m))) = subst (λ (x : Signal). Free ρ (ready_s x)) (delay_tree p m w e) s in
      from_above p m Part 4 n e (sub (delay_kid p m w e) q.1 z) no_part no_part a
  signal_step w r s (is_let e) n a =
      let k = let_kids p m w e in
      let q = free_both _ _ (subst (λ (x : Signal). Free β (types_s x)) (let_tree p m w e) r) in
      let q' = free_both _ _ q.1 in
      let z = free_both _ _ (subst (λ (x : Signal). Free ρ (ready_s x)) (let_tree p m w e) s) in
      let z' = free_both _ _ z.1 in
      from_above p m Part 5 n e (sub k.0 q'.0 z'.0) (sub k.1 q'.1 z'.1) no_part a
  signal_step w r s (is_switch e) n a =
      let k = switch_kids p m w e in
      let q = free_both _ _ (subst (λ (x : Signal). Free β (types_s x)) (switch_tree p m w e) r) in
      let q' = free_both _ _ q.1 in
      let q'' = free_both _ _ q'.1 in
      let z = free_both _ _ (subst (λ (x : Signal). Free ρ (ready_s x)) (switch_tree p m w e) s) in
      let z' = free_both _ _ z.1 in
      from_above p m Part 6 n e (sub k.0 q'.0 z.0) (sub k.1 q''.0 z'.0) (sub k.2 q''.1 z'.1) a
  signal_step w r s (is_group e) n a =
      let k = group_kids p m w e in
      let q = free_both _ _ (subst (λ (x : Signal). Free β (types_s x)) (group_tree p m w e) r) in
      let q' = free_both _ _ q.1 in
      let z = free_both _ _ (subst (λ (x : Signal). Free ρ (ready_s x)) (group_tree p m w e) s) in
      from_above p m Part 7 n e (sub k.0 q'.0 z.0) (λ c _. clean_b k.1.node q'.1 z.1) no_part a
  signal_step w r s (is_until e) n a =
      let k = until_kids p m w e in
      let q = free_both _ _ (subst (λ (x : Signal). Free β (types_s x)) (until_tree p m w e) r) in
      let z = free_both _ _ (subst (λ (x : Signal). Free ρ (ready_s x)) (until_tree p m w e) s) in
      from_above p m Part 8 n e (sub k.0 q.0 z.0) (λ c _. clean_c k.1.node q.1 z.1) no_part a

  branch_step : (w : NodeOf is_branch p m) → Free β (types_b (branches_at p m)) → Free ρ (ready_b (branches_at p m)) → kind_at p m ≡ 9
      → (n : ℕ) → Above p m n → Part n
  unfolding types_s ready_s fields_of row is_child
  branch_step w r s e n a =
      from_above p m Part 9 n e
      (sub (branch_kid p m w) (free_both _ _ (subst (λ (x : Branches). Free β (types_b x)) (branch_law p m w refl) r)).0
      (free_both _ _ (subst (λ (x : Branches). Free ρ (ready_b x)) (branch_law p m w refl) s)).0)
      (λ c i. let d : b_at p m ≡ 65535 → ⊥ = λ z. omega (arith, w.shaped.small) in
      clean_b (branch_next p m w d).node (free_both _ _ (subst (λ (x : Branches). Free β (types_b x)) (branch_on p m w d) r)).1
      (free_both _ _ (subst (λ (x : Branches). Free ρ (ready_b x)) (branch_on p m w d) s)).1)
      no_part a

  case_step : (w : NodeOf is_case p m) → Free β (types_c (cases_at p m)) → Free ρ (ready_c (cases_at p m)) → kind_at p m ≡ 10
      → (n : ℕ) → Above p m n → Part n
  unfolding types_s ready_s fields_of row is_child
  case_step w r s e n a =
      from_above p m Part 10 n e
      (sub (case_kid p m w) (free_both _ _ (free_both _ _ (subst (λ (x : Cases). Free β (types_c x)) (case_law p m w refl) r)).1).0
      (free_both _ _ (subst (λ (x : Cases). Free ρ (ready_c x)) (case_law p m w refl) s)).0)
      (λ c i. let d : b_at p m ≡ 65535 → ⊥ = λ z. omega (arith, w.shaped.small) in
      clean_c (case_next p m w d).node (free_both _ _ (free_both _ _ (subst (λ (x : Cases). Free β (types_c x)) (case_on p m w d) r)).1).1
      (free_both _ _ (subst (λ (x : Cases). Free ρ (ready_c x)) (case_on p m w d) s)).1)
      no_part a

  -- From a node to each of its parts, whatever their sorts.
  step : Clean p β ρ m → (n : ℕ) → Above p m n → Part n
  unfolding is_branch is_case
  step (clean_e w r) n a = expr_step w r (expression_kind (kind_at p m)) n a
  step (clean_s w r s) n a = signal_step w r s (signal_kind (kind_at p m) w.sorted) n a
  step (clean_b w r s) n a = branch_step w r s (eqb-true _ _ w.sorted) n a
  step (clean_c w r s) n a = case_step w r s (eqb-true _ _ w.sorted) n a

-- Every node of a table whose root has no such fault.
pub all_clean : (p : Bytes) (β ρ : ℕ) → Table p → Clean p β ρ (nodes p - 1) → (n : ℕ) → n < nodes p → Clean p β ρ n
all_clean p β ρ t root₀ = each_node p t (Clean p β ρ) root₀ (λ m n i j a h. step p β ρ m i h n a j)
