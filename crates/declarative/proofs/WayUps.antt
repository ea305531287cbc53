-- Where the definition finds no fault of scope below a bound, every variable and every case there is in scope by the way up.
-- Assumes nothing.
use mathlib.Core.Path.{◌≡◌, refl, sym, ap, subst, ◌∙◌}
use mathlib.Core.List.{[], ◌∷◌}
use mathlib.Core.Bool.{true, false}
use Prim.Native.Nat.{ℕ, zero, suc, ◌-◌, ◌<◌}
use native.Mathlib.Omega.{arith}
use borrow.Author.Tests.{eqb-true}
use Rattle.rules.specs.Bytes.{Bytes, ◌and◌}
use Rattle.rules.specs.Layout.{edition, nodes, kind_at, a_at, b_at, c_at}
use Rattle.rules.specs.Kinds.{row, is_signal, is_expression, is_branch, is_case, fields_of}
use Rattle.rules.specs.Shape.{is_child}
use Rattle.rules.specs.Shaped.{NodeOf}
use Rattle.rules.specs.Tree.{Expr, Signal, Branches, Cases, expr_at, signal_at, branches_at, cases_at}
use Rattle.rules.specs.Scope.{Marks, mark, is_marked, Offers, onward, is_offered, scope_e, scope_s, scope_b, scope_c}
use Rattle.rules.proofs.Static.{not_both}
use Rattle.rules.proofs.Nodes.{expr_variable}
use Rattle.rules.proofs.Kids.{Child}
use Rattle.rules.proofs.Expressions.{negation_kid, negation_tree, just_kid, just_tree, choice_kids, choice_tree, taking_kids, taking_tree, operation_kids, operation_tree}
use Rattle.rules.proofs.Signals.{ext_kid, ext_tree, delay_kid, delay_tree, let_kids, let_tree, switch_kids, switch_tree, group_kids, group_tree, until_kids, until_tree, branch_kid, branch_next, branch_law, branch_on, case_kid, case_next, case_law, case_on}
use Rattle.rules.proofs.ByKind.{ExpressionKind, is_variable, is_constant, is_negation, is_choice, is_just, is_taking, is_operation, expression_kind, SignalKind, is_input, is_time, is_ext, is_delay, is_let, is_switch, is_group, is_until, signal_kind, choose, two_kids}
use Rattle.declarative.specs.WayUp.{Above, by_a, by_b, by_c, Binds, let_definition, let_body, switch_second, branch_body, take_present, Sees, enters, goes_up, first_case, later_case, Passes, by_let_body, by_branch_body, by_branch_list, Arrives, by_group_body, by_group_branches, GroupOf, arrives, passes, passes_on, BranchOf, TargetRight, ScopeRight}
use Rattle.declarative.proofs.Joining.{by_either}
use Rattle.declarative.proofs.Agreeing.{marked_other}
use Rattle.declarative.proofs.Free.{Free, free_both, free_holds}
use Rattle.declarative.proofs.Parents.{child_a, child_b, child_c, binds_above, from_above, Table, each_node}
use Rattle.declarative.proofs.Parts.{has_listed}

-- What is marked is seen from node n; what is offered is in reach of the way up from it.
abbrev Marked : Bytes → Marks → ℕ → Type 0
Marked p M n = (x : ℕ) → is_marked M x ≡ true → Sees p x n

record Offer (p : Bytes) (k n : ℕ) : Type 0 where
  group₀ : ℕ
  its_group : GroupOf p group₀ n
  its_branch : BranchOf p k (b_at p group₀)

abbrev Offered : Bytes → Offers → ℕ → Type 0
Offered p O n = (k : ℕ) → is_offered k O ≡ true → Offer p k n

abbrev OfferedC : Bytes → Offers → ℕ → Type 0
OfferedC p O n = (k : ℕ) → is_offered k O ≡ true → TargetRight p n k

-- The definition comes by node n, with such marks and offers, and finds no fault below β in its tree.
data At (p : Bytes) (β n : ℕ) : Type 0 where
  at_expression : NodeOf is_expression p n → (M : Marks) → Marked p M n → Free β (scope_e M (expr_at p n)) → At p β n
  at_signal : NodeOf is_signal p n → (M : Marks) (O : Offers) → Marked p M n → Offered p O n → Free β (scope_s (edition p) M O (signal_at p n)) → At p β n
  at_branch : NodeOf is_branch p n → (M : Marks) (O : Offers) → Marked p M n → Offered p O n → Free β (scope_b (edition p) M O (branches_at p n)) → At p β n
  at_case : NodeOf is_case p n → (M : Marks) (O : Offers) → Marked p M n → OfferedC p O n → Free β (scope_c (edition p) M O (cases_at p n)) → At p β n

-- Where nothing is offered.
none_offered : (p : Bytes) (n : ℕ) → Offered p [] n
unfolding is_offered
none_offered p n k e = absurd (not_both e)

-- What a group hands on is offered to it, and this is edition two.
onward_some : (ed : ℕ) (O : Offers) (k : ℕ) → is_offered k (onward ed O) ≡ true → (0 < ed) × (is_offered k O ≡ true)
unfolding onward is_offered
onward_some zero O k e = absurd (not_both e)
onward_some (suc ed) O k e = (omega arith, e)

-- From node m to its part n.
module _ (p : Bytes) (β m : ℕ) (l : m < nodes p) where
  keep : (n : ℕ) → Above p m n → (M : Marks) → Marked p M m → Marked p M n
  keep n a M h x e = goes_up m l a (h x e)

  -- The part sees the node's own variable too.
  more : (n : ℕ) → Binds p m n → (M : Marks) → Marked p M m → Marked p (mark M m) n
  more n b M h x e =
      choose x m (λ (q : x ≡ m). subst (λ (y : ℕ). Sees p y n) (sym q) (enters l b))
      (λ d. goes_up m l (binds_above p m n b) (h x (sym (marked_other M m x d) ∙ e)))

  -- A part that is passed reaches what the node reaches.
  pass : (n : ℕ) → Passes p m n → (O : Offers) → Offered p O m → Offered p O n
  pass n a O h k e =
      let o = h k e in
      record { group₀ = o.group₀; its_group = passes m l a o.its_group; its_branch = o.its_branch }

  -- A part of a group reaches the group.
  arrive : (n : ℕ) → Arrives p m n → NodeOf is_branch p (b_at p m) → (O : Offers) → Offered p O m
      → Offered p (branches_at p (b_at p m) ∷ onward (edition p) O) n
  unfolding is_offered
  arrive n a w O h k e =
      by_either _ _ e (λ q. record { group₀ = m; its_group = arrives l a; its_branch = has_listed p k (b_at p m) w q })
      (λ q.
      let r = onward_some (edition p) O k q in
      let o = h k r.1 in
      record { group₀ = o.group₀; its_group = passes_on m l r.0 a o.its_group; its_branch = o.its_branch })

  -- The cases of an until reach what the until reaches.
  its_cases : kind_at p m ≡ 8 → (O : Offers) → Offered p O m → OfferedC p O (b_at p m)
  its_cases q O h k e =
      let o = h k e in
      record { until₀ = m; group₀ = o.group₀; its_until = first_case l q refl; its_group = o.its_group; its_branch = o.its_branch }

  -- So does the next of a case.
  next_case : kind_at p m ≡ 10 → (O : Offers) → OfferedC p O m → OfferedC p O (b_at p m)
  next_case q O h k e =
      let o = h k e in
      record {
        until₀ = o.until₀;
        group₀ = o.group₀;
        its_until = later_case m l q refl o.its_until;
        its_group = o.its_group;
        its_branch = o.its_branch;
      }

  -- The part, which is a node.
  abbrev Part : ℕ → Type 0
  Part n = n < nodes p → At p β n

  -- A field that names no child.
  no_part : {n : ℕ} → false ≡ true → Part n
  no_part e = absurd (not_both e)

  -- A child that is an expression, where the node does not bind: by a,
  kid_a : (k : ℕ) → kind_at p m ≡ k → (M : Marks) → Marked p M m → Child is_expression p m (a_at p m)
      → Free β (scope_e M (expr_at p (a_at p m))) → is_child (fields_of k).a ≡ true → Part (a_at p m)
  kid_a k e M h w r c _ = at_expression w.node M (keep (a_at p m) (by_a (child_a p m k e c) refl) M h) r

  -- by b,
  kid_b : (k : ℕ) → kind_at p m ≡ k → (M : Marks) → Marked p M m → Child is_expression p m (b_at p m)
      → Free β (scope_e M (expr_at p (b_at p m))) → is_child (fields_of k).b ≡ true → Part (b_at p m)
  kid_b k e M h w r c _ = at_expression w.node M (keep (b_at p m) (by_b (child_b p m k e c) refl) M h) r

  -- by c.
  kid_c : (k : ℕ) → kind_at p m ≡ k → (M : Marks) → Marked p M m → Child is_expression p m (c_at p m)
      → Free β (scope_e M (expr_at p (c_at p m))) → is_child (fields_of k).c ≡ true → Part (c_at p m)
  kid_c k e M h w r c _ = at_expression w.node M (keep (c_at p m) (by_c (child_c p m k e c) refl) M h) r

  -- A part of an expression.
  expr_step : (w : NodeOf is_expression p m) (M : Marks) → Marked p M m → Free β (scope_e M (expr_at p m)) → ExpressionKind (kind_at p m)
      → (n : ℕ) → Above p m n → Part n
  unfolding scope_e fields_of row is_child ◌and◌
  expr_step w M h r (is_variable e) n a = from_above p m Part 16 n e no_part no_part no_part a
  expr_step w M h r (is_constant e) n a = from_above p m Part 17 n e no_part no_part no_part a
  expr_step w M h r (is_negation e) n a =
      let q : Free β (scope_e M (expr_at p (a_at p m))) = subst (λ (x : Expr). Free β (scope_e M x)) (negation_tree p m w e) r in
      from_above p m Part 24 n e (kid_a 24 e M h (negation_kid p m w e) q) no_part no_part a
  expr_step w M h r (is_choice e) n a =
      let k = choice_kids p m w e in
      let q = free_both _ _ (subst (λ (x : Expr). Free β (scope_e M x)) (choice_tree p m w e) r) in
      let q' = free_both _ _ q.1 in
      from_above p m Part 27 n e (kid_a 27 e M h k.0 q.0) (kid_b 27 e M h k.1 q'.0) (kid_c 27 e M h k.2 q'.1) a
  expr_step w M h r (is_just e) n a =
      let q : Free β (scope_e M (expr_at p (a_at p m))) = subst (λ (x : Expr). Free β (scope_e M x)) (just_tree p m w e) r in
      from_above p m Part 28 n e (kid_a 28 e M h (just_kid p m w e) q) no_part no_part a
  expr_step w M h r (is_taking e) n a =
      let k = taking_kids p m w e in
      let q = free_both _ _ (subst (λ (x : Expr). Free β (scope_e M x)) (taking_tree p m w e) r) in
      let q' = free_both _ _ q.1 in
      from_above p m Part 29 n e (kid_a 29 e M h k.0 q.0) (kid_b 29 e M h k.1 q'.0)
      (λ c _. at_expression k.2.node (mark M m) (more (c_at p m) (take_present e refl) M h) q'.1) a
  expr_step w M h r (is_operation o) n a =
      let k = operation_kids p m w o in
      let two = two_kids (kind_at p m) w.sorted o in
      let q = free_both _ _ (subst (λ (x : Expr). Free β (scope_e M x)) (operation_tree p m w o) r) in
      from_above p m Part (kind_at p m) n refl (kid_a (kind_at p m) refl M h k.0 q.0) (kid_b (kind_at p m) refl M h k.1 q.1)
      (λ c. absurd (not_both (sym two.no_third ∙ c))) a

  -- A child that is a signal: by a,
  sub_a : (k : ℕ) → kind_at p m ≡ k → (M : Marks) (O : Offers) → Marked p M m → Offered p O (a_at p m) → Child is_signal p m (a_at p m)
      → Free β (scope_s (edition p) M O (signal_at p (a_at p m))) → is_child (fields_of k).a ≡ true → Part (a_at p m)
  sub_a k e M O h o w r c _ = at_signal w.node M O (keep (a_at p m) (by_a (child_a p m k e c) refl) M h) o r

  -- by b.
  sub_b : (k : ℕ) → kind_at p m ≡ k → (M : Marks) (O : Offers) → Marked p M m → Offered p O (b_at p m) → Child is_signal p m (b_at p m)
      → Free β (scope_s (edition p) M O (signal_at p (b_at p m))) → is_child (fields_of k).b ≡ true → Part (b_at p m)
  sub_b k e M O h o w r c _ = at_signal w.node M O (keep (b_at p m) (by_b (child_b p m k e c) refl) M h) o r

  -- A part of a signal.
  signal_step : (w : NodeOf is_signal p m) (M : Marks) (O : Offers) → Marked p M m → Offered p O m → Free β (scope_s (edition p) M O (signal_at p m))
      → SignalKind (kind_at p m) → (n : ℕ) → Above p m n → Part n
  unfolding scope_s fields_of row is_child ◌and◌
  signal_step w M O h o r (is_input e) n a = from_above p m Part 1 n e no_part no_part no_part a
  signal_step w M O h o r (is_time e) n a = from_above p m Part 2 n e no_part no_part no_part a
  signal_step w M O h o r (is_ext e) n a =
      let q : Free β (scope_e M (expr_at p (a_at p m))) = subst (λ (x : Signal). Free β (scope_s (edition p) M O x)) (ext_tree p m w e) r in
      from_above p m Part 3 n e (kid_a 3 e M h (ext_kid p m w e) q) no_part no_part a
  signal_step w M O h o r (is_delay e) n a =
      let q : Free β (scope_s (edition p) M [] (signal_at p (a_at p m))) = subst (λ (x : Signal). Free β (scope_s (edition p) M O x)) (delay_tree p m w e) r in
      from_above p m Part 4 n e (sub_a 4 e M [] h (none_offered p (a_at p m)) (delay_kid p m w e) q) no_part no_part a
  signal_step w M O h o r (is_let e) n a =
      let k = let_kids p m w e in
      let q = free_both _ _ (subst (λ (x : Signal). Free β (scope_s (edition p) M O x)) (let_tree p m w e) r) in
      from_above p m Part 5 n e
      (λ c _. at_signal k.0.node (mark M m) [] (more (a_at p m) (let_definition e refl) M h) (none_offered p (a_at p m)) q.0)
      (λ c _. at_signal k.1.node (mark M m) O (more (b_at p m) (let_body e refl) M h) (pass (b_at p m) (by_let_body e refl) O o) q.1)
      no_part a
  signal_step w M O h o r (is_switch e) n a =
      let k = switch_kids p m w e in
      let q = free_both _ _ (subst (λ (x : Signal). Free β (scope_s (edition p) M O x)) (switch_tree p m w e) r) in
      let q' = free_both _ _ q.1 in
      from_above p m Part 6 n e (sub_a 6 e M [] h (none_offered p (a_at p m)) k.0 q.0) (sub_b 6 e M [] h (none_offered p (b_at p m)) k.1 q'.0)
      (λ c _. at_signal k.2.node (mark M m) [] (more (c_at p m) (switch_second e refl) M h) (none_offered p (c_at p m)) q'.1) a
  signal_step w M O h o r (is_group e) n a =
      let k = group_kids p m w e in
      let own : Offers = branches_at p (b_at p m) ∷ onward (edition p) O in
      let q = free_both _ _ (subst (λ (x : Signal). Free β (scope_s (edition p) M O x)) (group_tree p m w e) r) in
      from_above p m Part 7 n e (sub_a 7 e M own h (arrive (a_at p m) (by_group_body e refl) k.1.node O o) k.0 q.0)
      (λ c _. at_branch k.1.node M own (keep (b_at p m) (by_b (child_b p m 7 e c) refl) M h)
      (arrive (b_at p m) (by_group_branches e refl) k.1.node O o) q.1)
      no_part a
  signal_step w M O h o r (is_until e) n a =
      let k = until_kids p m w e in
      let q = free_both _ _ (subst (λ (x : Signal). Free β (scope_s (edition p) M O x)) (until_tree p m w e) r) in
      from_above p m Part 8 n e (sub_a 8 e M [] h (none_offered p (a_at p m)) k.0 q.0)
      (λ c _. at_case k.1.node M O (keep (b_at p m) (by_b (child_b p m 8 e c) refl) M h) (its_cases e O o) q.1)
      no_part a

  -- A next that is a node is not 65535.
  not_none : NodeOf is_branch p m → b_at p m < nodes p → b_at p m ≡ 65535 → ⊥
  not_none w h e = omega (arith, w.shaped.small)

  -- The same for a case.
  not_none_c : NodeOf is_case p m → b_at p m < nodes p → b_at p m ≡ 65535 → ⊥
  not_none_c w h e = omega (arith, w.shaped.small)

  -- A part of a branch, and of a case.
  branch_step : (w : NodeOf is_branch p m) (M : Marks) (O : Offers) → Marked p M m → Offered p O m → Free β (scope_b (edition p) M O (branches_at p m))
      → kind_at p m ≡ 9 → (n : ℕ) → Above p m n → Part n
  unfolding scope_s fields_of row is_child
  branch_step w M O h o r e n a =
      from_above p m Part 9 n e
      (λ c _. at_signal (branch_kid p m w).node (mark M m) O (more (a_at p m) (branch_body e refl) M h)
      (pass (a_at p m) (by_branch_body e refl) O o)
      (free_both _ _ (subst (λ (x : Branches). Free β (scope_b (edition p) M O x)) (branch_law p m w refl) r)).0)
      (λ c i. let d = not_none w i in
      at_branch (branch_next p m w d).node M O (keep (b_at p m) (by_b (child_b p m 9 e c) refl) M h)
      (pass (b_at p m) (by_branch_list e refl) O o)
      (free_both _ _ (subst (λ (x : Branches). Free β (scope_b (edition p) M O x)) (branch_on p m w d) r)).1)
      no_part a

  case_step : (w : NodeOf is_case p m) (M : Marks) (O : Offers) → Marked p M m → OfferedC p O m → Free β (scope_c (edition p) M O (cases_at p m))
      → kind_at p m ≡ 10 → (n : ℕ) → Above p m n → Part n
  unfolding scope_s fields_of row is_child
  case_step w M O h o r e n a =
      from_above p m Part 10 n e
      (sub_a 10 e M [] h (none_offered p (a_at p m)) (case_kid p m w)
      (free_both _ _ (free_both _ _ (subst (λ (x : Cases). Free β (scope_c (edition p) M O x)) (case_law p m w refl) r)).1).0)
      (λ c i. let d = not_none_c w i in
      at_case (case_next p m w d).node M O (keep (b_at p m) (by_b (child_b p m 10 e c) refl) M h) (next_case e O o)
      (free_both _ _ (free_both _ _ (subst (λ (x : Cases). Free β (scope_c (edition p) M O x)) (case_on p m w d) r)).1).1)
      no_part a

  -- From a node to each of its parts, whatever their sorts.
  step : At p β m → (n : ℕ) → Above p m n → Part n
  unfolding is_branch is_case
  step (at_expression w M h r) n a = expr_step w M h r (expression_kind (kind_at p m)) n a
  step (at_signal w M O h o r) n a = signal_step w M O h o r (signal_kind (kind_at p m) w.sorted) n a
  step (at_branch w M O h o r) n a = branch_step w M O h o r (eqb-true _ _ w.sorted) n a
  step (at_case w M O h o r) n a = case_step w M O h o r (eqb-true _ _ w.sorted) n a

-- The definition comes by every node.
reach : (p : Bytes) (β : ℕ) → Table p → At p β (nodes p - 1) → (n : ℕ) → n < nodes p → At p β n
reach p β t root₀ = each_node p t (At p β) root₀ (λ m n i j a h. step p β m i h n a j)

-- A variable that the definition comes by is in scope.
variable_at : (p : Bytes) (β n : ℕ) → n < β → kind_at p n ≡ 16 → At p β n → Sees p (a_at p n) n
unfolding scope_e is_signal is_branch is_case ◌and◌
variable_at p β n i e (at_expression w M h r) =
    h (a_at p n) (free_holds _ _ i (subst (λ (x : Expr). Free β (scope_e M x)) (expr_variable p n e) r))
variable_at p β n i e (at_signal w M O h o r) = absurd (not_both (sym (ap (λ (k : ℕ). is_signal k) e) ∙ w.sorted))
variable_at p β n i e (at_branch w M O h o r) = absurd (not_both (sym (ap (λ (k : ℕ). is_branch k) e) ∙ w.sorted))
variable_at p β n i e (at_case w M O h o r) = absurd (not_both (sym (ap (λ (k : ℕ). is_case k) e) ∙ w.sorted))

-- So is a case.
target_at : (p : Bytes) (β n : ℕ) → n < β → kind_at p n ≡ 10 → At p β n → TargetRight p n (c_at p n)
unfolding scope_s is_expression is_signal is_branch ◌and◌
target_at p β n i e (at_expression w M h r) = absurd (not_both (sym (ap (λ (k : ℕ). is_expression k) e) ∙ w.sorted))
target_at p β n i e (at_signal w M O h o r) = absurd (not_both (sym (ap (λ (k : ℕ). is_signal k) e) ∙ w.sorted))
target_at p β n i e (at_branch w M O h o r) = absurd (not_both (sym (ap (λ (k : ℕ). is_branch k) e) ∙ w.sorted))
target_at p β n i e (at_case w M O h o r) =
    o (c_at p n) (free_holds _ _ i (free_both _ _ (subst (λ (x : Cases). Free β (scope_c (edition p) M O x)) (case_law p n w refl) r)).0)

-- No fault below a bound at the root, with nothing marked or offered: every node there is in scope.
pub scope_up : (p : Bytes) (β : ℕ) → Table p → NodeOf is_signal p (nodes p - 1) → (M : Marks) → ((x : ℕ) → is_marked M x ≡ false)
    → Free β (scope_s (edition p) M [] (signal_at p (nodes p - 1))) → (n : ℕ) → n < β → n < nodes p → ScopeRight p n
scope_up p β t w M z r n i l =
    let root₀ : At p β (nodes p - 1) =
    at_signal w M [] (λ x e. absurd (not_both (sym (z x) ∙ e))) (none_offered p (nodes p - 1)) r in
    record {
      variable = λ e. variable_at p β n i e (reach p β t root₀ n l);
      case = λ e. target_at p β n i e (reach p β t root₀ n l);
    }
