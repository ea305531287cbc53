-- A node of a table needs a variable at once exactly when the definition says so of its tree.
-- Assumes nothing.
use mathlib.Core.Path.{◌≡◌, refl, sym, ap, ◌∙◌}
use mathlib.Core.Bool.{Bool, true, false}
use Prim.Native.Nat.{ℕ, zero, suc, ◌<◌}
use native.Mathlib.Nat.{not-suc-le-zero}
use native.Mathlib.Omega.{arith}
use lib.Dec.{eqb}
use borrow.Author.Tests.{leb-true, eqb-true, eq-eqb, ne_eqb}
use Rattle.rules.specs.Bytes.{Bytes, ◌and◌, ◌or◌}
use Rattle.rules.specs.Layout.{nodes, kind_at, a_at, b_at, c_at}
use Rattle.rules.specs.Kinds.{row, is_signal, is_expression, is_branch, fields_of}
use Rattle.rules.specs.Shape.{is_child}
use Rattle.rules.specs.Shaped.{NodeOf}
use Rattle.rules.specs.Tree.{expr_at, signal_at, branches_at}
use Rattle.rules.specs.Ready.{needs_e, needs_s, needs_b}
use Rattle.rules.proofs.Static.{and_both, not_both, or_left, or_right}
use Rattle.rules.proofs.Nodes.{expr_variable, expr_constant, signal_input, signal_time}
use Rattle.rules.proofs.Kids.{Child}
use Rattle.rules.proofs.Expressions.{negation_kid, negation_tree, just_kid, just_tree, choice_kids, choice_tree, taking_kids, taking_tree, operation_kids, operation_tree}
use Rattle.rules.proofs.Signals.{ext_kid, ext_tree, delay_tree, let_kids, let_tree, switch_kids, switch_tree, group_kids, group_tree, until_kids, until_tree, branch_kid, branch_next, branch_law, branch_end, branch_on}
use Rattle.rules.proofs.ByKind.{ExpressionKind, is_variable, is_constant, is_negation, is_choice, is_just, is_taking, is_operation, expression_kind, SignalKind, is_input, is_time, is_ext, is_delay, is_let, is_switch, is_group, is_until, signal_kind, choose, two_kids}
use Rattle.declarative.specs.WayUp.{Above, by_a, by_b, by_c}
use Rattle.declarative.specs.NeedsAt.{Counted, NeedsAt, itself, a_child}
use Rattle.declarative.proofs.Joining.{by_either, or_false}
use Rattle.declarative.proofs.Parents.{not_a_b, not_b_c, child_a, child_b, child_c, from_above, Table}

module _ (p : Bytes) (x : ℕ) where
  -- What the definition says of the tree at a node, whatever its sort.
  record Tests (n : ℕ) : Type 0 where
    e : NodeOf is_expression p n → needs_e x (expr_at p n) ≡ true
    s : NodeOf is_signal p n → needs_s x (signal_at p n) ≡ true
    b : NodeOf is_branch p n → needs_b x (branches_at p n) ≡ true

  -- From a child that counts to its parent n.
  module _ (n : ℕ) where
    abbrev E : ℕ → Type 0
    E c = Counted p n c → c < nodes p → Tests c → needs_e x (expr_at p n) ≡ true

    abbrev S : ℕ → Type 0
    S c = Counted p n c → c < nodes p → Tests c → needs_s x (signal_at p n) ≡ true

    abbrev B : ℕ → Type 0
    B c = Counted p n c → c < nodes p → Tests c → needs_b x (branches_at p n) ≡ true

    -- A field that names no child.
    none : {A : Type 0} → false ≡ true → A
    none e = absurd (not_both e)

    -- An expression needs what a child needs.
    expr_child : (w : NodeOf is_expression p n) → ExpressionKind (kind_at p n) → (c : ℕ) → Above p n c → E c
    unfolding needs_e fields_of row is_child ◌and◌
    expr_child w (is_variable e) c a = from_above p n E 16 c e none none none a
    expr_child w (is_constant e) c a = from_above p n E 17 c e none none none a
    expr_child w (is_negation e) c a =
        from_above p n E 24 c e (λ _ q l t. ap (needs_e x) (negation_tree p n w e) ∙ t.e (negation_kid p n w e).node) none none a
    expr_child w (is_choice e) c a =
        let k = choice_kids p n w e in
        let tree = ap (needs_e x) (choice_tree p n w e) in
        from_above p n E 27 c e (λ _ q l t. tree ∙ or_left _ _ (or_left _ _ (t.e k.0.node)))
        (λ _ q l t. tree ∙ or_left _ _ (or_right (needs_e x (expr_at p (a_at p n))) _ (t.e k.1.node)))
        (λ _ q l t. tree ∙ or_right (needs_e x (expr_at p (a_at p n)) or needs_e x (expr_at p (b_at p n))) _ (t.e k.2.node)) a
    expr_child w (is_just e) c a =
        from_above p n E 28 c e (λ _ q l t. ap (needs_e x) (just_tree p n w e) ∙ t.e (just_kid p n w e).node) none none a
    expr_child w (is_taking e) c a =
        let k = taking_kids p n w e in
        let tree = ap (needs_e x) (taking_tree p n w e) in
        from_above p n E 29 c e (λ _ q l t. tree ∙ or_left _ _ (or_left _ _ (t.e k.0.node)))
        (λ _ q l t. tree ∙ or_left _ _ (or_right (needs_e x (expr_at p (a_at p n))) _ (t.e k.1.node)))
        (λ _ q l t. tree ∙ or_right (needs_e x (expr_at p (a_at p n)) or needs_e x (expr_at p (b_at p n))) _ (t.e k.2.node)) a
    expr_child w (is_operation o) c a =
        let k = operation_kids p n w o in
        let two = two_kids (kind_at p n) w.sorted o in
        let tree = ap (needs_e x) (operation_tree p n w o) in
        from_above p n E (kind_at p n) c refl (λ _ q l t. tree ∙ or_left _ _ (t.e k.0.node))
        (λ _ q l t. tree ∙ or_right (needs_e x (expr_at p (a_at p n))) _ (t.e k.1.node)) (λ z. absurd (not_both (sym two.no_third ∙ z))) a

    -- So does a signal, of the children that count.
    signal_child : (w : NodeOf is_signal p n) → SignalKind (kind_at p n) → (c : ℕ) → Above p n c → S c
    unfolding needs_s fields_of row is_child ◌and◌
    signal_child w (is_input e) c a = from_above p n S 1 c e none none none a
    signal_child w (is_time e) c a = from_above p n S 2 c e none none none a
    signal_child w (is_ext e) c a =
        from_above p n S 3 c e (λ _ q l t. ap (needs_s x) (ext_tree p n w e) ∙ t.e (ext_kid p n w e).node) none none a
    signal_child w (is_delay e) c a = from_above p n S 4 c e (λ _ q l t. absurd (q.no_delay e)) none none a
    signal_child w (is_let e) c a =
        let k = let_kids p n w e in
        let tree = ap (needs_s x) (let_tree p n w e) in
        from_above p n S 5 c e (λ _ q l t. tree ∙ or_left _ _ (t.s k.0.node))
        (λ _ q l t. tree ∙ or_right (needs_s x (signal_at p (a_at p n))) _ (t.s k.1.node)) none a
    signal_child w (is_switch e) c a =
        let k = switch_kids p n w e in
        let tree = ap (needs_s x) (switch_tree p n w e) in
        from_above p n S 6 c e (λ _ q l t. tree ∙ or_left _ _ (t.s k.0.node)) (λ _ q l t. absurd (q.no_switch_event e refl))
        (λ _ q l t. tree ∙ or_right (needs_s x (signal_at p (a_at p n))) _ (t.s k.2.node)) a
    signal_child w (is_group e) c a =
        let k = group_kids p n w e in
        let tree = ap (needs_s x) (group_tree p n w e) in
        from_above p n S 7 c e (λ _ q l t. tree ∙ or_left _ _ (t.s k.0.node))
        (λ _ q l t. tree ∙ or_right (needs_s x (signal_at p (a_at p n))) _ (t.b k.1.node)) none a
    signal_child w (is_until e) c a =
        from_above p n S 8 c e (λ _ q l t. ap (needs_s x) (until_tree p n w e) ∙ t.s (until_kids p n w e).0.node)
        (λ _ q l t. absurd (q.no_until_event e refl)) none a

    -- So does a branch.
    branch_child : (w : NodeOf is_branch p n) → kind_at p n ≡ 9 → (c : ℕ) → Above p n c → B c
    unfolding needs_s fields_of row is_child
    branch_child w e c a =
        from_above p n B 9 c e
        (λ _ q l t. ap (needs_b x) (branch_law p n w refl) ∙ or_left _ _ (t.s (branch_kid p n w).node))
        (λ _ q l t. let d : b_at p n ≡ 65535 → ⊥ = λ z. omega (arith, w.shaped.small) in
        ap (needs_b x) (branch_on p n w d) ∙ or_right (needs_s x (signal_at p (a_at p n))) _ (t.b (branch_next p n w d).node))
        none a

  -- From the relation to the tests.
  tests : (n : ℕ) → NeedsAt p x n → Tests n
  unfolding needs_e is_signal is_branch ◌and◌
  tests n (itself k q) = record {
    e = λ w. ap (needs_e x) (expr_variable p n k) ∙ eq-eqb _ _ q;
    s = λ w. absurd (not_both (sym (ap (λ (j : ℕ). is_signal j) k) ∙ w.sorted));
    b = λ w. absurd (not_both (sym (ap (λ (j : ℕ). is_branch j) k) ∙ w.sorted));
  }
  tests n (a_child c l q h) =
      let t = tests c h in
      record {
        e = λ w. expr_child n w (expression_kind (kind_at p n)) c q.child q l t;
        s = λ w. signal_child n w (signal_kind (kind_at p n) w.sorted) c q.child q l t;
        b = λ w. branch_child n w (eqb-true _ _ w.sorted) c q.child q l t;
      }

-- The same for a signal.
pub needs_signal : (p : Bytes) (x n : ℕ) → NodeOf is_signal p n → NeedsAt p x n → needs_s x (signal_at p n) ≡ true
needs_signal p x n w h = (tests p x n h).s w

-- The kinds of which not every child counts.
abbrev sparing : ℕ → Bool
sparing k = eqb k 4 or eqb k 6 or eqb k 8

-- Of every other kind all children count.
all_count : (p : Bytes) (n c k : ℕ) → kind_at p n ≡ k → sparing k ≡ false → Above p n c → Counted p n c
unfolding ◌or◌
all_count p n c k e f a = record {
  child = a;
  no_delay = λ q. not_both (sym f ∙ ap (λ (j : ℕ). sparing j) (sym e ∙ q));
  no_switch_event = λ q z. not_both (sym f ∙ ap (λ (j : ℕ). sparing j) (sym e ∙ q));
  no_until_event = λ q z. not_both (sym f ∙ ap (λ (j : ℕ). sparing j) (sym e ∙ q));
}

-- No expression is of these kinds.
operation_counts : (k : ℕ) → is_expression k ≡ true → sparing k ≡ false
unfolding is_expression
operation_counts k h =
    let l = leb-true 16 k (and_both _ _ h).0 in
    or_false (or_false (ne_eqb k 4 (λ e. omega arith)) (ne_eqb k 6 (λ e. omega arith))) (ne_eqb k 8 (λ e. omega arith))

-- From the tests to the relation.
module _ (p : Bytes) (t : Table p) (x : ℕ) where
  module _ (n : ℕ) (ih : (m : ℕ) → m < n → NodeOf is_expression p m → needs_e x (expr_at p m) ≡ true → NeedsAt p x m) where
    kid : {m : ℕ} → Child is_expression p n m → Counted p n m → needs_e x (expr_at p m) ≡ true → NeedsAt p x n
    kid {m} c q h = a_child m c.node.inside q (ih m c.less c.node h)

    -- An expression, by its kind.
    expr_at_lem : (w : NodeOf is_expression p n) → ExpressionKind (kind_at p n) → needs_e x (expr_at p n) ≡ true → NeedsAt p x n
    unfolding needs_e fields_of row is_child ◌and◌ ◌or◌
    expr_at_lem w (is_variable e) h = itself e (eqb-true _ _ (sym (ap (needs_e x) (expr_variable p n e)) ∙ h))
    expr_at_lem w (is_constant e) h = absurd (not_both (sym (ap (needs_e x) (expr_constant p n e)) ∙ h))
    expr_at_lem w (is_negation e) h =
        kid (negation_kid p n w e) (all_count p n _ 24 e refl (by_a (child_a p n 24 e refl) refl)) (sym (ap (needs_e x) (negation_tree p n w e)) ∙ h)
    expr_at_lem w (is_choice e) h =
        let k = choice_kids p n w e in
        by_either _ _ (sym (ap (needs_e x) (choice_tree p n w e)) ∙ h)
        (λ i. by_either _ _ i (kid k.0 (all_count p n _ 27 e refl (by_a (child_a p n 27 e refl) refl)))
        (kid k.1 (all_count p n _ 27 e refl (by_b (child_b p n 27 e refl) refl))))
        (kid k.2 (all_count p n _ 27 e refl (by_c (child_c p n 27 e refl) refl)))
    expr_at_lem w (is_just e) h =
        kid (just_kid p n w e) (all_count p n _ 28 e refl (by_a (child_a p n 28 e refl) refl)) (sym (ap (needs_e x) (just_tree p n w e)) ∙ h)
    expr_at_lem w (is_taking e) h =
        let k = taking_kids p n w e in
        by_either _ _ (sym (ap (needs_e x) (taking_tree p n w e)) ∙ h)
        (λ i. by_either _ _ i (kid k.0 (all_count p n _ 29 e refl (by_a (child_a p n 29 e refl) refl)))
        (kid k.1 (all_count p n _ 29 e refl (by_b (child_b p n 29 e refl) refl))))
        (kid k.2 (all_count p n _ 29 e refl (by_c (child_c p n 29 e refl) refl)))
    expr_at_lem w (is_operation o) h =
        let k = operation_kids p n w o in
        let two = two_kids (kind_at p n) w.sorted o in
        let f = operation_counts (kind_at p n) w.sorted in
        by_either _ _ (sym (ap (needs_e x) (operation_tree p n w o)) ∙ h)
        (kid k.0 (all_count p n _ (kind_at p n) refl f (by_a two.first_kid refl)))
        (kid k.1 (all_count p n _ (kind_at p n) refl f (by_b two.second_kid refl)))

  -- Every expression.
  expr_needs : (g n : ℕ) → n < g → NodeOf is_expression p n → needs_e x (expr_at p n) ≡ true → NeedsAt p x n
  expr_needs zero n l w h = absurd (not-suc-le-zero l)
  expr_needs (suc g) n l w h = expr_at_lem n (λ m i. expr_needs g m (omega arith)) w (expression_kind (kind_at p n)) h

  record NeedsHere (n : ℕ) : Type 0 where
    signals : NodeOf is_signal p n → needs_s x (signal_at p n) ≡ true → NeedsAt p x n
    branches : NodeOf is_branch p n → needs_b x (branches_at p n) ≡ true → NeedsAt p x n

  module _ (n : ℕ) (ih : (m : ℕ) → m < n → NeedsHere m) where
    sub : {m : ℕ} → Child is_signal p n m → Counted p n m → needs_s x (signal_at p m) ≡ true → NeedsAt p x n
    sub {m} c q h = a_child m c.node.inside q ((ih m c.less).signals c.node h)

    -- A child that is a branch.
    brs : {m : ℕ} → Child is_branch p n m → Counted p n m → needs_b x (branches_at p m) ≡ true → NeedsAt p x n
    brs {m} c q h = a_child m c.node.inside q ((ih m c.less).branches c.node h)

    -- First and second of a switch, and an until's signal, count.
    switch_first : kind_at p n ≡ 6 → n < nodes p → a_at p n < n → Counted p n (a_at p n)
    unfolding fields_of row is_child
    switch_first e l i = record {
      child = by_a (child_a p n 6 e refl) refl;
      no_delay = λ q. omega arith;
      no_switch_event = λ q z. not_a_b p (a_at p n) (t.once (a_at p n) (omega arith)) n l (child_a p n 6 e refl) (child_b p n 6 e refl) refl z;
      no_until_event = λ q z. omega arith;
    }

    -- A switch's second, which is not its event.
    switch_second : kind_at p n ≡ 6 → n < nodes p → c_at p n < n → Counted p n (c_at p n)
    unfolding fields_of row is_child
    switch_second e l i = record {
      child = by_c (child_c p n 6 e refl) refl;
      no_delay = λ q. omega arith;
      no_switch_event = λ q z. not_b_c p (c_at p n) (t.once (c_at p n) (omega arith)) n l (child_b p n 6 e refl) (child_c p n 6 e refl) z refl;
      no_until_event = λ q z. omega arith;
    }

    -- An until's signal, which is not its list of cases.
    until_signal : kind_at p n ≡ 8 → n < nodes p → a_at p n < n → Counted p n (a_at p n)
    unfolding fields_of row is_child
    until_signal e l i = record {
      child = by_a (child_a p n 8 e refl) refl;
      no_delay = λ q. omega arith;
      no_switch_event = λ q z. omega arith;
      no_until_event = λ q z. not_a_b p (a_at p n) (t.once (a_at p n) (omega arith)) n l (child_a p n 8 e refl) (child_b p n 8 e refl) refl z;
    }

    -- A signal, by its kind.
    signal_at_lem : (w : NodeOf is_signal p n) → SignalKind (kind_at p n) → needs_s x (signal_at p n) ≡ true → NeedsAt p x n
    unfolding needs_s fields_of row is_child ◌or◌
    signal_at_lem w (is_input e) h = absurd (not_both (sym (ap (needs_s x) (signal_input p n e)) ∙ h))
    signal_at_lem w (is_time e) h = absurd (not_both (sym (ap (needs_s x) (signal_time p n e)) ∙ h))
    signal_at_lem w (is_ext e) h =
        let k = ext_kid p n w e in
        a_child (a_at p n) k.node.inside (all_count p n _ 3 e refl (by_a (child_a p n 3 e refl) refl))
        (expr_needs (suc (a_at p n)) (a_at p n) (omega arith) k.node (sym (ap (needs_s x) (ext_tree p n w e)) ∙ h))
    signal_at_lem w (is_delay e) h = absurd (not_both (sym (ap (needs_s x) (delay_tree p n w e)) ∙ h))
    signal_at_lem w (is_let e) h =
        let k = let_kids p n w e in
        by_either _ _ (sym (ap (needs_s x) (let_tree p n w e)) ∙ h)
        (sub k.0 (all_count p n _ 5 e refl (by_a (child_a p n 5 e refl) refl)))
        (sub k.1 (all_count p n _ 5 e refl (by_b (child_b p n 5 e refl) refl)))
    signal_at_lem w (is_switch e) h =
        let k = switch_kids p n w e in
        by_either _ _ (sym (ap (needs_s x) (switch_tree p n w e)) ∙ h)
        (sub k.0 (switch_first e w.inside k.0.less)) (sub k.2 (switch_second e w.inside k.2.less))
    signal_at_lem w (is_group e) h =
        let k = group_kids p n w e in
        by_either _ _ (sym (ap (needs_s x) (group_tree p n w e)) ∙ h)
        (sub k.0 (all_count p n _ 7 e refl (by_a (child_a p n 7 e refl) refl)))
        (brs k.1 (all_count p n _ 7 e refl (by_b (child_b p n 7 e refl) refl)))
    signal_at_lem w (is_until e) h =
        let k = until_kids p n w e in
        sub k.0 (until_signal e w.inside k.0.less) (sym (ap (needs_s x) (until_tree p n w e)) ∙ h)

    -- A branch, with or without a next.
    branch_at : (w : NodeOf is_branch p n) → kind_at p n ≡ 9 → needs_b x (branches_at p n) ≡ true → NeedsAt p x n
    unfolding needs_s fields_of row is_child ◌or◌
    branch_at w e h =
        let body = sub (branch_kid p n w) (all_count p n _ 9 e refl (by_a (child_a p n 9 e refl) refl)) in
        choose (b_at p n) 65535
        (λ q. by_either _ _ (sym (ap (needs_b x) (branch_end p n w q)) ∙ h) body (λ z. absurd (not_both z)))
        (λ d. by_either _ _ (sym (ap (needs_b x) (branch_on p n w d)) ∙ h) body
        (brs (branch_next p n w d) (all_count p n _ 9 e refl (by_b (child_b p n 9 e refl) refl))))

  -- Every signal and branch.
  needs_here : (g n : ℕ) → n < g → NeedsHere n
  unfolding is_branch
  needs_here zero n l = absurd (not-suc-le-zero l)
  needs_here (suc g) n l =
      let ih : (m : ℕ) → m < n → NeedsHere m = λ m i. needs_here g m (omega arith) in
      record {
        signals = λ w h. signal_at_lem n ih w (signal_kind (kind_at p n) w.sorted) h;
        branches = λ w h. branch_at n ih w (eqb-true _ _ w.sorted) h;
      }

-- The same for a signal.
pub signal_needs : (p : Bytes) → Table p → (x n : ℕ) → NodeOf is_signal p n → needs_s x (signal_at p n) ≡ true → NeedsAt p x n
signal_needs p t x n w h = (needs_here p t x (suc n) n (omega arith)).signals w h
