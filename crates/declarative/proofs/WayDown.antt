-- Where every variable and every case below a bound is in scope by the way up, the definition finds no fault of scope there on its way down.
-- Assumes nothing.
use mathlib.Core.Path.{◌≡◌, refl, sym, ap, subst, ◌∙◌}
use mathlib.Core.List.{[], ◌∷◌}
use mathlib.Core.Bool.{true, false}
use Prim.Native.Nat.{ℕ, zero, suc, ◌<◌}
use native.Mathlib.Nat.{not-suc-le-zero}
use native.Mathlib.Omega.{arith}
use borrow.Author.Tests.{leb-true, eqb-true, ne_eqb}
use Rattle.rules.specs.Bytes.{Bytes, ◌and◌, ◌or◌}
use Rattle.rules.specs.Layout.{edition, nodes, kind_at, a_at, b_at, c_at}
use Rattle.rules.specs.Kinds.{row, is_signal, is_expression, is_branch, is_case, fields_of}
use Rattle.rules.specs.Shape.{is_child}
use Rattle.rules.specs.Shaped.{NodeOf}
use Rattle.rules.specs.Tree.{Expr, Signal, Branches, Cases, expr_at, signal_at, branches_at, cases_at}
use Rattle.rules.specs.Scope.{Marks, mark, Offers, onward, is_offered, has_branch, scope_e, scope_s, scope_b, scope_c}
use Rattle.rules.proofs.Static.{and_both, or_left, or_right}
use Rattle.rules.proofs.Nodes.{expr_variable, expr_constant, signal_input, signal_time}
use Rattle.rules.proofs.Kids.{Child}
use Rattle.rules.proofs.Expressions.{IsOperation, negation_kid, negation_tree, just_kid, just_tree, choice_kids, choice_tree, taking_kids, taking_tree, operation_kids, operation_tree}
use Rattle.rules.proofs.Signals.{ext_kid, ext_tree, delay_kid, delay_tree, let_kids, let_tree, switch_kids, switch_tree, group_kids, group_tree, until_kids, until_tree, branch_kid, branch_next, branch_end, branch_on, case_kid, case_next, case_end, case_on}
use Rattle.rules.proofs.ByKind.{ExpressionKind, is_variable, is_constant, is_negation, is_choice, is_just, is_taking, is_operation, expression_kind, SignalKind, is_input, is_time, is_ext, is_delay, is_let, is_switch, is_group, is_until, signal_kind, choose, two_kids}
use Rattle.declarative.specs.WayUp.{Above, by_a, by_b, by_c, GroupOf, BranchOf, ScopeRight}
use Rattle.declarative.proofs.Free.{Free, free_nowhere, free_sooner, free_right}
use Rattle.declarative.proofs.Joining.{or_false}
use Rattle.declarative.proofs.Parents.{child_a, child_b, child_c, Table}
use Rattle.declarative.proofs.Parts.{listed, Seen, Reached, ReachedC, binding, passing, no_binds, no_passes, no_arrives, switch_a, switch_b, branch_b, take_a, take_b, let_a, keep, more, stop, pass, arrive, its_cases, next_case}

-- An operation's kind binds nothing.
operation_binds : (k : ℕ) → is_expression k ≡ true → IsOperation k → binding k ≡ false
unfolding is_expression
operation_binds k h o =
    let l = leb-true 16 k (and_both _ _ h).0 in
    or_false (or_false (or_false (ne_eqb k 5 (λ e. omega arith)) (ne_eqb k 6 (λ e. omega arith))) (ne_eqb k 9 (λ e. omega arith)))
    (ne_eqb k 29 o.no29)

-- A branch is of kind 9,
is_9 : (p : Bytes) (n : ℕ) → NodeOf is_branch p n → kind_at p n ≡ 9
unfolding is_branch
is_9 p n w = eqb-true _ _ w.sorted

-- and a case of kind 10.
is_10 : (p : Bytes) (n : ℕ) → NodeOf is_case p n → kind_at p n ≡ 10
unfolding is_case
is_10 p n w = eqb-true _ _ w.sorted

-- In edition two a group hands on all.
onward_all : (ed : ℕ) (O : Offers) → 0 < ed → onward ed O ≡ O
unfolding onward
onward_all zero O h = absurd (not-suc-le-zero h)
onward_all (suc ed) O h = refl

module _ (p : Bytes) (t : Table p) (β : ℕ) (sc : (n : ℕ) → n < β → n < nodes p → ScopeRight p n) where
  -- What is to be shown of an expression, a signal, a branch and a case.
  abbrev E : ℕ → Type 0
  E n = NodeOf is_expression p n → (M : Marks) → Seen p M n → Free β (scope_e M (expr_at p n))

  abbrev S : ℕ → Type 0
  S n = NodeOf is_signal p n → (M : Marks) (O : Offers) → Seen p M n → Reached p O n → Free β (scope_s (edition p) M O (signal_at p n))

  abbrev B : ℕ → Type 0
  B n = NodeOf is_branch p n → (M : Marks) (O : Offers) → Seen p M n → Reached p O n → Free β (scope_b (edition p) M O (branches_at p n))

  abbrev C : ℕ → Type 0
  C n = NodeOf is_case p n → (M : Marks) (O : Offers) → Seen p M n → ReachedC p O n → Free β (scope_c (edition p) M O (cases_at p n))

  module _ (n : ℕ) (l : n < nodes p) where
    -- A child by its field, in the marks of a node that does not bind there.
    keep_a : (k : ℕ) → kind_at p n ≡ k → is_child (fields_of k).a ≡ true → binding k ≡ false → a_at p n < n → (M : Marks) → Seen p M n
        → Seen p M (a_at p n)
    keep_a k e c b h M s = keep p t n (a_at p n) l h (by_a (child_a p n k e c) refl) M (no_binds p n (a_at p n) k e b) s

    -- The same by b,
    keep_b : (k : ℕ) → kind_at p n ≡ k → is_child (fields_of k).b ≡ true → binding k ≡ false → b_at p n < n → (M : Marks) → Seen p M n
        → Seen p M (b_at p n)
    keep_b k e c b h M s = keep p t n (b_at p n) l h (by_b (child_b p n k e c) refl) M (no_binds p n (b_at p n) k e b) s

    -- and by c.
    keep_c : (k : ℕ) → kind_at p n ≡ k → is_child (fields_of k).c ≡ true → binding k ≡ false → c_at p n < n → (M : Marks) → Seen p M n
        → Seen p M (c_at p n)
    keep_c k e c b h M s = keep p t n (c_at p n) l h (by_c (child_c p n k e c) refl) M (no_binds p n (c_at p n) k e b) s

    -- And where no group is reached.
    stop_a : (k : ℕ) → kind_at p n ≡ k → is_child (fields_of k).a ≡ true → (k ≡ 7 → ⊥) → passing k ≡ false → a_at p n < n → Reached p [] (a_at p n)
    stop_a k e c d f h =
        stop p t n (a_at p n) l h (by_a (child_a p n k e c) refl) [] (no_arrives p n (a_at p n) k e d) (no_passes p n (a_at p n) k e f)

    -- The same by b,
    stop_b : (k : ℕ) → kind_at p n ≡ k → is_child (fields_of k).b ≡ true → (k ≡ 7 → ⊥) → passing k ≡ false → b_at p n < n → Reached p [] (b_at p n)
    stop_b k e c d f h =
        stop p t n (b_at p n) l h (by_b (child_b p n k e c) refl) [] (no_arrives p n (b_at p n) k e d) (no_passes p n (b_at p n) k e f)

    -- and by c.
    stop_c : (k : ℕ) → kind_at p n ≡ k → is_child (fields_of k).c ≡ true → (k ≡ 7 → ⊥) → passing k ≡ false → c_at p n < n → Reached p [] (c_at p n)
    stop_c k e c d f h =
        stop p t n (c_at p n) l h (by_c (child_c p n k e c) refl) [] (no_arrives p n (c_at p n) k e d) (no_passes p n (c_at p n) k e f)

  -- An expression, given this for smaller ones.
  module _ (n : ℕ) (ih : (m : ℕ) → m < n → E m) where
    kid : {x : ℕ} → Child is_expression p n x → (M : Marks) → Seen p M x → Free β (scope_e M (expr_at p x))
    kid {x} c M s = ih x c.less c.node M s

    -- By its kind.
    expr_at_lem : ExpressionKind (kind_at p n) → E n
    unfolding scope_e fields_of row is_child ◌and◌ ◌or◌
    expr_at_lem (is_variable e) w M s =
        subst (λ (x : Expr). Free β (scope_e M x)) (sym (expr_variable p n e)) (free_right _ n (λ i. s.all (a_at p n) ((sc n i w.inside).variable e)))
    expr_at_lem (is_constant e) w M s = subst (λ (x : Expr). Free β (scope_e M x)) (sym (expr_constant p n e)) free_nowhere
    expr_at_lem (is_negation e) w M s =
        let k = negation_kid p n w e in
        subst (λ (x : Expr). Free β (scope_e M x)) (sym (negation_tree p n w e)) (kid k M (keep_a n w.inside 24 e refl refl k.less M s))
    expr_at_lem (is_choice e) w M s =
        let k = choice_kids p n w e in
        subst (λ (x : Expr). Free β (scope_e M x)) (sym (choice_tree p n w e))
        (free_sooner (kid k.0 M (keep_a n w.inside 27 e refl refl k.0.less M s))
        (free_sooner (kid k.1 M (keep_b n w.inside 27 e refl refl k.1.less M s))
        (kid k.2 M (keep_c n w.inside 27 e refl refl k.2.less M s))))
    expr_at_lem (is_just e) w M s =
        let k = just_kid p n w e in
        subst (λ (x : Expr). Free β (scope_e M x)) (sym (just_tree p n w e)) (kid k M (keep_a n w.inside 28 e refl refl k.less M s))
    expr_at_lem (is_taking e) w M s =
        let k = taking_kids p n w e in
        let l = w.inside in
        subst (λ (x : Expr). Free β (scope_e M x)) (sym (taking_tree p n w e))
        (free_sooner
        (kid k.0 M (keep p t n (a_at p n) l k.0.less (by_a (child_a p n 29 e refl) refl) M (take_a p t n (a_at p n) l k.0.less e refl) s))
        (free_sooner
        (kid k.1 M (keep p t n (b_at p n) l k.1.less (by_b (child_b p n 29 e refl) refl) M (take_b p t n (b_at p n) l k.1.less e refl) s))
        (kid k.2 (mark M n) (more p t n (c_at p n) l k.2.less (by_c (child_c p n 29 e refl) refl) M s))))
    expr_at_lem (is_operation o) w M s =
        let k = operation_kids p n w o in
        let b = operation_binds (kind_at p n) w.sorted o in
        let two = two_kids (kind_at p n) w.sorted o in
        subst (λ (x : Expr). Free β (scope_e M x)) (sym (operation_tree p n w o))
        (free_sooner (kid k.0 M (keep_a n w.inside (kind_at p n) refl two.first_kid b k.0.less M s))
        (kid k.1 M (keep_b n w.inside (kind_at p n) refl two.second_kid b k.1.less M s)))

  -- Every expression.
  expr_down : (g n : ℕ) → n < g → E n
  expr_down zero n h = absurd (not-suc-le-zero h)
  expr_down (suc g) n h = expr_at_lem n (λ m l. expr_down g m (omega arith)) (expression_kind (kind_at p n))

  -- A signal, a branch and a case, given this for smaller ones.
  record DownAt (n : ℕ) : Type 0 where
    signals : S n
    branches : B n
    cases : C n

  module _ (n : ℕ) (ih : (m : ℕ) → m < n → DownAt m) where
    sub : {x : ℕ} → Child is_signal p n x → (M : Marks) (O : Offers) → Seen p M x → Reached p O x → Free β (scope_s (edition p) M O (signal_at p x))
    sub {x} c = (ih x c.less).signals c.node

    brs : {x : ℕ} → Child is_branch p n x → (M : Marks) (O : Offers) → Seen p M x → Reached p O x → Free β (scope_b (edition p) M O (branches_at p x))
    brs {x} c = (ih x c.less).branches c.node

    cs : {x : ℕ} → Child is_case p n x → (M : Marks) (O : Offers) → Seen p M x → ReachedC p O x → Free β (scope_c (edition p) M O (cases_at p x))
    cs {x} c = (ih x c.less).cases c.node

    -- A signal, by its kind.
    signal_at_lem : SignalKind (kind_at p n) → S n
    unfolding scope_s is_offered fields_of row is_child ◌or◌
    signal_at_lem (is_input e) w M O s r = subst (λ (x : Signal). Free β (scope_s (edition p) M O x)) (sym (signal_input p n e)) free_nowhere
    signal_at_lem (is_time e) w M O s r = subst (λ (x : Signal). Free β (scope_s (edition p) M O x)) (sym (signal_time p n e)) free_nowhere
    signal_at_lem (is_ext e) w M O s r =
        let k = ext_kid p n w e in
        subst (λ (x : Signal). Free β (scope_s (edition p) M O x)) (sym (ext_tree p n w e))
        (expr_down (suc (a_at p n)) (a_at p n) (omega arith) k.node M (keep_a n w.inside 3 e refl refl k.less M s))
    signal_at_lem (is_delay e) w M O s r =
        let k = delay_kid p n w e in
        subst (λ (x : Signal). Free β (scope_s (edition p) M O x)) (sym (delay_tree p n w e))
        (sub k M [] (keep_a n w.inside 4 e refl refl k.less M s) (stop_a n w.inside 4 e refl (λ z. omega arith) refl k.less))
    signal_at_lem (is_let e) w M O s r =
        let k = let_kids p n w e in
        let l = w.inside in
        let ua : Above p n (a_at p n) = by_a (child_a p n 5 e refl) refl in
        let ub : Above p n (b_at p n) = by_b (child_b p n 5 e refl) refl in
        subst (λ (x : Signal). Free β (scope_s (edition p) M O x)) (sym (let_tree p n w e))
        (free_sooner
        (sub k.0 (mark M n) [] (more p t n (a_at p n) l k.0.less ua M s)
        (stop p t n (a_at p n) l k.0.less ua [] (no_arrives p n (a_at p n) 5 e (λ z. omega arith)) (let_a p t n (a_at p n) l k.0.less e refl)))
        (sub k.1 (mark M n) O (more p t n (b_at p n) l k.1.less ub M s)
        (pass p t n (b_at p n) l k.1.less ub O (no_arrives p n (b_at p n) 5 e (λ z. omega arith)) r)))
    signal_at_lem (is_switch e) w M O s r =
        let k = switch_kids p n w e in
        let l = w.inside in
        subst (λ (x : Signal). Free β (scope_s (edition p) M O x)) (sym (switch_tree p n w e))
        (free_sooner
        (sub k.0 M []
        (keep p t n (a_at p n) l k.0.less (by_a (child_a p n 6 e refl) refl) M (switch_a p t n (a_at p n) l k.0.less e refl) s)
        (stop_a n l 6 e refl (λ z. omega arith) refl k.0.less))
        (free_sooner
        (sub k.1 M []
        (keep p t n (b_at p n) l k.1.less (by_b (child_b p n 6 e refl) refl) M (switch_b p t n (b_at p n) l k.1.less e refl) s)
        (stop_b n l 6 e refl (λ z. omega arith) refl k.1.less))
        (sub k.2 (mark M n) [] (more p t n (c_at p n) l k.2.less (by_c (child_c p n 6 e refl) refl) M s)
        (stop_c n l 6 e refl (λ z. omega arith) refl k.2.less))))
    signal_at_lem (is_group e) w M O s r =
        let k = group_kids p n w e in
        let l = w.inside in
        let own : Offers = branches_at p (b_at p n) ∷ onward (edition p) O in
        let has : (j : ℕ) → BranchOf p j (b_at p n) → is_offered j own ≡ true = λ j b. or_left _ _ (listed p j (b_at p n) k.1.node b) in
        let far : 0 < edition p → (g j : ℕ) → GroupOf p g n → BranchOf p j (b_at p g) → is_offered j own ≡ true =
        λ two g j h b. or_right (has_branch j (branches_at p (b_at p n))) _ (ap (is_offered j) (onward_all (edition p) O two) ∙ r.all g j h b) in
        subst (λ (x : Signal). Free β (scope_s (edition p) M O x)) (sym (group_tree p n w e))
        (free_sooner
        (sub k.0 M own (keep_a n l 7 e refl refl k.0.less M s)
        (arrive p t n (a_at p n) l k.0.less (by_a (child_a p n 7 e refl) refl) own (no_passes p n (a_at p n) 7 e refl) has far))
        (brs k.1 M own (keep_b n l 7 e refl refl k.1.less M s)
        (arrive p t n (b_at p n) l k.1.less (by_b (child_b p n 7 e refl) refl) own (no_passes p n (b_at p n) 7 e refl) has far)))
    signal_at_lem (is_until e) w M O s r =
        let k = until_kids p n w e in
        let l = w.inside in
        subst (λ (x : Signal). Free β (scope_s (edition p) M O x)) (sym (until_tree p n w e))
        (free_sooner
        (sub k.0 M [] (keep_a n l 8 e refl refl k.0.less M s) (stop_a n l 8 e refl (λ z. omega arith) refl k.0.less))
        (cs k.1 M O (keep_b n l 8 e refl refl k.1.less M s)
        (its_cases p t n (b_at p n) l k.1.less (by_b (child_b p n 8 e refl) refl) O e r)))

    -- A branch, with or without a next.
    branch_at : B n
    unfolding scope_s fields_of row is_child
    branch_at w M O s r =
        let e = is_9 p n w in
        let l = w.inside in
        let k = branch_kid p n w in
        let ua : Above p n (a_at p n) = by_a (child_a p n 9 e refl) refl in
        let ub : Above p n (b_at p n) = by_b (child_b p n 9 e refl) refl in
        let body = sub k (mark M n) O (more p t n (a_at p n) l k.less ua M s)
        (pass p t n (a_at p n) l k.less ua O (no_arrives p n (a_at p n) 9 e (λ z. omega arith)) r) in
        choose (b_at p n) 65535
        (λ q. subst (λ (x : Branches). Free β (scope_b (edition p) M O x)) (sym (branch_end p n w q)) (free_sooner body free_nowhere))
        (λ d. let j = branch_next p n w d in
        subst (λ (x : Branches). Free β (scope_b (edition p) M O x)) (sym (branch_on p n w d))
        (free_sooner body
        (brs j M O (keep p t n (b_at p n) l j.less ub M (branch_b p t n (b_at p n) l j.less e refl) s)
        (pass p t n (b_at p n) l j.less ub O (no_arrives p n (b_at p n) 9 e (λ z. omega arith)) r))))

    -- A case, with or without a next: its target is offered.
    case_at : C n
    unfolding scope_s fields_of row is_child ◌or◌
    case_at w M O s r =
        let e = is_10 p n w in
        let l = w.inside in
        let k = case_kid p n w in
        let own = free_right _ n λ i.
        let g = (sc n i l).case e in
        r.all g.until₀ g.group₀ (c_at p n) g.its_until g.its_group g.its_branch in
        let event = sub k M [] (keep_a n l 10 e refl refl k.less M s) (stop_a n l 10 e refl (λ z. omega arith) refl k.less) in
        choose (b_at p n) 65535
        (λ q. subst (λ (x : Cases). Free β (scope_c (edition p) M O x)) (sym (case_end p n w q)) (free_sooner own (free_sooner event free_nowhere)))
        (λ d. let j = case_next p n w d in
        subst (λ (x : Cases). Free β (scope_c (edition p) M O x)) (sym (case_on p n w d))
        (free_sooner own (free_sooner event
        (cs j M O (keep_b n l 10 e refl refl j.less M s)
        (next_case p t n (b_at p n) l j.less (by_b (child_b p n 10 e refl) refl) O e r)))))

  -- Every signal, branch and case.
  down_at : (g n : ℕ) → n < g → DownAt n
  down_at zero n h = absurd (not-suc-le-zero h)
  down_at (suc g) n h =
      let ih : (m : ℕ) → m < n → DownAt m = λ m l. down_at g m (omega arith) in
      record {
        signals = λ w. signal_at_lem n ih (signal_kind (kind_at p n) w.sorted) w;
        branches = branch_at n ih;
        cases = case_at n ih;
      }

-- The tree at a signal, in marks and offers that have all that the way up from it comes to.
pub scope_down : (p : Bytes) → Table p → (β : ℕ) → ((n : ℕ) → n < β → n < nodes p → ScopeRight p n) → (n : ℕ) → NodeOf is_signal p n
    → (M : Marks) (O : Offers) → Seen p M n → Reached p O n → Free β (scope_s (edition p) M O (signal_at p n))
scope_down p t β sc n w M O s r = (down_at p t β sc (suc n) n (omega arith)).signals w M O s r
