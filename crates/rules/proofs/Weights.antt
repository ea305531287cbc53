-- What a tree weighs, each node that has no cell the same and each that has one by the number of its cell; and the same summed along the
-- children of a table. In a shaped program the two agree.
-- Assumes nothing.
use Rattle.std.specs.Prelude.{if◌then◌else◌}
use mathlib.Core.Path.{◌≡◌, refl, sym, ap, ◌∙◌}
use mathlib.Core.Bool.{Bool, true, false}
use Prim.Native.Nat.{ℕ, zero, suc, ◌+◌, ◌<◌}
use native.Mathlib.Nat.{not-suc-le-zero}
use native.Mathlib.Omega.{arith}
use borrow.Author.Tests.{eqb-true}
use Rattle.rules.specs.Bytes.{Bytes, ◌and◌, ◌or◌}
use Rattle.rules.specs.Layout.{kind_at, a_at, b_at, c_at, has_cell, cells_before}
use Rattle.rules.specs.declared.Field.{Field}
use Rattle.rules.specs.declared.Fields.{Fields}
use Rattle.rules.specs.Kinds.{row, is_signal, is_expression, is_branch, is_case, fields_of}
use Rattle.rules.specs.Shape.{is_child}
use Rattle.rules.specs.Shaped.{NodeOf}
use Rattle.rules.specs.Tree.{Expr, variable, constant, operation, negation, choice, just, taking, Signal, input, time, ext, delay, let_signal, switch, group, until, Branches, no_branch, branch, Cases, no_case, case, below, expr_at, signal_at, branches_at, cases_at}
use Rattle.rules.proofs.Laws.{below_same}
use Rattle.rules.proofs.Nodes.{below_lt, below_ge, expr_variable, expr_constant, signal_input, signal_time}
use Rattle.rules.proofs.Kids.{Child}
use Rattle.rules.proofs.Expressions.{IsOperation, negation_kid, negation_tree, just_kid, just_tree, choice_kids, choice_tree, taking_kids, taking_tree, operation_kids, operation_tree}
use Rattle.rules.proofs.Signals.{ext_kid, ext_tree, delay_kid, delay_tree, let_kids, let_tree, switch_kids, switch_tree, group_kids, group_tree, until_kids, until_tree, branch_kid, branch_next, branch_end, branch_on, case_kid, case_next, case_end, case_on}
use Rattle.rules.proofs.ByKind.{ExpressionKind, is_variable, is_constant, is_negation, is_choice, is_just, is_taking, is_operation, expression_kind, SignalKind, is_input, is_time, is_ext, is_delay, is_let, is_switch, is_group, is_until, signal_kind, choose, two_kids}

-- A tree's weight: u for each node without a cell, v k for the one with cell k.
unfoldable pub weigh_e : ℕ → Expr → ℕ
weigh_e u (variable n binder t) = u
weigh_e u (constant n v) = u
weigh_e u (operation n k x y) = u + weigh_e u x + weigh_e u y
weigh_e u (negation n x) = u + weigh_e u x
weigh_e u (choice n test x y) = u + weigh_e u test + weigh_e u x + weigh_e u y
weigh_e u (just n x) = u + weigh_e u x
weigh_e u (taking n t m x y) = u + weigh_e u m + weigh_e u x + weigh_e u y

unfoldable mutual
  pub weigh_s : Signal → ℕ → (ℕ → ℕ) → ℕ
  weigh_s (input n c) u v = u
  weigh_s (time n) u v = u
  weigh_s (ext n e) u v = u + weigh_e u e
  weigh_s (delay n k x s) u v = v k + weigh_s s u v
  weigh_s (let_signal n t d b) u v = u + weigh_s d u v + weigh_s b u v
  weigh_s (switch n k t x e y) u v = v k + weigh_s x u v + weigh_s e u v + weigh_s y u v
  weigh_s (group n k body brs) u v = v k + weigh_s body u v + weigh_b brs u v
  weigh_s (until n s cs) u v = u + weigh_s s u v + weigh_c cs u v

  pub weigh_b : Branches → ℕ → (ℕ → ℕ) → ℕ
  weigh_b no_branch u v = 0
  weigh_b (branch n t body next) u v = u + weigh_s body u v + weigh_b next u v

  pub weigh_c : Cases → ℕ → (ℕ → ℕ) → ℕ
  weigh_c no_case u v = 0
  weigh_c (case n event target t next) u v = u + weigh_s event u v + weigh_c next u v

-- What the children that a record's fields name weigh.
unfoldable pub of_child : Field → ℕ → ℕ
of_child f x = if is_child f then x else 0

unfoldable pub of_children : Fields → Bytes → ℕ → (ℕ → ℕ) → ℕ
of_children f p n kid = of_child f.a (kid (a_at p n)) + of_child f.b (kid (b_at p n)) + of_child f.c (kid (c_at p n))

-- A node's own weight, by its kind.
unfoldable pub own_as : ℕ → ℕ → ℕ → ℕ
own_as k u x = if has_cell k then x else u

-- What a node weighs with all its children, down to so many levels; and down to the leaves.
unfoldable pub whole_f : ℕ → Bytes → (ℕ → ℕ) → ℕ → ℕ
whole_f zero p own n = 0
whole_f (suc f) p own n = own n + of_children (fields_of (kind_at p n)) p n (below n 0 (λ m. whole_f f p own m))

unfoldable pub whole : Bytes → (ℕ → ℕ) → ℕ → ℕ
whole p own n = whole_f (suc n) p own n

whole_enough : (p : Bytes) (own : ℕ → ℕ) (f g n : ℕ) → n < f → n < g → whole_f f p own n ≡ whole_f g p own n
unfolding whole_f
whole_enough p own zero g n hf hg = absurd (not-suc-le-zero hf)
whole_enough p own (suc f) zero n hf hg = absurd (not-suc-le-zero hg)
whole_enough p own (suc f) (suc g) n hf hg =
    ap (λ (kid : ℕ → ℕ). own n + of_children (fields_of (kind_at p n)) p n kid)
    (below_same n 0 (λ m. whole_f f p own m) (λ m. whole_f g p own m)
    λ m h. whole_enough p own f g m (omega arith) (omega arith))

-- A node weighs what it weighs by itself, and what its children do.
pub whole_law : (p : Bytes) (own : ℕ → ℕ) (n : ℕ)
    → whole p own n ≡ own n + of_children (fields_of (kind_at p n)) p n (below n 0 (whole p own))
unfolding whole whole_f
whole_law p own n =
    ap (λ (kid : ℕ → ℕ). own n + of_children (fields_of (kind_at p n)) p n kid)
    (below_same n 0 (λ m. whole_f n p own m) (λ m. whole_f (suc m) p own m)
    λ m h. whole_enough p own n (suc m) m h (omega arith))

child_counts : (f : Field) (x : ℕ) → is_child f ≡ true → of_child f x ≡ x
unfolding of_child
child_counts f x e = simp e

other_does_not : (f : Field) (x : ℕ) → is_child f ≡ false → of_child f x ≡ 0
unfolding of_child
other_does_not f x e = simp e

own_no_cell : (k u x : ℕ) → has_cell k ≡ false → own_as k u x ≡ u
unfolding own_as
own_no_cell k u x e = simp e

module _ (p : Bytes) (u : ℕ) (v : ℕ → ℕ) where
  -- The weight of node n by itself, and with its children.
  abbrev pub own_at : ℕ → ℕ
  own_at n = own_as (kind_at p n) u (v (cells_before p n))

  abbrev at : ℕ → ℕ
  at n = whole p own_at n

  -- At a node of kind k.
  at_kind : (n k : ℕ) → kind_at p n ≡ k
      → at n ≡ own_as k u (v (cells_before p n)) + of_children (fields_of k) p n (below n 0 (whole p own_at))
  at_kind n k e =
      whole_law p own_at n
      ∙ ap (λ (j : ℕ). own_as j u (v (cells_before p n)) + of_children (fields_of j) p n (below n 0 (whole p own_at))) e

  -- The tree at an expression weighs what the node does, given this for smaller ones.
  module _ (n : ℕ) (ih : (m : ℕ) → m < n → NodeOf is_expression p m → weigh_e u (expr_at p m) ≡ at m) where
    kid : {x : ℕ} → Child is_expression p n x → weigh_e u (expr_at p x) ≡ below n 0 (whole p own_at) x
    kid {x} c = ih x c.less c.node ∙ sym (below_lt n 0 (whole p own_at) x c.less)

    operation_at : NodeOf is_expression p n → IsOperation (kind_at p n) → weigh_e u (expr_at p n) ≡ at n
    unfolding weigh_e of_children
    operation_at w o =
        let k = operation_kids p n w o in
        let t = two_kids (kind_at p n) w.sorted o in
        omega (
          arith,
          ap (weigh_e u) (operation_tree p n w o),
          at_kind n (kind_at p n) refl,
          kid k.0,
          kid k.1,
          own_no_cell (kind_at p n) u (v (cells_before p n)) t.no_cell,
          child_counts (fields_of (kind_at p n)).a (below n 0 (whole p own_at) (a_at p n)) t.first_kid,
          child_counts (fields_of (kind_at p n)).b (below n 0 (whole p own_at) (b_at p n)) t.second_kid,
          other_does_not (fields_of (kind_at p n)).c (below n 0 (whole p own_at) (c_at p n)) t.no_third,
        )

    expr_at_lem : NodeOf is_expression p n → ExpressionKind (kind_at p n) → weigh_e u (expr_at p n) ≡ at n
    unfolding weigh_e of_children of_child is_child own_as has_cell fields_of row ◌or◌ ◌and◌
    expr_at_lem w (is_variable e) = omega (arith, ap (weigh_e u) (expr_variable p n e), at_kind n 16 e)
    expr_at_lem w (is_constant e) = omega (arith, ap (weigh_e u) (expr_constant p n e), at_kind n 17 e)
    expr_at_lem w (is_negation e) = omega (arith, ap (weigh_e u) (negation_tree p n w e), at_kind n 24 e, kid (negation_kid p n w e))
    expr_at_lem w (is_choice e) =
        let k = choice_kids p n w e in
        omega (arith, ap (weigh_e u) (choice_tree p n w e), at_kind n 27 e, kid k.0, kid k.1, kid k.2)
    expr_at_lem w (is_just e) = omega (arith, ap (weigh_e u) (just_tree p n w e), at_kind n 28 e, kid (just_kid p n w e))
    expr_at_lem w (is_taking e) =
        let k = taking_kids p n w e in
        omega (arith, ap (weigh_e u) (taking_tree p n w e), at_kind n 29 e, kid k.0, kid k.1, kid k.2)
    expr_at_lem w (is_operation o) = operation_at w o

  pub expr_weighs : (f n : ℕ) → n < f → NodeOf is_expression p n → weigh_e u (expr_at p n) ≡ at n
  expr_weighs zero n h w = absurd (not-suc-le-zero h)
  expr_weighs (suc f) n h w = expr_at_lem n (λ m l. expr_weighs f m (omega arith)) w (expression_kind (kind_at p n))

  -- The same for a signal, a branch and a case.
  record Weighs (n : ℕ) : Type 0 where
    signals : NodeOf is_signal p n → weigh_s (signal_at p n) u v ≡ at n
    branches : NodeOf is_branch p n → weigh_b (branches_at p n) u v ≡ at n
    cases : NodeOf is_case p n → weigh_c (cases_at p n) u v ≡ at n

  module _ (n : ℕ) (ih : (m : ℕ) → m < n → Weighs m) where
    expr : {x : ℕ} → Child is_expression p n x → weigh_e u (expr_at p x) ≡ below n 0 (whole p own_at) x
    expr {x} c = expr_weighs (suc x) x (omega arith) c.node ∙ sym (below_lt n 0 (whole p own_at) x c.less)

    sub : {x : ℕ} → Child is_signal p n x → weigh_s (signal_at p x) u v ≡ below n 0 (whole p own_at) x
    sub {x} c = (ih x c.less).signals c.node ∙ sym (below_lt n 0 (whole p own_at) x c.less)

    brs : {x : ℕ} → Child is_branch p n x → weigh_b (branches_at p x) u v ≡ below n 0 (whole p own_at) x
    brs {x} c = (ih x c.less).branches c.node ∙ sym (below_lt n 0 (whole p own_at) x c.less)

    cs : {x : ℕ} → Child is_case p n x → weigh_c (cases_at p x) u v ≡ below n 0 (whole p own_at) x
    cs {x} c = (ih x c.less).cases c.node ∙ sym (below_lt n 0 (whole p own_at) x c.less)

    -- 65535 is no child, and weighs nothing
    ends : {sort : ℕ → Bool} → NodeOf sort p n → b_at p n ≡ 65535 → below n 0 (whole p own_at) (b_at p n) ≡ 0
    ends w e = below_ge n 0 (whole p own_at) (b_at p n) (omega (arith, w.inside, w.shaped.small))

    weight : Signal → ℕ
    weight s = weigh_s s u v

    signal_at_lem : NodeOf is_signal p n → SignalKind (kind_at p n) → weigh_s (signal_at p n) u v ≡ at n
    unfolding weight weigh_s of_children of_child is_child own_as has_cell fields_of row ◌or◌ ◌and◌
    signal_at_lem w (is_input e) = omega (arith, ap weight (signal_input p n e), at_kind n 1 e)
    signal_at_lem w (is_time e) = omega (arith, ap weight (signal_time p n e), at_kind n 2 e)
    signal_at_lem w (is_ext e) = omega (arith, ap weight (ext_tree p n w e), at_kind n 3 e, expr (ext_kid p n w e))
    signal_at_lem w (is_delay e) = omega (arith, ap weight (delay_tree p n w e), at_kind n 4 e, sub (delay_kid p n w e))
    signal_at_lem w (is_let e) =
        let k = let_kids p n w e in
        omega (arith, ap weight (let_tree p n w e), at_kind n 5 e, sub k.0, sub k.1)
    signal_at_lem w (is_switch e) =
        let k = switch_kids p n w e in
        omega (arith, ap weight (switch_tree p n w e), at_kind n 6 e, sub k.0, sub k.1, sub k.2)
    signal_at_lem w (is_group e) =
        let k = group_kids p n w e in
        omega (arith, ap weight (group_tree p n w e), at_kind n 7 e, sub k.0, brs k.1)
    signal_at_lem w (is_until e) =
        let k = until_kids p n w e in
        omega (arith, ap weight (until_tree p n w e), at_kind n 8 e, sub k.0, cs k.1)

    branch_at : NodeOf is_branch p n → weigh_b (branches_at p n) u v ≡ at n
    unfolding weigh_s of_children of_child is_child own_as has_cell fields_of row ◌or◌ is_branch
    branch_at w =
        let k = at_kind n 9 (eqb-true _ _ w.sorted) in
        choose (b_at p n) 65535
        (λ e. omega (arith, ap (λ (b : Branches). weigh_b b u v) (branch_end p n w e), sub (branch_kid p n w), ends w e))
        (λ d. omega (arith, ap (λ (b : Branches). weigh_b b u v) (branch_on p n w d), sub (branch_kid p n w), brs (branch_next p n w d)))

    case_at : NodeOf is_case p n → weigh_c (cases_at p n) u v ≡ at n
    unfolding weigh_s of_children of_child is_child own_as has_cell fields_of row ◌or◌ is_case
    case_at w =
        let k = at_kind n 10 (eqb-true _ _ w.sorted) in
        choose (b_at p n) 65535
        (λ e. omega (arith, ap (λ (c : Cases). weigh_c c u v) (case_end p n w e), sub (case_kid p n w), ends w e))
        (λ d. omega (arith, ap (λ (c : Cases). weigh_c c u v) (case_on p n w d), sub (case_kid p n w), cs (case_next p n w d)))

  weighs : (f n : ℕ) → n < f → Weighs n
  weighs zero n h = absurd (not-suc-le-zero h)
  weighs (suc f) n h =
      let ih : (m : ℕ) → m < n → Weighs m = λ m l. weighs f m (omega arith) in
      record {
        signals = λ w. signal_at_lem n ih w (signal_kind (kind_at p n) w.sorted);
        branches = branch_at n ih;
        cases = case_at n ih;
      }

  -- The tree at a signal weighs what the node does with all its children.
  pub signal_weighs : (n : ℕ) → NodeOf is_signal p n → weigh_s (signal_at p n) u v ≡ whole p own_at n
  signal_weighs n w = (weighs (suc n) n (omega arith)).signals w
