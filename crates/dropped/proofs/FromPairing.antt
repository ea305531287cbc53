-- A pairing none of whose entries is wrong: the new tree is the old one with lets dropped.
-- Assumes nothing.
use Rattle.std.specs.Prelude.{if◌then◌else◌}
use mathlib.Core.Path.{◌≡◌, refl, sym, ap, ◌∙◌, subst}
use mathlib.Core.Logic.{◌⊎◌, inl, inr}
use mathlib.Core.Bool.{Bool, true, false, not}
use Prim.Native.Nat.{ℕ, zero, suc, ◌-◌, ◌<◌}
use native.Mathlib.Nat.{not-suc-le-zero}
use native.Mathlib.Omega.{arith}
use lib.Dec.{eqb}
use borrow.Author.Tests.{eqb-true, eqb-false, eq-eqb, ltb-true}
use Rattle.rules.specs.Bytes.{Bytes, ◌and◌, ◌or◌}
use Rattle.rules.specs.Layout.{nodes, kind_at, type_at, a_at, b_at, c_at, word_at}
use Rattle.rules.specs.Kinds.{is_signal, is_expression, is_branch, is_case, fields_of, row}
use Rattle.rules.specs.Shaped.{Shaped, NodeOf}
use Rattle.rules.specs.Accepted.{Accepted}
use Rattle.rules.specs.Tree.{expr_at, signal_at, branches_at, cases_at, value_at, root}
use Rattle.rules.proofs.Static.{and_both, not_both}
use Rattle.rules.proofs.Kids.{Child}
use Rattle.rules.proofs.Nodes.{expr_variable, expr_constant, signal_input, signal_time}
use Rattle.rules.proofs.Expressions.{IsOperation, negation_kid, negation_tree, just_kid, just_tree, choice_kids, choice_tree, taking_kids, taking_tree, operation_kids, operation_tree}
use Rattle.rules.proofs.Signals.{ext_kid, ext_tree, delay_kid, delay_tree, let_kids, let_tree, switch_kids, switch_tree, group_kids, group_tree, until_kids, until_tree, branch_kid, branch_next, branch_end, branch_on, case_kid, case_next, case_end, case_on}
use Rattle.rules.proofs.ByKind.{ExpressionKind, is_variable, is_constant, is_negation, is_choice, is_just, is_taking, is_operation, expression_kind, SignalKind, is_input, is_time, is_ext, is_delay, is_let, is_switch, is_group, is_until, signal_kind}
use Rattle.rules.proofs.Rooted.{root_of, shaped_of}
use Rattle.promises.proofs.ValidLaws.{or_cases}
use Rattle.dropped.specs.Less.{LessE, variables, constants, operations, negations, choices, justs, takings, LessS, inputs, times, exts, delays, lets, dropped, switches, groups, untils, LessB, no_branches, branches, LessC, no_cases, cases}
use Rattle.dropped.proofs.Operating.{operates}
use Rattle.dropped.specs.Pairing.{reaches_f, reaches, field_right, entry_right}

-- What a right entry says.
pub record Entry (p q : Bytes) (π : ℕ → ℕ) (i : ℕ) : Type 0 where
  pub inside : π i < nodes p
  pub kind_is : kind_at q i ≡ kind_at p (π i)
  pub type_is : type_at q i ≡ type_at p (π i)
  pub word_is : word_at q i ≡ word_at p (π i)
  pub a_right : field_right p (nodes q) π (fields_of (kind_at q i)).a (a_at q i) (a_at p (π i)) ≡ true
  pub b_right : field_right p (nodes q) π (fields_of (kind_at q i)).b (b_at q i) (b_at p (π i)) ≡ true
  pub c_right : field_right p (nodes q) π (fields_of (kind_at q i)).c (c_at q i) (c_at p (π i)) ≡ true
  pub last : (not (eqb (suc i) (nodes q)) or reaches p (nodes p - 1) (π i)) ≡ true

pub entry : (p q : Bytes) (π : ℕ → ℕ) (i : ℕ) → entry_right p q π i ≡ true → Entry p q π i
unfolding entry_right
entry p q π i e =
    let a₇ = and_both _ _ e in
    let a₆ = and_both _ _ a₇.0 in
    let a₅ = and_both _ _ a₆.0 in
    let a₄ = and_both _ _ a₅.0 in
    let a₃ = and_both _ _ a₄.0 in
    let a₂ = and_both _ _ a₃.0 in
    let a₁ = and_both _ _ a₂.0 in
    record {
      inside = ltb-true _ _ a₁.0;
      kind_is = eqb-true _ _ a₁.1;
      type_is = eqb-true _ _ a₂.1;
      word_is = eqb-true _ _ a₃.1;
      a_right = a₄.1;
      b_right = a₅.1;
      c_right = a₆.1;
      last = a₇.1;
    }

-- What is reached: the node itself, or the node is a let and its body reaches.
pub reached : (p : Bytes) (f x y : ℕ) → reaches_f (suc f) p x y ≡ true
    → (x ≡ y) ⊎ ((kind_at p x ≡ 5) × (reaches_f f p (b_at p x) y ≡ true))
unfolding reaches_f
reached p f x y e = go (or_cases _ _ e)
  where
    go : (eqb x y ≡ true) ⊎ ((eqb (kind_at p x) 5 and reaches_f f p (b_at p x) y) ≡ true)
        → (x ≡ y) ⊎ ((kind_at p x ≡ 5) × (reaches_f f p (b_at p x) y ≡ true))
    go (inl h) = inl (eqb-true x y h)
    go (inr h) = let b = and_both _ _ h in inr (eqb-true (kind_at p x) 5 b.0, b.1)

-- A node of a sort that has no let reaches itself only.
not_let : {sort : ℕ → Bool} (p : Bytes) (x y : ℕ) → sort 5 ≡ false → NodeOf sort p x → reaches p x y ≡ true → x ≡ y
unfolding reaches
not_let {sort} p x y n w e = go (reached p x x y e)
  where
    go : (x ≡ y) ⊎ ((kind_at p x ≡ 5) × (reaches_f x p (b_at p x) y ≡ true)) → x ≡ y
    go (inl h) = h
    go (inr h) = absurd (not_both (sym n ∙ ap sort (sym h.0) ∙ w.sorted))

-- A next exactly where the old node has one.
pub data NextRight (p : Bytes) (π : ℕ → ℕ) (x y : ℕ) : Type 0 where
  ends : x ≡ 65535 → y ≡ 65535 → NextRight p π x y
  goes : (x ≡ 65535 → ⊥) → (y ≡ 65535 → ⊥) → reaches p y (π x) ≡ true → NextRight p π x y

next_right : (p : Bytes) (π : ℕ → ℕ) (x y : ℕ) → (if eqb x 65535 then eqb y 65535 else not (eqb y 65535) and reaches p y (π x)) ≡ true → NextRight p π x y
next_right p π x y = go (eqb x 65535) refl
  where
    go : (b : Bool) → eqb x 65535 ≡ b → (if b then eqb y 65535 else not (eqb y 65535) and reaches p y (π x)) ≡ true → NextRight p π x y
    go true e h = ends (eqb-true x 65535 e) (eqb-true y 65535 h)
    go false e h =
        let a = and_both _ _ h in
        goes (eqb-false x 65535 e) (eqb-false y 65535 (not_true (eqb y 65535) a.0)) a.1
      where
        not_true : (b : Bool) → not b ≡ true → b ≡ false
        not_true true e = absurd (not_both e)
        not_true false e = refl

module _ (p q : Bytes) (π : ℕ → ℕ) (sp : Shaped p) (sq : Shaped q) (right : (i : ℕ) → i < nodes q → Entry p q π i) where
  -- The old node of a new one of a sort is of that sort.
  old_node : {sort : ℕ → Bool} (i : ℕ) → NodeOf sort q i → NodeOf sort p (π i)
  old_node {sort} i w =
      let r = right i w.inside in
      record { shaped = sp; inside = r.inside; sorted = ap sort (sym r.kind_is) ∙ w.sorted }

  -- Expressions, given this for smaller ones.
  module _ (n : ℕ) (ih : (m : ℕ) → m < n → NodeOf is_expression q m → LessE π (expr_at p (π m)) (expr_at q m)) where
    -- A child.
    kid : {x y : ℕ} → Child is_expression q n x → Child is_expression p (π n) y → reaches p y (π x) ≡ true → LessE π (expr_at p y) (expr_at q x)
    unfolding is_expression ◌and◌
    kid {x} {y} c d e =
        let z : y ≡ π x = not_let p y (π x) refl d.node e in
        subst (λ (j : ℕ). LessE π (expr_at p j) (expr_at q x)) (sym z) (ih x c.less c.node)

    operation_at : NodeOf is_expression q n → IsOperation (kind_at q n) → LessE π (expr_at p (π n)) (expr_at q n)
    unfolding field_right
    operation_at w e =
        let r = right n w.inside in
        let o = old_node n w in
        let f : IsOperation (kind_at p (π n)) = subst IsOperation r.kind_is e in
        let x = operates (kind_at q n) w.sorted e in
        let a = r.a_right in
        let b = r.b_right in
        let k = operation_kids q n w e in
        let j = operation_kids p (π n) o f in
        rw (operation_tree p (π n) o f, operation_tree q n w e, r.kind_is)
        (operations refl (kid k.0 j.0 (rw x.first_kid at a)) (kid k.1 j.1 (rw x.second_kid at b)))

    expr_at_lem : NodeOf is_expression q n → ExpressionKind (kind_at q n) → LessE π (expr_at p (π n)) (expr_at q n)
    unfolding fields_of row field_right value_at ◌and◌
    expr_at_lem w (is_variable e) =
        let r = right n w.inside in
        let f : kind_at p (π n) ≡ 16 = sym r.kind_is ∙ e in
        let a = r.a_right in
        let c = and_both _ _ (rw e at a) in
        let b : a_at p (π n) ≡ π (a_at q n) = sym (eqb-true _ _ c.1) in
        let t : type_at q (a_at q n) ≡ type_at p (a_at p (π n)) = (right (a_at q n) (ltb-true _ _ c.0)).type_is ∙ ap (type_at p) (sym b) in
        rw (expr_variable p (π n) f, expr_variable q n e, t) (variables refl b)
    expr_at_lem w (is_constant e) =
        let r = right n w.inside in
        let f : kind_at p (π n) ≡ 17 = sym r.kind_is ∙ e in
        let b = r.b_right in
        let v : b_at q n ≡ b_at p (π n) = eqb-true _ _ (rw e at b) in
        rw (expr_constant p (π n) f, expr_constant q n e, r.type_is, v, r.word_is) (constants refl)
    expr_at_lem w (is_negation e) =
        let r = right n w.inside in
        let o = old_node n w in
        let f : kind_at p (π n) ≡ 24 = sym r.kind_is ∙ e in
        let a = r.a_right in
        rw (negation_tree p (π n) o f, negation_tree q n w e) (negations refl (kid (negation_kid q n w e) (negation_kid p (π n) o f) (rw e at a)))
    expr_at_lem w (is_choice e) =
        let r = right n w.inside in
        let o = old_node n w in
        let f : kind_at p (π n) ≡ 27 = sym r.kind_is ∙ e in
        let a = r.a_right in
        let b = r.b_right in
        let c = r.c_right in
        let k = choice_kids q n w e in
        let j = choice_kids p (π n) o f in
        rw (choice_tree p (π n) o f, choice_tree q n w e)
        (choices refl (kid k.0 j.0 (rw e at a)) (kid k.1 j.1 (rw e at b)) (kid k.2 j.2 (rw e at c)))
    expr_at_lem w (is_just e) =
        let r = right n w.inside in
        let o = old_node n w in
        let f : kind_at p (π n) ≡ 28 = sym r.kind_is ∙ e in
        let a = r.a_right in
        rw (just_tree p (π n) o f, just_tree q n w e) (justs refl (kid (just_kid q n w e) (just_kid p (π n) o f) (rw e at a)))
    expr_at_lem w (is_taking e) =
        let r = right n w.inside in
        let o = old_node n w in
        let f : kind_at p (π n) ≡ 29 = sym r.kind_is ∙ e in
        let a = r.a_right in
        let b = r.b_right in
        let c = r.c_right in
        let k = taking_kids q n w e in
        let j = taking_kids p (π n) o f in
        rw (taking_tree p (π n) o f, taking_tree q n w e, r.type_is)
        (takings refl (kid k.0 j.0 (rw e at a)) (kid k.1 j.1 (rw e at b)) (kid k.2 j.2 (rw e at c)))
    expr_at_lem w (is_operation e) = operation_at w e

  expr_less : (g n : ℕ) → n < g → NodeOf is_expression q n → LessE π (expr_at p (π n)) (expr_at q n)
  expr_less zero n h w = absurd (not-suc-le-zero h)
  expr_less (suc g) n h w = expr_at_lem n (λ m l. expr_less g m (omega arith)) w (expression_kind (kind_at q n))

  -- A signal, reached from y; a branch and a case, given this for smaller ones.
  record LessAt (n : ℕ) : Type 0 where
    signals : NodeOf is_signal q n → (f y : ℕ) → NodeOf is_signal p y → reaches_f f p y (π n) ≡ true → LessS π (signal_at p y) (signal_at q n)
    branches : NodeOf is_branch q n → LessB π (branches_at p (π n)) (branches_at q n)
    cases : NodeOf is_case q n → LessC π (cases_at p (π n)) (cases_at q n)

  -- Lets on the way are dropped.
  skip : (n : ℕ) → NodeOf is_signal q n → LessS π (signal_at p (π n)) (signal_at q n)
      → (f y : ℕ) → NodeOf is_signal p y → reaches_f f p y (π n) ≡ true → LessS π (signal_at p y) (signal_at q n)
  unfolding reaches_f
  skip n w h zero y v e = absurd (not_both e)
  skip n w h (suc f) y v e = go (reached p f y (π n) e) (λ z. let k = let_kids p y v z in skip n w h f (b_at p y) k.1.node)
    where
      go : (y ≡ π n) ⊎ ((kind_at p y ≡ 5) × (reaches_f f p (b_at p y) (π n) ≡ true))
          → (kind_at p y ≡ 5 → reaches_f f p (b_at p y) (π n) ≡ true → LessS π (signal_at p (b_at p y)) (signal_at q n)) → LessS π (signal_at p y) (signal_at q n)
      go (inl z) more = subst (λ (j : ℕ). LessS π (signal_at p j) (signal_at q n)) (sym z) h
      go (inr z) more = rw (let_tree p y v z.0) (dropped (more z.0 z.1))

  module _ (n : ℕ) (ih : (m : ℕ) → m < n → LessAt m) where
    sub : {x y : ℕ} → Child is_signal q n x → Child is_signal p (π n) y → reaches p y (π x) ≡ true → LessS π (signal_at p y) (signal_at q x)
    unfolding reaches
    sub {x} {y} c d e = (ih x c.less).signals c.node (suc y) y d.node e

    brs : {x y : ℕ} → Child is_branch q n x → Child is_branch p (π n) y → reaches p y (π x) ≡ true → LessB π (branches_at p y) (branches_at q x)
    unfolding is_branch
    brs {x} {y} c d e =
        let z : y ≡ π x = not_let p y (π x) refl d.node e in
        subst (λ (j : ℕ). LessB π (branches_at p j) (branches_at q x)) (sym z) ((ih x c.less).branches c.node)

    cs : {x y : ℕ} → Child is_case q n x → Child is_case p (π n) y → reaches p y (π x) ≡ true → LessC π (cases_at p y) (cases_at q x)
    unfolding is_case
    cs {x} {y} c d e =
        let z : y ≡ π x = not_let p y (π x) refl d.node e in
        subst (λ (j : ℕ). LessC π (cases_at p j) (cases_at q x)) (sym z) ((ih x c.less).cases c.node)

    signal_at_lem : NodeOf is_signal q n → SignalKind (kind_at q n) → LessS π (signal_at p (π n)) (signal_at q n)
    unfolding fields_of row field_right value_at ◌and◌
    signal_at_lem w (is_input e) =
        let r = right n w.inside in
        let f : kind_at p (π n) ≡ 1 = sym r.kind_is ∙ e in
        let a = r.a_right in
        let v : a_at q n ≡ a_at p (π n) = eqb-true _ _ (rw e at a) in
        rw (signal_input p (π n) f, signal_input q n e, v) (inputs refl)
    signal_at_lem w (is_time e) =
        let r = right n w.inside in
        let f : kind_at p (π n) ≡ 2 = sym r.kind_is ∙ e in
        rw (signal_time p (π n) f, signal_time q n e) (times refl)
    signal_at_lem w (is_ext e) =
        let r = right n w.inside in
        let o = old_node n w in
        let f : kind_at p (π n) ≡ 3 = sym r.kind_is ∙ e in
        let a = r.a_right in
        let c = ext_kid q n w e in
        rw (ext_tree p (π n) o f, ext_tree q n w e)
        (exts refl (kid n (λ m l v. expr_less (suc m) m (omega arith) v) c (ext_kid p (π n) o f) (rw e at a)))
    signal_at_lem w (is_delay e) =
        let r = right n w.inside in
        let o = old_node n w in
        let f : kind_at p (π n) ≡ 4 = sym r.kind_is ∙ e in
        let a = r.a_right in
        let b = r.b_right in
        let v : b_at q n ≡ b_at p (π n) = eqb-true _ _ (rw e at b) in
        rw (delay_tree p (π n) o f, delay_tree q n w e, r.type_is, v, r.word_is)
        (delays refl (sub (delay_kid q n w e) (delay_kid p (π n) o f) (rw e at a)))
    signal_at_lem w (is_let e) =
        let r = right n w.inside in
        let o = old_node n w in
        let f : kind_at p (π n) ≡ 5 = sym r.kind_is ∙ e in
        let a = r.a_right in
        let b = r.b_right in
        let k = let_kids q n w e in
        let j = let_kids p (π n) o f in
        rw (let_tree p (π n) o f, let_tree q n w e, r.type_is) (lets refl (sub k.0 j.0 (rw e at a)) (sub k.1 j.1 (rw e at b)))
    signal_at_lem w (is_switch e) =
        let r = right n w.inside in
        let o = old_node n w in
        let f : kind_at p (π n) ≡ 6 = sym r.kind_is ∙ e in
        let a = r.a_right in
        let b = r.b_right in
        let c = r.c_right in
        let k = switch_kids q n w e in
        let j = switch_kids p (π n) o f in
        rw (switch_tree p (π n) o f, switch_tree q n w e, r.type_is)
        (switches refl (sub k.0 j.0 (rw e at a)) (sub k.1 j.1 (rw e at b)) (sub k.2 j.2 (rw e at c)))
    signal_at_lem w (is_group e) =
        let r = right n w.inside in
        let o = old_node n w in
        let f : kind_at p (π n) ≡ 7 = sym r.kind_is ∙ e in
        let a = r.a_right in
        let b = r.b_right in
        let k = group_kids q n w e in
        let j = group_kids p (π n) o f in
        rw (group_tree p (π n) o f, group_tree q n w e) (groups refl (sub k.0 j.0 (rw e at a)) (brs k.1 j.1 (rw e at b)))
    signal_at_lem w (is_until e) =
        let r = right n w.inside in
        let o = old_node n w in
        let f : kind_at p (π n) ≡ 8 = sym r.kind_is ∙ e in
        let a = r.a_right in
        let b = r.b_right in
        let k = until_kids q n w e in
        let j = until_kids p (π n) o f in
        rw (until_tree p (π n) o f, until_tree q n w e) (untils refl (sub k.0 j.0 (rw e at a)) (cs k.1 j.1 (rw e at b)))

    branch_at : NodeOf is_branch q n → LessB π (branches_at p (π n)) (branches_at q n)
    unfolding is_branch fields_of row field_right ◌and◌
    branch_at w =
        let r = right n w.inside in
        let o = old_node n w in
        let e : kind_at q n ≡ 9 = eqb-true _ _ w.sorted in
        let a = r.a_right in
        let b = r.b_right in
        let body = sub (branch_kid q n w) (branch_kid p (π n) o) (rw e at a) in
        go w o r.type_is body (next_right p π (b_at q n) (b_at p (π n)) (rw e at b))
      where
        go : (w : NodeOf is_branch q n) (o : NodeOf is_branch p (π n)) → type_at q n ≡ type_at p (π n) → LessS π (signal_at p (a_at p (π n))) (signal_at q (a_at q n))
            → NextRight p π (b_at q n) (b_at p (π n)) → LessB π (branches_at p (π n)) (branches_at q n)
        go w o t body (ends x y) = rw (branch_end p (π n) o y, branch_end q n w x, t) (branches refl body no_branches)
        go w o t body (goes x y z) =
            rw (branch_on p (π n) o y, branch_on q n w x, t) (branches refl body (brs (branch_next q n w x) (branch_next p (π n) o y) z))

    case_at : NodeOf is_case q n → LessC π (cases_at p (π n)) (cases_at q n)
    unfolding is_case fields_of row field_right ◌and◌
    case_at w =
        let r = right n w.inside in
        let o = old_node n w in
        let e : kind_at q n ≡ 10 = eqb-true _ _ w.sorted in
        let a = r.a_right in
        let b = r.b_right in
        let c = r.c_right in
        let event = sub (case_kid q n w) (case_kid p (π n) o) (rw e at a) in
        let d = and_both _ _ (rw e at c) in
        let t : c_at p (π n) ≡ π (c_at q n) = sym (eqb-true _ _ d.1) in
        let y : type_at q (c_at q n) ≡ type_at p (c_at p (π n)) = (right (c_at q n) (ltb-true _ _ d.0)).type_is ∙ ap (type_at p) (sym t) in
        go w o t y event (next_right p π (b_at q n) (b_at p (π n)) (rw e at b))
      where
        go : (w : NodeOf is_case q n) (o : NodeOf is_case p (π n)) → c_at p (π n) ≡ π (c_at q n) → type_at q (c_at q n) ≡ type_at p (c_at p (π n))
            → LessS π (signal_at p (a_at p (π n))) (signal_at q (a_at q n))
            → NextRight p π (b_at q n) (b_at p (π n)) → LessC π (cases_at p (π n)) (cases_at q n)
        go w o t u event (ends x y) = rw (case_end p (π n) o y, case_end q n w x, u) (cases refl t event no_cases)
        go w o t u event (goes x y z) =
            rw (case_on p (π n) o y, case_on q n w x, u) (cases refl t event (cs (case_next q n w x) (case_next p (π n) o y) z))

  less_at : (g n : ℕ) → n < g → LessAt n
  less_at zero n h = absurd (not-suc-le-zero h)
  less_at (suc g) n h =
      let ih : (m : ℕ) → m < n → LessAt m = λ m l. less_at g m (omega arith) in
      record {
        signals = λ w. skip n w (signal_at_lem n ih w (signal_kind (kind_at q n) w.sorted));
        branches = branch_at n ih;
        cases = case_at n ih;
      }

last_reached : (p q : Bytes) (π : ℕ → ℕ) (i : ℕ) → suc i ≡ nodes q → Entry p q π i → reaches p (nodes p - 1) (π i) ≡ true
last_reached p q π i e r = go (or_cases _ _ r.last)
  where
    go : (not (eqb (suc i) (nodes q)) ≡ true) ⊎ (reaches p (nodes p - 1) (π i) ≡ true) → reaches p (nodes p - 1) (π i) ≡ true
    go (inl z) = absurd (not_both (ap not (sym (eq-eqb (suc i) (nodes q) e)) ∙ z))
    go (inr z) = z

-- No entry is wrong: the new program is the old one with lets dropped, renumbered as the pairing says.
pub pairing_less : (p q : Bytes) (π : ℕ → ℕ) → Accepted p → Accepted q → ((i : ℕ) → i < nodes q → entry_right p q π i ≡ true) → LessS π (root p) (root q)
unfolding root reaches
pairing_less p q π pa qa right =
    let r : (i : ℕ) → i < nodes q → Entry p q π i = λ i l. entry p q π i (right i l) in
    let w = root_of q qa in
    let last : suc (nodes q - 1) ≡ nodes q = omega (arith, w.inside) in
    (less_at p q π (shaped_of p pa) (shaped_of q qa) r (suc (nodes q - 1)) (nodes q - 1) (omega arith)).signals w (suc (nodes p - 1)) (nodes p - 1) (root_of p pa)
    (last_reached p q π (nodes q - 1) last (r (nodes q - 1) w.inside))
