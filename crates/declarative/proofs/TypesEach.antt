-- Where the definitions find no fault of type or of readiness below a bound, every node there keeps its own rule of types and every let there
-- is ready.
-- Assumes nothing.
use mathlib.Core.Path.{◌≡◌, refl, sym, ap, subst, ◌∙◌}
use mathlib.Core.Bool.{Bool, true, false}
use Prim.Native.Nat.{ℕ, zero, suc, ◌≤◌, ◌<◌}
use native.Mathlib.Nat.{not-suc-le-zero}
use native.Mathlib.Omega.{arith}
use borrow.Author.Tests.{leb-true, eqb-true, eq-eqb}
use Rattle.rules.specs.Bytes.{Bytes, ◌and◌}
use Rattle.rules.specs.Values.{bool_t, maybe_of, is_plain}
use Rattle.rules.specs.Layout.{nodes, kind_at, type_at, a_at, b_at, c_at}
use Rattle.rules.specs.Kinds.{is_signal, is_expression, is_branch, is_case}
use Rattle.rules.specs.Shaped.{NodeOf}
use Rattle.rules.specs.Tree.{Expr, Signal, Cases, expr_at, signal_at, branches_at, cases_at}
use Rattle.rules.specs.Typing.{type_e, type_s, types_e, types_s, types_c, bodies_have}
use Rattle.rules.specs.Ready.{ready_s}
use Rattle.rules.proofs.Static.{and_both, not_both}
use Rattle.rules.proofs.Kids.{Child}
use Rattle.rules.proofs.Expressions.{negation_kid, negation_tree, just_kid, just_tree, choice_kids, choice_tree, taking_kids, taking_tree, operation_kids, operation_tree}
use Rattle.rules.proofs.Signals.{delay_kid, delay_tree, let_kids, let_tree, switch_kids, switch_tree, group_kids, group_tree, branch_kid, branch_next, branch_law, branch_end, branch_on, case_kid, case_law}
use Rattle.rules.proofs.ByKind.{choose}
use Rattle.declarative.specs.TypedE.{Takes}
use Rattle.declarative.specs.WayUp.{BranchOf, this, later}
use Rattle.declarative.specs.NeedsAt.{NeedsAt, LetRight}
use Rattle.declarative.specs.HasType.{HasType, OneType, PlainType, OwnTypeRight}
use Rattle.declarative.proofs.Free.{Free, free_both, free_holds, free_kept}
use Rattle.declarative.proofs.Joining.{and_true}
use Rattle.declarative.proofs.EachShape.{between}
use Rattle.declarative.proofs.TypingE.{takes_operand}
use Rattle.declarative.proofs.Parents.{Table}
use Rattle.declarative.proofs.Clean.{Clean, clean_e, clean_s, clean_b, clean_c}
use Rattle.declarative.proofs.NeedsTable.{needs_signal}
use Rattle.declarative.proofs.TypeTable.{takes_operation, takes_expression, value_at_type, has_type_e, has_type_s}

-- No kind is of two sorts.
apart : (k : ℕ) → is_signal k ≡ true → is_expression k ≡ true → ⊥
unfolding is_signal is_expression
apart k s e =
    let u = leb-true k 8 (and_both _ _ s).1 in
    let l = leb-true 16 k (and_both _ _ e).0 in
    omega arith

-- A branch is of no other sort,
apart_b : (k : ℕ) (sort : ℕ → Bool) → sort 9 ≡ false → is_branch k ≡ true → sort k ≡ true → ⊥
unfolding is_branch
apart_b k sort f b s = not_both (sym f ∙ ap sort (sym (eqb-true k 9 b)) ∙ s)

-- nor is a case.
apart_c : (k : ℕ) (sort : ℕ → Bool) → sort 10 ≡ false → is_case k ≡ true → sort k ≡ true → ⊥
unfolding is_case
apart_c k sort f b s = not_both (sym f ∙ ap sort (sym (eqb-true k 10 b)) ∙ s)

-- What a clean node is, by its sort.
clean_expression : (p : Bytes) (β ρ n : ℕ) → Clean p β ρ n → NodeOf is_expression p n → Free β (types_e (expr_at p n))
unfolding is_expression ◌and◌
clean_expression p β ρ n (clean_e v r) w = r
clean_expression p β ρ n (clean_s v r s) w = absurd (apart (kind_at p n) v.sorted w.sorted)
clean_expression p β ρ n (clean_b v r s) w = absurd (apart_b (kind_at p n) is_expression refl v.sorted w.sorted)
clean_expression p β ρ n (clean_c v r s) w = absurd (apart_c (kind_at p n) is_expression refl v.sorted w.sorted)

clean_signal : (p : Bytes) (β ρ n : ℕ) → Clean p β ρ n → NodeOf is_signal p n → Free β (types_s (signal_at p n)) × Free ρ (ready_s (signal_at p n))
unfolding is_signal ◌and◌
clean_signal p β ρ n (clean_e v r) w = absurd (apart (kind_at p n) w.sorted v.sorted)
clean_signal p β ρ n (clean_s v r s) w = (r, s)
clean_signal p β ρ n (clean_b v r s) w = absurd (apart_b (kind_at p n) is_signal refl v.sorted w.sorted)
clean_signal p β ρ n (clean_c v r s) w = absurd (apart_c (kind_at p n) is_signal refl v.sorted w.sorted)

clean_case : (p : Bytes) (β ρ n : ℕ) → Clean p β ρ n → NodeOf is_case p n → Free β (types_c (cases_at p n))
unfolding is_signal is_expression is_branch ◌and◌
clean_case p β ρ n (clean_e v r) w = absurd (apart_c (kind_at p n) is_expression refl w.sorted v.sorted)
clean_case p β ρ n (clean_s v r s) w = absurd (apart_c (kind_at p n) is_signal refl w.sorted v.sorted)
clean_case p β ρ n (clean_b v r s) w = absurd (apart_c (kind_at p n) is_branch refl w.sorted v.sorted)
clean_case p β ρ n (clean_c v r s) w = r

-- A branch of a list is a branch, and its body has the type that all bodies have; and the other way.
pub branch_node : (p : Bytes) (k n : ℕ) → NodeOf is_branch p n → BranchOf p k n → NodeOf is_branch p k
branch_node p k n w this = w
branch_node p k n w (later d h) = branch_node p k (b_at p n) (branch_next p n w d).node h

-- The numbers of a list fall.
branch_least : (p : Bytes) (k n : ℕ) → NodeOf is_branch p n → BranchOf p k n → k ≤ n
branch_least p k n w this = omega arith
branch_least p k n w (later d h) =
    let c = branch_next p n w d in
    omega (arith, c.less, branch_least p k (b_at p n) c.node h)

-- Where all bodies have a type, each has.
bodies_each : (p : Bytes) (t k n : ℕ) → NodeOf is_branch p n → bodies_have t (branches_at p n) ≡ true → BranchOf p k n
    → type_s (signal_at p (a_at p k)) ≡ t
unfolding bodies_have
bodies_each p t k n w e this = eqb-true _ _ (and_both _ _ (sym (ap (bodies_have t) (branch_law p n w refl)) ∙ e)).0
bodies_each p t k n w e (later d h) =
    bodies_each p t k (b_at p n) (branch_next p n w d).node (and_both _ _ (sym (ap (bodies_have t) (branch_on p n w d)) ∙ e)).1 h

-- Where each body has a type, all have: along the list, whose numbers fall.
bodies_from : (p : Bytes) (t f n : ℕ) → n < f → NodeOf is_branch p n → ((k : ℕ) → BranchOf p k n → type_s (signal_at p (a_at p k)) ≡ t)
    → bodies_have t (branches_at p n) ≡ true
unfolding bodies_have
bodies_from p t zero n l w h = absurd (not-suc-le-zero l)
bodies_from p t (suc f) n l w h =
    choose (b_at p n) 65535
    (λ q. ap (bodies_have t) (branch_end p n w q) ∙ and_true (eq-eqb _ _ (h n this)) refl)
    (λ d. let c = branch_next p n w d in
    ap (bodies_have t) (branch_on p n w d)
    ∙ and_true (eq-eqb _ _ (h n this)) (bodies_from p t f (b_at p n) (omega (arith, c.less)) c.node (λ k b. h k (later d b))))

-- With steps enough.
pub each_bodies : (p : Bytes) (t n : ℕ) → NodeOf is_branch p n → ((k : ℕ) → BranchOf p k n → type_s (signal_at p (a_at p k)) ≡ t)
    → bodies_have t (branches_at p n) ≡ true
each_bodies p t n w h = bodies_from p t (suc n) n (omega arith) w h

module _ (p : Bytes) (t : Table p) (β ρ : ℕ) (all : (n : ℕ) → n < nodes p → Clean p β ρ n) where
  -- A node of a kind is of its sort.
  sorted_as : (sort : ℕ → Bool) (n k : ℕ) → n < nodes p → kind_at p n ≡ k → sort k ≡ true → NodeOf sort p n
  sorted_as sort n k l e h = record { shaped = t.shaped; inside = l; sorted = ap sort e ∙ h }

  -- Every child of a node below the bound has its tree's type: an expression,
  has_e : (n : ℕ) {x : ℕ} → n < β → Child is_expression p n x → HasType p x (type_e (expr_at p x))
  has_e n {x} i c = has_type_e p β x (omega (arith, c.less)) c.node (clean_expression p β ρ x (all x c.node.inside) c.node)

  -- and a signal.
  has_s : (n : ℕ) {x : ℕ} → n < β → Child is_signal p n x → HasType p x (type_s (signal_at p x))
  has_s n {x} i c = has_type_s p β x (omega (arith, c.less)) c.node (clean_signal p β ρ x (all x c.node.inside) c.node).0

  -- The same, by another name of the type.
  as_e : (n : ℕ) {x g : ℕ} → n < β → Child is_expression p n x → type_e (expr_at p x) ≡ g → HasType p x g
  as_e n {x} i c e = subst (HasType p x) e (has_e n i c)

  -- The same for a signal.
  as_s : (n : ℕ) {x g : ℕ} → n < β → Child is_signal p n x → type_s (signal_at p x) ≡ g → HasType p x g
  as_s n {x} i c e = subst (HasType p x) e (has_s n i c)

  -- An operation's operands.
  operation_right : (n : ℕ) → n < β → n < nodes p → (g h : ℕ) → Takes (kind_at p n) g h → HasType p (a_at p n) g × HasType p (b_at p n) g
  unfolding types_e
  operation_right n i l g h k =
      let w : NodeOf is_expression p n = record { shaped = t.shaped; inside = l; sorted = takes_expression k } in
      let o = takes_operation k in
      let c = operation_kids p n w o in
      let q = free_both _ _ (subst (λ (x : Expr). Free β (types_e x)) (operation_tree p n w o) (clean_expression p β ρ n (all n l) w)) in
      let r = and_both _ _ (free_holds _ _ i q.0) in
      (as_e n i c.0 (eqb-true _ _ r.0 ∙ takes_operand k), as_e n i c.1 (eqb-true _ _ r.1 ∙ takes_operand k))

  -- A not's operand.
  not_right : (n : ℕ) → n < β → n < nodes p → kind_at p n ≡ 24 → HasType p (a_at p n) bool_t
  unfolding types_e is_expression ◌and◌
  not_right n i l e =
      let w = sorted_as is_expression n 24 l e refl in
      let q = free_both _ _ (subst (λ (x : Expr). Free β (types_e x)) (negation_tree p n w e) (clean_expression p β ρ n (all n l) w)) in
      as_e n i (negation_kid p n w e) (eqb-true _ _ (free_holds _ _ i q.0))

  -- An if's test and arms.
  if_right : (n : ℕ) → n < β → n < nodes p → kind_at p n ≡ 27 → HasType p (a_at p n) bool_t × OneType p (b_at p n) (c_at p n)
  unfolding types_e is_expression ◌and◌
  if_right n i l e =
      let w = sorted_as is_expression n 27 l e refl in
      let c = choice_kids p n w e in
      let q = free_both _ _ (subst (λ (x : Expr). Free β (types_e x)) (choice_tree p n w e) (clean_expression p β ρ n (all n l) w)) in
      let r = and_both _ _ (free_holds _ _ i q.0) in (
        as_e n i c.0 (eqb-true _ _ r.0),
        record { type = _; one = has_e n i c.1; other = as_e n i c.2 (sym (eqb-true _ _ r.1)) },
      )

  -- A just's operand.
  just_right : (n : ℕ) → n < β → n < nodes p → kind_at p n ≡ 28 → PlainType p (a_at p n)
  unfolding types_e is_expression ◌and◌ is_plain
  just_right n i l e =
      let w = sorted_as is_expression n 28 l e refl in
      let c = just_kid p n w e in
      let q = free_both _ _ (subst (λ (x : Expr). Free β (types_e x)) (just_tree p n w e) (clean_expression p β ρ n (all n l) w)) in
      record { type = _; has = has_e n i c; plain = between 1 _ 3 (free_holds _ _ i q.0) }

  -- A take's maybe and arms.
  take_right : (n : ℕ) → n < β → n < nodes p → kind_at p n ≡ 29 → HasType p (a_at p n) (maybe_of (type_at p n)) × OneType p (b_at p n) (c_at p n)
  unfolding types_e is_expression ◌and◌
  take_right n i l e =
      let w = sorted_as is_expression n 29 l e refl in
      let c = taking_kids p n w e in
      let q = free_both _ _ (subst (λ (x : Expr). Free β (types_e x)) (taking_tree p n w e) (clean_expression p β ρ n (all n l) w)) in
      let r = and_both _ _ (free_holds _ _ i q.0) in (
        as_e n i c.0 (eqb-true _ _ r.0),
        record { type = _; one = has_e n i c.1; other = as_e n i c.2 (sym (eqb-true _ _ r.1)) },
      )

  -- A delay's signal.
  delay_right : (n : ℕ) → n < β → n < nodes p → kind_at p n ≡ 4 → HasType p (a_at p n) (type_at p n)
  unfolding types_s is_signal ◌and◌
  delay_right n i l e =
      let w = sorted_as is_signal n 4 l e refl in
      let q = free_both _ _ (subst (λ (x : Signal). Free β (types_s x)) (delay_tree p n w e) (clean_signal p β ρ n (all n l) w).0) in
      as_s n i (delay_kid p n w e) (eqb-true _ _ (free_holds _ _ i q.0) ∙ value_at_type p n)

  -- A let's definition.
  let_right : (n : ℕ) → n < β → n < nodes p → kind_at p n ≡ 5 → HasType p (a_at p n) (type_at p n)
  unfolding types_s is_signal ◌and◌
  let_right n i l e =
      let w = sorted_as is_signal n 5 l e refl in
      let q = free_both _ _ (subst (λ (x : Signal). Free β (types_s x)) (let_tree p n w e) (clean_signal p β ρ n (all n l) w).0) in
      as_s n i (let_kids p n w e).0 (eqb-true _ _ (free_holds _ _ i q.0))

  -- A switch's event, first and second.
  switch_right : (n : ℕ) → n < β → n < nodes p → kind_at p n ≡ 6 → HasType p (b_at p n) (maybe_of (type_at p n)) × OneType p (a_at p n) (c_at p n)
  unfolding types_s is_signal ◌and◌
  switch_right n i l e =
      let w = sorted_as is_signal n 6 l e refl in
      let c = switch_kids p n w e in
      let q = free_both _ _ (subst (λ (x : Signal). Free β (types_s x)) (switch_tree p n w e) (clean_signal p β ρ n (all n l) w).0) in
      let r = and_both _ _ (free_holds _ _ i q.0) in (
        as_s n i c.1 (eqb-true _ _ r.0),
        record { type = _; one = has_s n i c.0; other = as_s n i c.2 (sym (eqb-true _ _ r.1)) },
      )

  -- A group's bodies.
  group_right : (n : ℕ) → n < β → n < nodes p → kind_at p n ≡ 7 → (k : ℕ) → BranchOf p k (b_at p n) → OneType p (a_at p n) (a_at p k)
  unfolding types_s is_signal ◌and◌
  group_right n i l e k b =
      let w = sorted_as is_signal n 7 l e refl in
      let c = group_kids p n w e in
      let q = free_both _ _ (subst (λ (x : Signal). Free β (types_s x)) (group_tree p n w e) (clean_signal p β ρ n (all n l) w).0) in
      let v = branch_node p k (b_at p n) c.1.node b in
      let j : k < β = omega (arith, branch_least p k (b_at p n) c.1.node b, c.1.less) in
      record {
        type = _;
        one = has_s n i c.0;
        other = as_s k j (branch_kid p k v) (bodies_each p _ k (b_at p n) c.1.node (free_holds _ _ i q.0) b);
      }

  -- A case's event.
  case_right : (n : ℕ) → n < β → n < nodes p → kind_at p n ≡ 10 → HasType p (a_at p n) (maybe_of (type_at p (c_at p n)))
  unfolding types_s is_case
  case_right n i l e =
      let w = sorted_as is_case n 10 l e refl in
      let q = free_both _ _ (subst (λ (x : Cases). Free β (types_c x)) (case_law p n w refl) (clean_case p β ρ n (all n l) w)) in
      as_s n i (case_kid p n w) (eqb-true _ _ (free_holds _ _ i q.0))

  -- Every node below the bound keeps its own rule.
  pub type_right : (n : ℕ) → n < β → n < nodes p → OwnTypeRight p n
  type_right n i l = record {
    operation = operation_right n i l;
    negation = not_right n i l;
    choice = if_right n i l;
    just = just_right n i l;
    taking = take_right n i l;
    delay = delay_right n i l;
    definition = let_right n i l;
    switch = switch_right n i l;
    group = group_right n i l;
    case = case_right n i l;
  }

  -- Every let below the bound is ready.
  let_ready : (n : ℕ) → n < ρ → n < nodes p → kind_at p n ≡ 5 → NeedsAt p n (a_at p n) → ⊥
  unfolding ready_s is_signal ◌and◌
  let_ready n i l e h =
      let w = sorted_as is_signal n 5 l e refl in
      let q = free_both _ _ (subst (λ (x : Signal). Free ρ (ready_s x)) (let_tree p n w e) (clean_signal p β ρ n (all n l) w).1) in
      not_both (sym (free_kept _ _ i q.0) ∙ needs_signal p n (a_at p n) (let_kids p n w e).0.node h)

  -- Its own rule.
  pub ready_right : (n : ℕ) → n < ρ → n < nodes p → LetRight p n
  ready_right n i l = record { ready = let_ready n i l }
