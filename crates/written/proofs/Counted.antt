-- Each number stands in the order of an accepted program's tree at most once.
-- Assumes nothing.
use Rattle.std.specs.Prelude.{if◌then◌else◌}
use mathlib.Core.Path.{◌≡◌, refl, sym, ap, ◌∙◌}
use mathlib.Core.List.{List, [], ◌∷◌, ◌++◌}
use mathlib.Core.Bool.{Bool, true, false}
use Prim.Native.Nat.{ℕ, zero, suc, ◌+◌, ◌-◌, ◌*◌, ◌≤◌, ◌<◌}
use native.Mathlib.Nat.{not-suc-le-zero}
use native.Mathlib.Decide.{dec_lt, ℕ_discrete}
use native.Mathlib.Omega.{arith}
use lib.Dec.{eqb}
use lib.ListN.{length}
use borrow.Author.Tests.{eqb-true, eq-eqb, ne_eqb}
use Rattle.rules.specs.Bytes.{Bytes, ◌and◌, ◌or◌}
use Rattle.rules.specs.Layout.{nodes, kind_at, a_at, b_at, c_at}
use Rattle.rules.specs.declared.Field.{Field}
use Rattle.rules.specs.Kinds.{row, is_signal, is_expression, is_branch, is_case, fields_of}
use Rattle.rules.specs.Shape.{is_child}
use Rattle.rules.specs.Shaped.{NodeOf}
use Rattle.rules.specs.Accepted.{Accepted}
use Rattle.rules.specs.Tree.{Expr, variable, constant, operation, negation, choice, just, taking, Signal, input, time, ext, delay, let_signal, switch, group, until, Branches, no_branch, branch, Cases, no_case, case, below, expr_at, signal_at, branches_at, cases_at, root}
use Rattle.rules.proofs.Nodes.{below_lt, below_ge, expr_variable, expr_constant, signal_input, signal_time}
use Rattle.rules.proofs.Kids.{Child}
use Rattle.rules.proofs.Expressions.{IsOperation, negation_kid, negation_tree, just_kid, just_tree, choice_kids, choice_tree, taking_kids, taking_tree, operation_kids, operation_tree}
use Rattle.rules.proofs.Signals.{ext_kid, ext_tree, delay_kid, delay_tree, let_kids, let_tree, switch_kids, switch_tree, group_kids, group_tree, until_kids, until_tree, branch_kid, branch_next, branch_end, branch_on, case_kid, case_next, case_end, case_on}
use Rattle.rules.proofs.ByKind.{ExpressionKind, is_variable, is_constant, is_negation, is_choice, is_just, is_taking, is_operation, expression_kind, SignalKind, is_input, is_time, is_ext, is_delay, is_let, is_switch, is_group, is_until, signal_kind, choose, two_kids}
use Rattle.rules.proofs.Counting.{total, total_same, total_at, total_past}
use Rattle.rules.proofs.Weights.{of_child, of_children, whole, whole_law}
use Rattle.rules.proofs.Once.{whole_once}
use Rattle.rules.proofs.Rooted.{some_node, root_of}
use Rattle.written.specs.Order.{order_e, order_s, order_b, order_c}
use Rattle.written.proofs.Places.{entry}

-- The sum of a weight of numbers over a tree.
unfoldable pub sum_e : (ℕ → ℕ) → Expr → ℕ
sum_e own (variable n b t) = own n
sum_e own (constant n v) = own n
sum_e own (operation n k x y) = own n + sum_e own x + sum_e own y
sum_e own (negation n x) = own n + sum_e own x
sum_e own (choice n x y z) = own n + sum_e own x + sum_e own y + sum_e own z
sum_e own (just n x) = own n + sum_e own x
sum_e own (taking n t x y z) = own n + sum_e own x + sum_e own y + sum_e own z

unfoldable mutual
  pub sum_s : Signal → (ℕ → ℕ) → ℕ
  sum_s (input n c) own = own n
  sum_s (time n) own = own n
  sum_s (ext n e) own = own n + sum_e own e
  sum_s (delay n k v s) own = own n + sum_s s own
  sum_s (let_signal n t x y) own = own n + sum_s x own + sum_s y own
  sum_s (switch n k t x y z) own = own n + sum_s x own + sum_s y own + sum_s z own
  sum_s (group n k x brs) own = own n + sum_s x own + sum_b brs own
  sum_s (until n x cs) own = own n + sum_s x own + sum_c cs own

  pub sum_b : Branches → (ℕ → ℕ) → ℕ
  sum_b no_branch own = 0
  sum_b (branch n t x brs) own = own n + sum_s x own + sum_b brs own

  pub sum_c : Cases → (ℕ → ℕ) → ℕ
  sum_c no_case own = 0
  sum_c (case n x target t cs) own = own n + sum_s x own + sum_c cs own

-- Over a list.
unfoldable pub sum_l : (ℕ → ℕ) → List ℕ → ℕ
sum_l own [] = 0
sum_l own (x ∷ xs) = own x + sum_l own xs

pub sum_app : (own : ℕ → ℕ) (xs ys : List ℕ) → sum_l own (xs ++ ys) ≡ sum_l own xs + sum_l own ys
unfolding sum_l
sum_app own [] ys = omega arith
sum_app own (x ∷ xs) ys = omega (arith, sum_app own xs ys)

module _ (own : ℕ → ℕ) where
  one : (xs : List ℕ) (n a : ℕ) → sum_l own xs ≡ a → sum_l own (xs ++ n ∷ []) ≡ own n + a
  unfolding sum_l
  one xs n a e = omega (arith, sum_app own xs (n ∷ []))

  two : (xs ys : List ℕ) (n a b : ℕ) → sum_l own xs ≡ a → sum_l own ys ≡ b → sum_l own (xs ++ ys ++ n ∷ []) ≡ own n + a + b
  unfolding sum_l
  two xs ys n a b e f = omega (arith, sum_app own (xs ++ ys) (n ∷ []), sum_app own xs ys)

  three : (xs ys zs : List ℕ) (n a b c : ℕ) → sum_l own xs ≡ a → sum_l own ys ≡ b → sum_l own zs ≡ c → sum_l own (xs ++ ys ++ zs ++ n ∷ []) ≡ own n + a + b + c
  unfolding sum_l
  three xs ys zs n a b c e f g = omega (arith, sum_app own (xs ++ ys ++ zs) (n ∷ []), sum_app own (xs ++ ys) zs, sum_app own xs ys)

  leaf : (n : ℕ) → sum_l own (n ∷ []) ≡ own n
  unfolding sum_l
  leaf n = omega arith

  nil : sum_l own [] ≡ 0
  unfolding sum_l
  nil = refl

  order_sum_e : (e : Expr) → sum_l own (order_e e) ≡ sum_e own e
  unfolding order_e sum_e
  order_sum_e (variable n b t) = leaf n
  order_sum_e (constant n v) = leaf n
  order_sum_e (operation n k x y) = two (order_e x) (order_e y) n _ _ (order_sum_e x) (order_sum_e y)
  order_sum_e (negation n x) = one (order_e x) n _ (order_sum_e x)
  order_sum_e (choice n x y z) = three (order_e x) (order_e y) (order_e z) n _ _ _ (order_sum_e x) (order_sum_e y) (order_sum_e z)
  order_sum_e (just n x) = one (order_e x) n _ (order_sum_e x)
  order_sum_e (taking n t x y z) = three (order_e x) (order_e y) (order_e z) n _ _ _ (order_sum_e x) (order_sum_e y) (order_sum_e z)

  mutual
    unfolding order_s sum_s

    pub order_sum : (s : Signal) → sum_l own (order_s s) ≡ sum_s s own
    order_sum (input n c) = leaf n
    order_sum (time n) = leaf n
    order_sum (ext n e) = one (order_e e) n _ (order_sum_e e)
    order_sum (delay n k v s) = one (order_s s) n _ (order_sum s)
    order_sum (let_signal n t x y) = two (order_s x) (order_s y) n _ _ (order_sum x) (order_sum y)
    order_sum (switch n k t x y z) = three (order_s x) (order_s y) (order_s z) n _ _ _ (order_sum x) (order_sum y) (order_sum z)
    order_sum (group n k x brs) = two (order_s x) (order_b brs) n _ _ (order_sum x) (order_sum_b brs)
    order_sum (until n x cs) = two (order_s x) (order_c cs) n _ _ (order_sum x) (order_sum_c cs)

    pub order_sum_b : (s : Branches) → sum_l own (order_b s) ≡ sum_b s own
    order_sum_b no_branch = nil
    order_sum_b (branch n t x brs) = two (order_s x) (order_b brs) n _ _ (order_sum x) (order_sum_b brs)

    pub order_sum_c : (s : Cases) → sum_l own (order_c s) ≡ sum_c s own
    order_sum_c no_case = nil
    order_sum_c (case n x target t cs) = two (order_s x) (order_c cs) n _ _ (order_sum x) (order_sum_c cs)

child_counts : (f : Field) (x : ℕ) → is_child f ≡ true → of_child f x ≡ x
unfolding of_child
child_counts f x e = simp e

other_does_not : (f : Field) (x : ℕ) → is_child f ≡ false → of_child f x ≡ 0
unfolding of_child
other_does_not f x e = simp e

-- The sum over a tree of the table is the sum along the table's children.
module _ (p : Bytes) (own : ℕ → ℕ) where
  at_kind : (n k : ℕ) → kind_at p n ≡ k → whole p own n ≡ own n + of_children (fields_of k) p n (below n 0 (whole p own))
  at_kind n k e = whole_law p own n ∙ ap (λ (j : ℕ). own n + of_children (fields_of j) p n (below n 0 (whole p own))) e

  module _ (n : ℕ) (ih : (m : ℕ) → m < n → NodeOf is_expression p m → sum_e own (expr_at p m) ≡ whole p own m) where
    kid : {x : ℕ} → Child is_expression p n x → sum_e own (expr_at p x) ≡ below n 0 (whole p own) x
    kid {x} c = ih x c.less c.node ∙ sym (below_lt n 0 (whole p own) x c.less)

    operation_at : NodeOf is_expression p n → IsOperation (kind_at p n) → sum_e own (expr_at p n) ≡ whole p own n
    unfolding sum_e of_children
    operation_at w o =
        let k = operation_kids p n w o in
        let t = two_kids (kind_at p n) w.sorted o in
        omega (
          arith,
          ap (sum_e own) (operation_tree p n w o),
          at_kind n (kind_at p n) refl,
          kid k.0,
          kid k.1,
          child_counts (fields_of (kind_at p n)).a (below n 0 (whole p own) (a_at p n)) t.first_kid,
          child_counts (fields_of (kind_at p n)).b (below n 0 (whole p own) (b_at p n)) t.second_kid,
          other_does_not (fields_of (kind_at p n)).c (below n 0 (whole p own) (c_at p n)) t.no_third,
        )

    expr_at_lem : NodeOf is_expression p n → ExpressionKind (kind_at p n) → sum_e own (expr_at p n) ≡ whole p own n
    unfolding sum_e of_children of_child is_child fields_of row ◌or◌ ◌and◌
    expr_at_lem w (is_variable e) = omega (arith, ap (sum_e own) (expr_variable p n e), at_kind n 16 e)
    expr_at_lem w (is_constant e) = omega (arith, ap (sum_e own) (expr_constant p n e), at_kind n 17 e)
    expr_at_lem w (is_negation e) = omega (arith, ap (sum_e own) (negation_tree p n w e), at_kind n 24 e, kid (negation_kid p n w e))
    expr_at_lem w (is_choice e) =
        let k = choice_kids p n w e in
        omega (arith, ap (sum_e own) (choice_tree p n w e), at_kind n 27 e, kid k.0, kid k.1, kid k.2)
    expr_at_lem w (is_just e) = omega (arith, ap (sum_e own) (just_tree p n w e), at_kind n 28 e, kid (just_kid p n w e))
    expr_at_lem w (is_taking e) =
        let k = taking_kids p n w e in
        omega (arith, ap (sum_e own) (taking_tree p n w e), at_kind n 29 e, kid k.0, kid k.1, kid k.2)
    expr_at_lem w (is_operation o) = operation_at w o

  expr_sums : (f n : ℕ) → n < f → NodeOf is_expression p n → sum_e own (expr_at p n) ≡ whole p own n
  expr_sums zero n h w = absurd (not-suc-le-zero h)
  expr_sums (suc f) n h w = expr_at_lem n (λ m l. expr_sums f m (omega arith)) w (expression_kind (kind_at p n))

  record Sums (n : ℕ) : Type 0 where
    signals : NodeOf is_signal p n → sum_s (signal_at p n) own ≡ whole p own n
    branches : NodeOf is_branch p n → sum_b (branches_at p n) own ≡ whole p own n
    cases : NodeOf is_case p n → sum_c (cases_at p n) own ≡ whole p own n

  module _ (n : ℕ) (ih : (m : ℕ) → m < n → Sums m) where
    expr : {x : ℕ} → Child is_expression p n x → sum_e own (expr_at p x) ≡ below n 0 (whole p own) x
    expr {x} c = expr_sums (suc x) x (omega arith) c.node ∙ sym (below_lt n 0 (whole p own) x c.less)

    sub : {x : ℕ} → Child is_signal p n x → sum_s (signal_at p x) own ≡ below n 0 (whole p own) x
    sub {x} c = (ih x c.less).signals c.node ∙ sym (below_lt n 0 (whole p own) x c.less)

    brs : {x : ℕ} → Child is_branch p n x → sum_b (branches_at p x) own ≡ below n 0 (whole p own) x
    brs {x} c = (ih x c.less).branches c.node ∙ sym (below_lt n 0 (whole p own) x c.less)

    cs : {x : ℕ} → Child is_case p n x → sum_c (cases_at p x) own ≡ below n 0 (whole p own) x
    cs {x} c = (ih x c.less).cases c.node ∙ sym (below_lt n 0 (whole p own) x c.less)

    ends : {sort : ℕ → Bool} → NodeOf sort p n → b_at p n ≡ 65535 → below n 0 (whole p own) (b_at p n) ≡ 0
    ends w e = below_ge n 0 (whole p own) (b_at p n) (omega (arith, w.inside, w.shaped.small))

    weight : Signal → ℕ
    weight s = sum_s s own

    signal_at_lem : NodeOf is_signal p n → SignalKind (kind_at p n) → sum_s (signal_at p n) own ≡ whole p own n
    unfolding weight sum_s of_children of_child is_child fields_of row ◌or◌ ◌and◌
    signal_at_lem w (is_input e) = omega (arith, ap weight (signal_input p n e), at_kind n 1 e)
    signal_at_lem w (is_time e) = omega (arith, ap weight (signal_time p n e), at_kind n 2 e)
    signal_at_lem w (is_ext e) = omega (arith, ap weight (ext_tree p n w e), at_kind n 3 e, expr (ext_kid p n w e))
    signal_at_lem w (is_delay e) = omega (arith, ap weight (delay_tree p n w e), at_kind n 4 e, sub (delay_kid p n w e))
    signal_at_lem w (is_let e) =
        let k = let_kids p n w e in
        omega (arith, ap weight (let_tree p n w e), at_kind n 5 e, sub k.0, sub k.1)
    signal_at_lem w (is_switch e) =
        let k = switch_kids p n w e in
        omega (arith, ap weight (switch_tree p n w e), at_kind n 6 e, sub k.0, sub k.1, sub k.2)
    signal_at_lem w (is_group e) =
        let k = group_kids p n w e in
        omega (arith, ap weight (group_tree p n w e), at_kind n 7 e, sub k.0, brs k.1)
    signal_at_lem w (is_until e) =
        let k = until_kids p n w e in
        omega (arith, ap weight (until_tree p n w e), at_kind n 8 e, sub k.0, cs k.1)

    branch_at : NodeOf is_branch p n → sum_b (branches_at p n) own ≡ whole p own n
    unfolding sum_s of_children of_child is_child fields_of row ◌or◌ is_branch
    branch_at w =
        let k = at_kind n 9 (eqb-true _ _ w.sorted) in
        choose (b_at p n) 65535
        (λ e. omega (arith, ap (λ (b : Branches). sum_b b own) (branch_end p n w e), sub (branch_kid p n w), ends w e))
        (λ d. omega (arith, ap (λ (b : Branches). sum_b b own) (branch_on p n w d), sub (branch_kid p n w), brs (branch_next p n w d)))

    case_at : NodeOf is_case p n → sum_c (cases_at p n) own ≡ whole p own n
    unfolding sum_s of_children of_child is_child fields_of row ◌or◌ is_case
    case_at w =
        let k = at_kind n 10 (eqb-true _ _ w.sorted) in
        choose (b_at p n) 65535
        (λ e. omega (arith, ap (λ (c : Cases). sum_c c own) (case_end p n w e), sub (case_kid p n w), ends w e))
        (λ d. omega (arith, ap (λ (c : Cases). sum_c c own) (case_on p n w d), sub (case_kid p n w), cs (case_next p n w d)))

  sums : (f n : ℕ) → n < f → Sums n
  sums zero n h = absurd (not-suc-le-zero h)
  sums (suc f) n h =
      let ih : (m : ℕ) → m < n → Sums m = λ m l. sums f m (omega arith) in
      record {
        signals = λ w. signal_at_lem n ih w (signal_kind (kind_at p n) w.sorted);
        branches = branch_at n ih;
        cases = case_at n ih;
      }

  pub root_sums : Accepted p → sum_s (root p) own ≡ total (nodes p) own
  unfolding root
  root_sums a =
      (sums (suc (nodes p - 1)) (nodes p - 1) (omega arith)).signals (root_of p a)
      ∙ whole_once p a.formed.length_right a.shape_right (some_node p a.formed) own

-- How often a number stands there.
unfoldable pub is : ℕ → ℕ → ℕ
is x n = 1 * (if eqb x n then 1 else 0)

-- At most once in an accepted program.
pub root_once : (p : Bytes) → Accepted p → (x : ℕ) → sum_s (root p) (is x) ≤ 1
unfolding is
root_once p a x = go (dec_lt x (nodes p))
  where
    go : Dec (x < nodes p) → sum_s (root p) (is x) ≤ 1
    go (yes h) = omega (arith, root_sums p (is x) a, total_at (nodes p) x (λ k. 1) h)
    go (no h) = omega (arith, root_sums p (is x) a, total_past (nodes p) x (λ k. 1) (omega arith))

is_own : (x : ℕ) → is x x ≡ 1
unfolding is
is_own x = simp (eq-eqb x x refl)

-- An entry counts.
pub entry_counts : (xs : List ℕ) (i x : ℕ) → i < length xs → entry xs i ≡ x → 1 ≤ sum_l (is x) xs
unfolding entry sum_l
entry_counts [] i x h e = absurd (omega arith)
entry_counts (y ∷ xs) zero x h e = let z : is x y ≡ 1 = ap (is x) e ∙ is_own x in omega arith
entry_counts (y ∷ xs) (suc i) x h e = let z = entry_counts xs i x (omega arith) e in omega arith

-- Where each number stands at most once, its place is the only one.
pub entry_once : (xs : List ℕ) → ((x : ℕ) → sum_l (is x) xs ≤ 1) → (i j : ℕ) → i < length xs → j < length xs → entry xs i ≡ entry xs j → i ≡ j
unfolding entry sum_l
entry_once [] h i j l g e = absurd (omega arith)
entry_once (y ∷ xs) h zero zero l g e = refl
entry_once (y ∷ xs) h zero (suc j) l g e =
    absurd (let z = entry_counts xs j y (omega arith) (sym e) in omega (arith, h y, is_own y))
entry_once (y ∷ xs) h (suc i) zero l g e =
    absurd (let z = entry_counts xs i y (omega arith) e in omega (arith, h y, is_own y))
entry_once (y ∷ xs) h (suc i) (suc j) l g e =
    let z = entry_once xs (λ x. let w = h x in omega arith) i j (omega arith) (omega arith) e in omega arith
