-- Where a new tree is an old one with lets dropped, renumbered as a pairing says, no entry of the pairing is wrong.
-- Assumes nothing.
use Rattle.std.specs.Prelude.{if◌then◌else◌}
use mathlib.Core.Path.{◌≡◌, refl, sym, ap, ◌∙◌, subst}
use mathlib.Core.Bool.{true, not}
use Prim.Native.Nat.{ℕ, suc, ◌-◌, ◌<◌}
use native.Mathlib.Omega.{arith}
use lib.Dec.{eqb}
use borrow.Author.Tests.{eqb-true, eq-eqb, ne_eqb, lt-ltb}
use Rattle.rules.specs.Bytes.{Bytes, ◌and◌, ◌or◌}
use Rattle.rules.specs.Values.{is_plain, is_type}
use Rattle.rules.specs.Layout.{nodes, kind_at, type_at, a_at, b_at, c_at, word_at, cells_before}
use Rattle.rules.specs.Kinds.{is_signal, is_expression, is_branch, is_case, fields_of, row}
use Rattle.rules.specs.Format.{field_wrong, type_field_wrong}
use Rattle.rules.specs.Shaped.{Shaped, NodeOf}
use Rattle.rules.specs.Accepted.{Formed}
use Rattle.rules.specs.Tree.{Expr, variable, constant, operation, negation, choice, just, taking, Signal, input, ext, delay, let_signal, switch, group, until, Branches, no_branch, branch, Cases, no_case, case, expr_at, signal_at, branches_at, cases_at, below, value_at, root}
use Rattle.rules.proofs.Static.{not_both, or_left, or_right}
use Rattle.rules.proofs.Nodes.{below_lt, below_ge, expr_variable, expr_constant, signal_input}
use Rattle.rules.proofs.Expressions.{IsOperation, negation_kid, negation_tree, just_kid, just_tree, choice_kids, choice_tree, taking_kids, taking_tree, operation_kids, operation_tree}
use Rattle.rules.proofs.Signals.{less, ext_kid, ext_tree, delay_kid, delay_tree, let_kids, let_tree, switch_kids, switch_tree, group_kids, group_tree, until_kids, until_tree, branch_kid, branch_next, branch_law, case_kid, case_next, case_law}
use Rattle.rules.proofs.ByKind.{ExpressionKind, is_variable, is_constant, is_negation, is_choice, is_just, is_taking, is_operation, expression_kind, SignalKind, is_input, is_time, is_ext, is_delay, is_let, is_switch, is_group, is_until, signal_kind, choose}
use Rattle.promises.proofs.ValidLaws.{and_join}
use Rattle.rules.specs.Shape.{is_child}
use Rattle.declarative.specs.WayUp.{Above}
use Rattle.declarative.proofs.Parents.{Table, from_above, each_node}
use Rattle.dropped.specs.Less.{LessE, LessS, LessB, LessC}
use Rattle.dropped.specs.Pairing.{reaches_f, reaches, field_right, entry_right}
use Rattle.dropped.proofs.Operating.{operates}
use Rattle.dropped.proofs.Inversions.{KeptS, tag_at, num_at, tag_e_by, num_e_by, kept_tag, kept_num, reach_self, strip, named_at, zeros_right, no_type, zero_word, same_fields, inv_input, inv_ext, inv_delay, inv_let, inv_switch, inv_group, inv_until, inv_branch, some_b, some_branch, some_c, some_case, inv_case, less_tag_e, less_num_e, inv_variable, inv_constant, inv_operation, inv_negation, inv_choice, inv_just, inv_taking}

module _ (p q : Bytes) (π : ℕ → ℕ) (fp : Formed p) (fq : Formed q) (sp : Shaped p) (sq : Shaped q)
    (binders : (i : ℕ) → NodeOf is_expression q i → kind_at q i ≡ 16 → a_at q i < nodes q) (targets : (i : ℕ) → NodeOf is_case q i → c_at q i < nodes q) where
  -- A new node whose old one stands for it.
  data Landed (i : ℕ) : Type 0 where
    a_signal : NodeOf is_signal q i → NodeOf is_signal p (π i) → KeptS π (signal_at p (π i)) (signal_at q i) → Landed i
    an_expression : NodeOf is_expression q i → NodeOf is_expression p (π i) → LessE π (expr_at p (π i)) (expr_at q i) → Landed i
    a_branch : NodeOf is_branch q i → NodeOf is_branch p (π i) → LessB π (branches_at p (π i)) (branches_at q i) → Landed i
    a_case : NodeOf is_case q i → NodeOf is_case p (π i) → LessC π (cases_at p (π i)) (cases_at q i) → Landed i

  -- A child: it is reached, and landed.
  record Lands (y x : ℕ) : Type 0 where
    reach : reaches p y (π x) ≡ true
    landed : Landed x

  lands_signal : (y x : ℕ) → NodeOf is_signal p y → NodeOf is_signal q x → LessS π (signal_at p y) (signal_at q x) → Lands y x
  unfolding reaches
  lands_signal y x v w h =
      let r = strip p (suc y) y (signal_at q x) (omega arith) v h in
      let e : r.z ≡ π x = sym (num_at p r.z r.node) ∙ kept_num r.kept ∙ ap π (num_at q x w) in
      record {
        reach = subst (λ (j : ℕ). reaches_f (suc y) p y j ≡ true) e r.reach;
        landed = a_signal w (subst (NodeOf is_signal p) e r.node) (subst (λ (j : ℕ). KeptS π (signal_at p j) (signal_at q x)) e r.kept);
      }

  lands_expr : (y x : ℕ) → NodeOf is_expression p y → NodeOf is_expression q x → LessE π (expr_at p y) (expr_at q x) → Lands y x
  unfolding reaches
  lands_expr y x v w h =
      let e : y ≡ π x = sym (num_e_by p y v (expression_kind (kind_at p y))) ∙ less_num_e h ∙ ap π (num_e_by q x w (expression_kind (kind_at q x))) in
      record {
        reach = subst (λ (j : ℕ). reaches_f (suc y) p y j ≡ true) e (reach_self p y y);
        landed = an_expression w (subst (NodeOf is_expression p) e v) (subst (λ (j : ℕ). LessE π (expr_at p j) (expr_at q x)) e h);
      }

  lands_branch : (y x : ℕ) → NodeOf is_branch p y → NodeOf is_branch q x → LessB π (branches_at p y) (branches_at q x) → Lands y x
  unfolding reaches
  lands_branch y x v w h =
      let i = inv_branch (subst (λ (b : Branches). LessB π b (branch x (type_at q x) (signal_at q (a_at q x)) (below x no_branch (branches_at q) (b_at q x)))) (branch_law p y v refl)
      (subst (λ (b : Branches). LessB π (branches_at p y) b) (branch_law q x w refl) h)) in
      let e : y ≡ π x = i.0 in
      record {
        reach = subst (λ (j : ℕ). reaches_f (suc y) p y j ≡ true) e (reach_self p y y);
        landed = a_branch w (subst (NodeOf is_branch p) e v) (subst (λ (j : ℕ). LessB π (branches_at p j) (branches_at q x)) e h);
      }

  lands_case : (y x : ℕ) → NodeOf is_case p y → NodeOf is_case q x → LessC π (cases_at p y) (cases_at q x) → Lands y x
  unfolding reaches
  lands_case y x v w h =
      let i = inv_case (subst (λ (b : Cases). LessC π b (case x (signal_at q (a_at q x)) (c_at q x) (type_at q (c_at q x)) (below x no_case (cases_at q) (b_at q x)))) (case_law p y v refl)
      (subst (λ (b : Cases). LessC π (cases_at p y) b) (case_law q x w refl) h)) in
      let e : y ≡ π x = i.0 in
      record {
        reach = subst (λ (j : ℕ). reaches_f (suc y) p y j ≡ true) e (reach_self p y y);
        landed = a_case w (subst (NodeOf is_case p) e v) (subst (λ (j : ℕ). LessC π (cases_at p j) (cases_at q x)) e h);
      }

  -- What a landed node gives: a right entry, and landed children.
  record Facts (i : ℕ) : Type 0 where
    inside : π i < nodes p
    kind_is : kind_at q i ≡ kind_at p (π i)
    type_is : type_at q i ≡ type_at p (π i)
    word_is : word_at q i ≡ word_at p (π i)
    a_right : field_right p (nodes q) π (fields_of (kind_at q i)).a (a_at q i) (a_at p (π i)) ≡ true
    b_right : field_right p (nodes q) π (fields_of (kind_at q i)).b (b_at q i) (b_at p (π i)) ≡ true
    c_right : field_right p (nodes q) π (fields_of (kind_at q i)).c (c_at q i) (c_at p (π i)) ≡ true
    children : (n : ℕ) → n < nodes q → Above q i n → Landed n

  abbrev Later : ℕ → Type 0
  Later n = n < nodes q → Landed n

  facts_of : (i k : ℕ) → kind_at q i ≡ k → kind_at p (π i) ≡ k → π i < nodes p → type_at q i ≡ type_at p (π i) → word_at q i ≡ word_at p (π i)
      → field_right p (nodes q) π (fields_of k).a (a_at q i) (a_at p (π i)) ≡ true → field_right p (nodes q) π (fields_of k).b (b_at q i) (b_at p (π i)) ≡ true
      → field_right p (nodes q) π (fields_of k).c (c_at q i) (c_at p (π i)) ≡ true
      → (is_child (fields_of k).a ≡ true → Later (a_at q i)) → (is_child (fields_of k).b ≡ true → Later (b_at q i)) → (is_child (fields_of k).c ≡ true → Later (c_at q i))
      → Facts i
  facts_of i k e f l t w a b c fa fb fc = record {
    inside = l;
    kind_is = e ∙ sym f;
    type_is = t;
    word_is = w;
    a_right = rw e a;
    b_right = rw e b;
    c_right = rw e c;
    children = λ n h u. from_above q i Later k n e fa fb fc u h;
  }

  module _ (i : ℕ) where
    signal_facts : (w : NodeOf is_signal q i) (o : NodeOf is_signal p (π i)) → KeptS π (signal_at p (π i)) (signal_at q i) → kind_at p (π i) ≡ kind_at q i
        → SignalKind (kind_at q i) → Facts i
    unfolding fields_of row field_right is_child field_wrong type_field_wrong value_at ◌and◌
    signal_facts w o h same (is_input e) =
        let f : kind_at p (π i) ≡ 1 = same ∙ e in
        let nq = named_at q fq i 1 w.inside e in
        let np = named_at p fp (π i) 1 o.inside f in
        let tq = no_type (type_at q i) (word_at q i) nq.of_type in
        let tp = no_type (type_at p (π i)) (word_at p (π i)) np.of_type in
        let k = inv_input (subst (λ (s : Signal). KeptS π s (input i (a_at q i))) (signal_input p (π i) f) (subst (KeptS π (signal_at p (π i))) (signal_input q i e) h)) in
        facts_of i 1 e f o.inside (tq.0 ∙ sym tp.0) (tq.1 ∙ sym tp.1) (eq-eqb (a_at q i) (a_at p (π i)) (sym k)) (zeros_right (b_at q i) (b_at p (π i)) nq.of_b np.of_b) (zeros_right (c_at q i) (c_at p (π i)) nq.of_c np.of_c)
        (λ z. absurd (not_both z)) (λ z. absurd (not_both z)) (λ z. absurd (not_both z))
    signal_facts w o h same (is_time e) =
        let f : kind_at p (π i) ≡ 2 = same ∙ e in
        let nq = named_at q fq i 2 w.inside e in
        let np = named_at p fp (π i) 2 o.inside f in
        let tq = no_type (type_at q i) (word_at q i) nq.of_type in
        let tp = no_type (type_at p (π i)) (word_at p (π i)) np.of_type in
        facts_of i 2 e f o.inside (tq.0 ∙ sym tp.0) (tq.1 ∙ sym tp.1) (zeros_right (a_at q i) (a_at p (π i)) nq.of_a np.of_a) (zeros_right (b_at q i) (b_at p (π i)) nq.of_b np.of_b) (zeros_right (c_at q i) (c_at p (π i)) nq.of_c np.of_c)
        (λ z. absurd (not_both z)) (λ z. absurd (not_both z)) (λ z. absurd (not_both z))
    signal_facts w o h same (is_ext e) =
        let f : kind_at p (π i) ≡ 3 = same ∙ e in
        let nq = named_at q fq i 3 w.inside e in
        let np = named_at p fp (π i) 3 o.inside f in
        let tq = no_type (type_at q i) (word_at q i) nq.of_type in
        let tp = no_type (type_at p (π i)) (word_at p (π i)) np.of_type in
        let k = inv_ext (subst (λ (s : Signal). KeptS π s (ext i (expr_at q (a_at q i)))) (ext_tree p (π i) o f) (subst (KeptS π (signal_at p (π i))) (ext_tree q i w e) h)) in
        let a = lands_expr (a_at p (π i)) (a_at q i) (ext_kid p (π i) o f).node (ext_kid q i w e).node k in
        facts_of i 3 e f o.inside (tq.0 ∙ sym tp.0) (tq.1 ∙ sym tp.1) a.reach (zeros_right (b_at q i) (b_at p (π i)) nq.of_b np.of_b) (zeros_right (c_at q i) (c_at p (π i)) nq.of_c np.of_c)
        (λ z l. a.landed) (λ z. absurd (not_both z)) (λ z. absurd (not_both z))
    signal_facts w o h same (is_delay e) =
        let f : kind_at p (π i) ≡ 4 = same ∙ e in
        let nq = named_at q fq i 4 w.inside e in
        let np = named_at p fp (π i) 4 o.inside f in
        let k = inv_delay (subst (λ (s : Signal). KeptS π s (delay i (cells_before q i) (value_at q i) (signal_at q (a_at q i)))) (delay_tree p (π i) o f)
        (subst (KeptS π (signal_at p (π i))) (delay_tree q i w e) h)) in
        let v = same_fields (type_at q i) (b_at q i) (word_at q i) (type_at p (π i)) (b_at p (π i)) (word_at p (π i)) nq.of_type np.of_type (sym k.0) in
        let a = lands_signal (a_at p (π i)) (a_at q i) (delay_kid p (π i) o f).node (delay_kid q i w e).node k.1 in
        facts_of i 4 e f o.inside v.types v.words a.reach (eq-eqb (b_at q i) (b_at p (π i)) v.presents) (zeros_right (c_at q i) (c_at p (π i)) nq.of_c np.of_c)
        (λ z l. a.landed) (λ z. absurd (not_both z)) (λ z. absurd (not_both z))
    signal_facts w o h same (is_let e) =
        let f : kind_at p (π i) ≡ 5 = same ∙ e in
        let nq = named_at q fq i 5 w.inside e in
        let np = named_at p fp (π i) 5 o.inside f in
        let k = inv_let (subst (λ (s : Signal). KeptS π s (let_signal i (type_at q i) (signal_at q (a_at q i)) (signal_at q (b_at q i)))) (let_tree p (π i) o f)
        (subst (KeptS π (signal_at p (π i))) (let_tree q i w e) h)) in
        let jp = let_kids p (π i) o f in
        let jq = let_kids q i w e in
        let a = lands_signal (a_at p (π i)) (a_at q i) jp.0.node jq.0.node k.1 in
        let b = lands_signal (b_at p (π i)) (b_at q i) jp.1.node jq.1.node k.2 in
        facts_of i 5 e f o.inside (sym k.0) (zero_word (is_type (type_at q i)) (word_at q i) nq.of_type ∙ sym (zero_word (is_type (type_at p (π i))) (word_at p (π i)) np.of_type)) a.reach b.reach (zeros_right (c_at q i) (c_at p (π i)) nq.of_c np.of_c)
        (λ z l. a.landed) (λ z l. b.landed) (λ z. absurd (not_both z))
    signal_facts w o h same (is_switch e) =
        let f : kind_at p (π i) ≡ 6 = same ∙ e in
        let nq = named_at q fq i 6 w.inside e in
        let np = named_at p fp (π i) 6 o.inside f in
        let k = inv_switch (subst (λ (s : Signal). KeptS π s (switch i (cells_before q i) (type_at q i) (signal_at q (a_at q i)) (signal_at q (b_at q i)) (signal_at q (c_at q i)))) (switch_tree p (π i) o f)
        (subst (KeptS π (signal_at p (π i))) (switch_tree q i w e) h)) in
        let jp = switch_kids p (π i) o f in
        let jq = switch_kids q i w e in
        let a = lands_signal (a_at p (π i)) (a_at q i) jp.0.node jq.0.node k.1 in
        let b = lands_signal (b_at p (π i)) (b_at q i) jp.1.node jq.1.node k.2 in
        let c = lands_signal (c_at p (π i)) (c_at q i) jp.2.node jq.2.node k.3 in
        facts_of i 6 e f o.inside (sym k.0) (zero_word (is_plain (type_at q i)) (word_at q i) nq.of_type ∙ sym (zero_word (is_plain (type_at p (π i))) (word_at p (π i)) np.of_type)) a.reach b.reach c.reach
        (λ z l. a.landed) (λ z l. b.landed) (λ z l. c.landed)
    signal_facts w o h same (is_group e) =
        let f : kind_at p (π i) ≡ 7 = same ∙ e in
        let nq = named_at q fq i 7 w.inside e in
        let np = named_at p fp (π i) 7 o.inside f in
        let tq = no_type (type_at q i) (word_at q i) nq.of_type in
        let tp = no_type (type_at p (π i)) (word_at p (π i)) np.of_type in
        let k = inv_group (subst (λ (s : Signal). KeptS π s (group i (cells_before q i) (signal_at q (a_at q i)) (branches_at q (b_at q i)))) (group_tree p (π i) o f)
        (subst (KeptS π (signal_at p (π i))) (group_tree q i w e) h)) in
        let jp = group_kids p (π i) o f in
        let jq = group_kids q i w e in
        let a = lands_signal (a_at p (π i)) (a_at q i) jp.0.node jq.0.node k.0 in
        let b = lands_branch (b_at p (π i)) (b_at q i) jp.1.node jq.1.node k.1 in
        facts_of i 7 e f o.inside (tq.0 ∙ sym tp.0) (tq.1 ∙ sym tp.1) a.reach b.reach (zeros_right (c_at q i) (c_at p (π i)) nq.of_c np.of_c)
        (λ z l. a.landed) (λ z l. b.landed) (λ z. absurd (not_both z))
    signal_facts w o h same (is_until e) =
        let f : kind_at p (π i) ≡ 8 = same ∙ e in
        let nq = named_at q fq i 8 w.inside e in
        let np = named_at p fp (π i) 8 o.inside f in
        let tq = no_type (type_at q i) (word_at q i) nq.of_type in
        let tp = no_type (type_at p (π i)) (word_at p (π i)) np.of_type in
        let k = inv_until (subst (λ (s : Signal). KeptS π s (until i (signal_at q (a_at q i)) (cases_at q (b_at q i)))) (until_tree p (π i) o f)
        (subst (KeptS π (signal_at p (π i))) (until_tree q i w e) h)) in
        let jp = until_kids p (π i) o f in
        let jq = until_kids q i w e in
        let a = lands_signal (a_at p (π i)) (a_at q i) jp.0.node jq.0.node k.0 in
        let b = lands_case (b_at p (π i)) (b_at q i) jp.1.node jq.1.node k.1 in
        facts_of i 8 e f o.inside (tq.0 ∙ sym tp.0) (tq.1 ∙ sym tp.1) a.reach b.reach (zeros_right (c_at q i) (c_at p (π i)) nq.of_c np.of_c)
        (λ z l. a.landed) (λ z l. b.landed) (λ z. absurd (not_both z))

    operation_facts : (w : NodeOf is_expression q i) (o : NodeOf is_expression p (π i)) → LessE π (expr_at p (π i)) (expr_at q i) → kind_at p (π i) ≡ kind_at q i
        → IsOperation (kind_at q i) → Facts i
    unfolding field_right field_wrong type_field_wrong is_child
    operation_facts w o h same e =
        let f : IsOperation (kind_at p (π i)) = subst IsOperation (sym same) e in
        let y = operates (kind_at q i) w.sorted e in
        let nq = named_at q fq i (kind_at q i) w.inside refl in
        let np = named_at p fp (π i) (kind_at q i) o.inside same in
        let tq = no_type (type_at q i) (word_at q i) (rw y.untyped at nq.of_type) in
        let tp = no_type (type_at p (π i)) (word_at p (π i)) (rw y.untyped at np.of_type) in
        let k = inv_operation (subst (λ (s : Expr). LessE π s (operation i (kind_at q i) (expr_at q (a_at q i)) (expr_at q (b_at q i)))) (operation_tree p (π i) o f)
        (subst (LessE π (expr_at p (π i))) (operation_tree q i w e) h)) in
        let jp = operation_kids p (π i) o f in
        let jq = operation_kids q i w e in
        let a = lands_expr (a_at p (π i)) (a_at q i) jp.0.node jq.0.node k.0 in
        let b = lands_expr (b_at p (π i)) (b_at q i) jp.1.node jq.1.node k.1 in
        facts_of i (kind_at q i) refl same o.inside (tq.0 ∙ sym tp.0) (tq.1 ∙ sym tp.1) (rw y.first_kid a.reach) (rw y.second_kid b.reach)
        (rw y.no_third (zeros_right (c_at q i) (c_at p (π i)) (rw y.no_third at nq.of_c) (rw y.no_third at np.of_c)))
        (λ z l. a.landed) (λ z l. b.landed) (λ z. absurd (not_both (rw y.no_third at z)))

    expr_facts : (w : NodeOf is_expression q i) (o : NodeOf is_expression p (π i)) → LessE π (expr_at p (π i)) (expr_at q i) → kind_at p (π i) ≡ kind_at q i
        → ExpressionKind (kind_at q i) → Facts i
    unfolding fields_of row field_right is_child field_wrong type_field_wrong value_at ◌and◌
    expr_facts w o h same (is_variable e) =
        let f : kind_at p (π i) ≡ 16 = same ∙ e in
        let nq = named_at q fq i 16 w.inside e in
        let np = named_at p fp (π i) 16 o.inside f in
        let tq = no_type (type_at q i) (word_at q i) nq.of_type in
        let tp = no_type (type_at p (π i)) (word_at p (π i)) np.of_type in
        let k : a_at p (π i) ≡ π (a_at q i) = inv_variable (subst (λ (s : Expr). LessE π s (variable i (a_at q i) (type_at q (a_at q i)))) (expr_variable p (π i) f) (subst (LessE π (expr_at p (π i))) (expr_variable q i e) h)) in
        facts_of i 16 e f o.inside (tq.0 ∙ sym tp.0) (tq.1 ∙ sym tp.1)
        (and_join _ _ (lt-ltb (a_at q i) (nodes q) (binders i w e)) (eq-eqb (π (a_at q i)) (a_at p (π i)) (sym k)))
        (zeros_right (b_at q i) (b_at p (π i)) nq.of_b np.of_b) (zeros_right (c_at q i) (c_at p (π i)) nq.of_c np.of_c)
        (λ z. absurd (not_both z)) (λ z. absurd (not_both z)) (λ z. absurd (not_both z))
    expr_facts w o h same (is_constant e) =
        let f : kind_at p (π i) ≡ 17 = same ∙ e in
        let nq = named_at q fq i 17 w.inside e in
        let np = named_at p fp (π i) 17 o.inside f in
        let k = inv_constant (subst (λ (s : Expr). LessE π s (constant i (value_at q i))) (expr_constant p (π i) f) (subst (LessE π (expr_at p (π i))) (expr_constant q i e) h)) in
        let v = same_fields (type_at q i) (b_at q i) (word_at q i) (type_at p (π i)) (b_at p (π i)) (word_at p (π i)) nq.of_type np.of_type (sym k) in
        facts_of i 17 e f o.inside v.types v.words (zeros_right (a_at q i) (a_at p (π i)) nq.of_a np.of_a) (eq-eqb (b_at q i) (b_at p (π i)) v.presents)
        (zeros_right (c_at q i) (c_at p (π i)) nq.of_c np.of_c)
        (λ z. absurd (not_both z)) (λ z. absurd (not_both z)) (λ z. absurd (not_both z))
    expr_facts w o h same (is_negation e) =
        let f : kind_at p (π i) ≡ 24 = same ∙ e in
        let nq = named_at q fq i 24 w.inside e in
        let np = named_at p fp (π i) 24 o.inside f in
        let tq = no_type (type_at q i) (word_at q i) nq.of_type in
        let tp = no_type (type_at p (π i)) (word_at p (π i)) np.of_type in
        let k = inv_negation (subst (λ (s : Expr). LessE π s (negation i (expr_at q (a_at q i)))) (negation_tree p (π i) o f) (subst (LessE π (expr_at p (π i))) (negation_tree q i w e) h)) in
        let a = lands_expr (a_at p (π i)) (a_at q i) (negation_kid p (π i) o f).node (negation_kid q i w e).node k in
        facts_of i 24 e f o.inside (tq.0 ∙ sym tp.0) (tq.1 ∙ sym tp.1) a.reach
        (zeros_right (b_at q i) (b_at p (π i)) nq.of_b np.of_b) (zeros_right (c_at q i) (c_at p (π i)) nq.of_c np.of_c)
        (λ z l. a.landed) (λ z. absurd (not_both z)) (λ z. absurd (not_both z))
    expr_facts w o h same (is_choice e) =
        let f : kind_at p (π i) ≡ 27 = same ∙ e in
        let nq = named_at q fq i 27 w.inside e in
        let np = named_at p fp (π i) 27 o.inside f in
        let tq = no_type (type_at q i) (word_at q i) nq.of_type in
        let tp = no_type (type_at p (π i)) (word_at p (π i)) np.of_type in
        let k = inv_choice (subst (λ (s : Expr). LessE π s (choice i (expr_at q (a_at q i)) (expr_at q (b_at q i)) (expr_at q (c_at q i)))) (choice_tree p (π i) o f)
        (subst (LessE π (expr_at p (π i))) (choice_tree q i w e) h)) in
        let jp = choice_kids p (π i) o f in
        let jq = choice_kids q i w e in
        let a = lands_expr (a_at p (π i)) (a_at q i) jp.0.node jq.0.node k.0 in
        let b = lands_expr (b_at p (π i)) (b_at q i) jp.1.node jq.1.node k.1 in
        let c = lands_expr (c_at p (π i)) (c_at q i) jp.2.node jq.2.node k.2 in
        facts_of i 27 e f o.inside (tq.0 ∙ sym tp.0) (tq.1 ∙ sym tp.1) a.reach b.reach c.reach (λ z l. a.landed) (λ z l. b.landed) (λ z l. c.landed)
    expr_facts w o h same (is_just e) =
        let f : kind_at p (π i) ≡ 28 = same ∙ e in
        let nq = named_at q fq i 28 w.inside e in
        let np = named_at p fp (π i) 28 o.inside f in
        let tq = no_type (type_at q i) (word_at q i) nq.of_type in
        let tp = no_type (type_at p (π i)) (word_at p (π i)) np.of_type in
        let k = inv_just (subst (λ (s : Expr). LessE π s (just i (expr_at q (a_at q i)))) (just_tree p (π i) o f) (subst (LessE π (expr_at p (π i))) (just_tree q i w e) h)) in
        let a = lands_expr (a_at p (π i)) (a_at q i) (just_kid p (π i) o f).node (just_kid q i w e).node k in
        facts_of i 28 e f o.inside (tq.0 ∙ sym tp.0) (tq.1 ∙ sym tp.1) a.reach
        (zeros_right (b_at q i) (b_at p (π i)) nq.of_b np.of_b) (zeros_right (c_at q i) (c_at p (π i)) nq.of_c np.of_c)
        (λ z l. a.landed) (λ z. absurd (not_both z)) (λ z. absurd (not_both z))
    expr_facts w o h same (is_taking e) =
        let f : kind_at p (π i) ≡ 29 = same ∙ e in
        let nq = named_at q fq i 29 w.inside e in
        let np = named_at p fp (π i) 29 o.inside f in
        let k = inv_taking (subst (λ (s : Expr). LessE π s (taking i (type_at q i) (expr_at q (a_at q i)) (expr_at q (b_at q i)) (expr_at q (c_at q i)))) (taking_tree p (π i) o f)
        (subst (LessE π (expr_at p (π i))) (taking_tree q i w e) h)) in
        let jp = taking_kids p (π i) o f in
        let jq = taking_kids q i w e in
        let a = lands_expr (a_at p (π i)) (a_at q i) jp.0.node jq.0.node k.1 in
        let b = lands_expr (b_at p (π i)) (b_at q i) jp.1.node jq.1.node k.2 in
        let c = lands_expr (c_at p (π i)) (c_at q i) jp.2.node jq.2.node k.3 in
        facts_of i 29 e f o.inside (sym k.0) (zero_word (is_plain (type_at q i)) (word_at q i) nq.of_type ∙ sym (zero_word (is_plain (type_at p (π i))) (word_at p (π i)) np.of_type))
        a.reach b.reach c.reach (λ z l. a.landed) (λ z l. b.landed) (λ z l. c.landed)
    expr_facts w o h same (is_operation e) = operation_facts w o h same e

    -- The next of a list.
    record NextFacts : Type 0 where
      next_right : (if eqb (b_at q i) 65535 then eqb (b_at p (π i)) 65535 else not (eqb (b_at p (π i)) 65535) and reaches p (b_at p (π i)) (π (b_at q i))) ≡ true
      next_later : Later (b_at q i)

    ends_both : i < nodes q → b_at q i ≡ 65535 → b_at p (π i) ≡ 65535 → NextFacts
    ends_both l x y = record {
      next_right = rw (eq-eqb (b_at q i) 65535 x, eq-eqb (b_at p (π i)) 65535 y) refl;
      next_later = λ z. absurd (omega (arith, x, sq.small));
    }

    goes_both : (b_at q i ≡ 65535 → ⊥) → (b_at p (π i) ≡ 65535 → ⊥) → Lands (b_at p (π i)) (b_at q i) → NextFacts
    unfolding ◌and◌
    goes_both x y r = record {
      next_right = rw (ne_eqb (b_at q i) 65535 x, ne_eqb (b_at p (π i)) 65535 y) r.reach;
      next_later = λ z. r.landed;
    }

    one_is_not_none : {A : Type 0} → ◌≡◌ {A = ℕ} 0 1 → A
    one_is_not_none e = absurd (omega arith)

    branch_nexts : (w : NodeOf is_branch q i) (o : NodeOf is_branch p (π i))
        → LessB π (below (π i) no_branch (branches_at p) (b_at p (π i))) (below i no_branch (branches_at q) (b_at q i)) → NextFacts
    unfolding some_b
    branch_nexts w o h =
        choose (b_at q i) 65535
        (λ x. choose (b_at p (π i)) 65535 (λ y. ends_both w.inside x y)
        (λ y. one_is_not_none (sym (some_branch h ∙ ap some_b (none_new x)) ∙ some_old y)))
        (λ x. choose (b_at p (π i)) 65535
        (λ y. one_is_not_none (sym (ap some_b (none_old y)) ∙ some_branch h ∙ some_new x))
        (λ y. goes_both x y (lands_branch (b_at p (π i)) (b_at q i) (branch_next p (π i) o y).node (branch_next q i w x).node
        (subst (λ (b : Branches). LessB π b (branches_at q (b_at q i))) (below_lt (π i) no_branch (branches_at p) (b_at p (π i)) (branch_next p (π i) o y).less)
        (subst (LessB π (below (π i) no_branch (branches_at p) (b_at p (π i)))) (below_lt i no_branch (branches_at q) (b_at q i) (branch_next q i w x).less) h)))))
      where
        none_new : b_at q i ≡ 65535 → below i no_branch (branches_at q) (b_at q i) ≡ no_branch
        none_new x = below_ge i no_branch (branches_at q) (b_at q i) (omega (arith, x, w.inside, sq.small))

        none_old : b_at p (π i) ≡ 65535 → below (π i) no_branch (branches_at p) (b_at p (π i)) ≡ no_branch
        none_old y = below_ge (π i) no_branch (branches_at p) (b_at p (π i)) (omega (arith, y, o.inside, sp.small))

        some_old : (y : b_at p (π i) ≡ 65535 → ⊥) → some_b (below (π i) no_branch (branches_at p) (b_at p (π i))) ≡ 1
        some_old y = ap some_b (below_lt (π i) no_branch (branches_at p) (b_at p (π i)) (branch_next p (π i) o y).less ∙ branch_law p (b_at p (π i)) (branch_next p (π i) o y).node refl)

        some_new : (x : b_at q i ≡ 65535 → ⊥) → some_b (below i no_branch (branches_at q) (b_at q i)) ≡ 1
        some_new x = ap some_b (below_lt i no_branch (branches_at q) (b_at q i) (branch_next q i w x).less ∙ branch_law q (b_at q i) (branch_next q i w x).node refl)

    case_nexts : (w : NodeOf is_case q i) (o : NodeOf is_case p (π i))
        → LessC π (below (π i) no_case (cases_at p) (b_at p (π i))) (below i no_case (cases_at q) (b_at q i)) → NextFacts
    unfolding some_c
    case_nexts w o h =
        choose (b_at q i) 65535
        (λ x. choose (b_at p (π i)) 65535 (λ y. ends_both w.inside x y)
        (λ y. one_is_not_none (sym (some_case h ∙ ap some_c (none_new x)) ∙ some_old y)))
        (λ x. choose (b_at p (π i)) 65535
        (λ y. one_is_not_none (sym (ap some_c (none_old y)) ∙ some_case h ∙ some_new x))
        (λ y. goes_both x y (lands_case (b_at p (π i)) (b_at q i) (case_next p (π i) o y).node (case_next q i w x).node
        (subst (λ (b : Cases). LessC π b (cases_at q (b_at q i))) (below_lt (π i) no_case (cases_at p) (b_at p (π i)) (case_next p (π i) o y).less)
        (subst (LessC π (below (π i) no_case (cases_at p) (b_at p (π i)))) (below_lt i no_case (cases_at q) (b_at q i) (case_next q i w x).less) h)))))
      where
        none_new : b_at q i ≡ 65535 → below i no_case (cases_at q) (b_at q i) ≡ no_case
        none_new x = below_ge i no_case (cases_at q) (b_at q i) (omega (arith, x, w.inside, sq.small))

        none_old : b_at p (π i) ≡ 65535 → below (π i) no_case (cases_at p) (b_at p (π i)) ≡ no_case
        none_old y = below_ge (π i) no_case (cases_at p) (b_at p (π i)) (omega (arith, y, o.inside, sp.small))

        some_old : (y : b_at p (π i) ≡ 65535 → ⊥) → some_c (below (π i) no_case (cases_at p) (b_at p (π i))) ≡ 1
        some_old y = ap some_c (below_lt (π i) no_case (cases_at p) (b_at p (π i)) (case_next p (π i) o y).less ∙ case_law p (b_at p (π i)) (case_next p (π i) o y).node refl)

        some_new : (x : b_at q i ≡ 65535 → ⊥) → some_c (below i no_case (cases_at q) (b_at q i)) ≡ 1
        some_new x = ap some_c (below_lt i no_case (cases_at q) (b_at q i) (case_next q i w x).less ∙ case_law q (b_at q i) (case_next q i w x).node refl)

    branch_facts : (w : NodeOf is_branch q i) (o : NodeOf is_branch p (π i)) → LessB π (branches_at p (π i)) (branches_at q i) → Facts i
    unfolding is_branch fields_of row field_right is_child field_wrong type_field_wrong ◌and◌
    branch_facts w o h =
        let e : kind_at q i ≡ 9 = eqb-true (kind_at q i) 9 w.sorted in
        let f : kind_at p (π i) ≡ 9 = eqb-true (kind_at p (π i)) 9 o.sorted in
        let nq = named_at q fq i 9 w.inside e in
        let np = named_at p fp (π i) 9 o.inside f in
        let k = inv_branch (subst (λ (b : Branches). LessB π b (branch i (type_at q i) (signal_at q (a_at q i)) (below i no_branch (branches_at q) (b_at q i)))) (branch_law p (π i) o refl)
        (subst (LessB π (branches_at p (π i))) (branch_law q i w refl) h)) in
        let a = lands_signal (a_at p (π i)) (a_at q i) (branch_kid p (π i) o).node (branch_kid q i w).node k.2 in
        let n = branch_nexts w o k.3 in
        facts_of i 9 e f o.inside (sym k.1) (zero_word (is_plain (type_at q i)) (word_at q i) nq.of_type ∙ sym (zero_word (is_plain (type_at p (π i))) (word_at p (π i)) np.of_type))
        a.reach n.next_right (zeros_right (c_at q i) (c_at p (π i)) nq.of_c np.of_c) (λ z l. a.landed) (λ z. n.next_later) (λ z. absurd (not_both z))

    case_facts : (w : NodeOf is_case q i) (o : NodeOf is_case p (π i)) → LessC π (cases_at p (π i)) (cases_at q i) → Facts i
    unfolding is_case fields_of row field_right is_child field_wrong type_field_wrong ◌and◌
    case_facts w o h =
        let e : kind_at q i ≡ 10 = eqb-true (kind_at q i) 10 w.sorted in
        let f : kind_at p (π i) ≡ 10 = eqb-true (kind_at p (π i)) 10 o.sorted in
        let nq = named_at q fq i 10 w.inside e in
        let np = named_at p fp (π i) 10 o.inside f in
        let tq = no_type (type_at q i) (word_at q i) nq.of_type in
        let tp = no_type (type_at p (π i)) (word_at p (π i)) np.of_type in
        let k = inv_case (subst (λ (b : Cases). LessC π b (case i (signal_at q (a_at q i)) (c_at q i) (type_at q (c_at q i)) (below i no_case (cases_at q) (b_at q i)))) (case_law p (π i) o refl)
        (subst (LessC π (cases_at p (π i))) (case_law q i w refl) h)) in
        let a = lands_signal (a_at p (π i)) (a_at q i) (case_kid p (π i) o).node (case_kid q i w).node k.2 in
        let n = case_nexts w o k.3 in
        facts_of i 10 e f o.inside (tq.0 ∙ sym tp.0) (tq.1 ∙ sym tp.1)
        a.reach n.next_right (and_join _ _ (lt-ltb (c_at q i) (nodes q) (targets i w)) (eq-eqb (π (c_at q i)) (c_at p (π i)) (sym k.1)))
        (λ z l. a.landed) (λ z. n.next_later) (λ z. absurd (not_both z))

    facts : Landed i → Facts i
    facts (a_signal w o h) = signal_facts w o h (sym (tag_at p (π i) o) ∙ kept_tag h ∙ tag_at q i w) (signal_kind (kind_at q i) w.sorted)
    facts (an_expression w o h) =
        expr_facts w o h (sym (tag_e_by p (π i) o (expression_kind (kind_at p (π i)))) ∙ less_tag_e h ∙ tag_e_by q i w (expression_kind (kind_at q i))) (expression_kind (kind_at q i))
    facts (a_branch w o h) = branch_facts w o h
    facts (a_case w o h) = case_facts w o h

  -- Every entry, from the root down.
  each_landed : Table q → NodeOf is_signal p (nodes p - 1) → NodeOf is_signal q (nodes q - 1) → LessS π (root p) (root q) → (i : ℕ) → i < nodes q → Landed i
  unfolding root
  each_landed t v w x i l =
      each_node q t Later (λ z. (lands_signal (nodes p - 1) (nodes q - 1) v w x).landed) (λ m n lm ln u h z. (facts m (h lm)).children n ln u) i l l

  last_right : NodeOf is_signal p (nodes p - 1) → NodeOf is_signal q (nodes q - 1) → LessS π (root p) (root q) → (i : ℕ)
      → (not (eqb (suc i) (nodes q)) or reaches p (nodes p - 1) (π i)) ≡ true
  unfolding root
  last_right v w x i =
      choose (suc i) (nodes q)
      (λ e. or_right _ _ (subst (λ (j : ℕ). reaches p (nodes p - 1) (π j) ≡ true) (let z : nodes q - 1 ≡ i = omega arith in z)
      (lands_signal (nodes p - 1) (nodes q - 1) v w x).reach))
      (λ d. or_left _ _ (ap not (ne_eqb (suc i) (nodes q) d)))

  pub entries : Table q → NodeOf is_signal p (nodes p - 1) → NodeOf is_signal q (nodes q - 1) → LessS π (root p) (root q) → (i : ℕ) → i < nodes q → entry_right p q π i ≡ true
  unfolding entry_right
  entries t v w x i l =
      let f = facts i (each_landed t v w x i l) in
      and_join _ _ (and_join _ _ (and_join _ _ (and_join _ _ (and_join _ _ (and_join _ _ (and_join _ _ (lt-ltb (π i) (nodes p) f.inside) (eq-eqb (kind_at q i) (kind_at p (π i)) f.kind_is))
      (eq-eqb (type_at q i) (type_at p (π i)) f.type_is)) (eq-eqb (word_at q i) (word_at p (π i)) f.word_is)) f.a_right) f.b_right) f.c_right) (last_right v w x i)
