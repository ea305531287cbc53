-- The tree without regard to kinds at a node of an accepted program is, tidied, the program's tree at that node, tidied.
-- Assumes nothing.
use Rattle.std.specs.Prelude.{if◌then◌else◌}
use mathlib.Core.Path.{◌≡◌, refl, sym, ap, ◌∙◌, subst}
use mathlib.Core.List.{List, [], ◌∷◌, ◌++◌}
use mathlib.Core.Bool.{Bool, true, false, not}
use Prim.Native.Nat.{ℕ, zero, suc, ◌≤◌, ◌<◌}
use native.Mathlib.Nat.{not-suc-le-zero}
use native.Mathlib.Omega.{arith}
use lib.Dec.{eqb}
use borrow.Author.Tests.{eqb-true, ne_eqb, leb-true}
use Rattle.rules.specs.Bytes.{Bytes, ◌and◌, ◌or◌}
use Rattle.rules.specs.Values.{is_plain, is_maybe, is_type, type_of, value_from, value_fits}
use Rattle.rules.specs.Layout.{nodes, kind_at, type_at, a_at, b_at, c_at, word_at, no_next}
use Rattle.rules.specs.Kinds.{row, is_signal, is_expression, is_branch, is_case, fields_of}
use Rattle.rules.specs.Shape.{is_child}
use Rattle.rules.specs.Shaped.{Shaped, NodeOf}
use Rattle.rules.specs.Accepted.{Formed}
use Rattle.rules.specs.Tree.{Expr, variable, constant, operation, negation, choice, just, taking, Signal, input, time, ext, delay, let_signal, switch, group, until, Branches, no_branch, branch, Cases, no_case, case, value_at, expr_at, signal_at, branches_at, cases_at}
use Rattle.rules.specs.declared.Field.{Field}
use Rattle.rules.specs.declared.Field.TheVariants.{Unused, Channel, PresentByte, Expression, FirstBranch, NextBranch, FirstCase, NextCase, Binder, Target}
use Rattle.rules.specs.declared.Fields.{Fields}
use Rattle.rules.specs.declared.Value.{Value}
use Rattle.rules.proofs.Static.{and_both, not_both}
use Rattle.rules.proofs.Kids.{Child, or_none, not_not}
use Rattle.rules.proofs.Recorded.{delay_value, constant_value}
use Rattle.rules.proofs.Nodes.{expr_variable, expr_constant, signal_input, signal_time}
use Rattle.rules.proofs.Expressions.{IsOperation, negation_kid, negation_tree, just_kid, just_tree, choice_kids, choice_tree, taking_kids, taking_tree, operation_kids, operation_tree}
use Rattle.rules.proofs.Signals.{ext_kid, ext_tree, delay_kid, delay_tree, let_kids, let_tree, switch_kids, switch_tree, group_kids, group_tree, until_kids, until_tree, branch_kid, branch_next, branch_end, branch_on, case_kid, case_next, case_end, case_on}
use Rattle.rules.proofs.ByKind.{ExpressionKind, is_variable, is_constant, is_negation, is_choice, is_just, is_taking, is_operation, expression_kind, SignalKind, is_input, is_time, is_ext, is_delay, is_let, is_switch, is_group, is_until, signal_kind, choose}
use Rattle.written.specs.Parts.{Part, part, Slot}
use Rattle.written.specs.Order.{order_e, order_s, order_b, order_c}
use Rattle.written.specs.Written.{present_of, word_of, part_e, part_s, slot_b, slot_c}
use Rattle.written.specs.Right.{Operates}
use Rattle.written.proofs.ListLaws.{app_assoc}
use Rattle.written.proofs.Parted.{operation_row}
use Rattle.written.proofs.FromTable.{disjoint, present_is, not_maybe, not_absent, value_type}
use Rattle.dropped.specs.Uses.{uses_e, uses_s, uses_b, uses_c}
use Rattle.dropped.specs.Tidy.{let_over, tidy_s, tidy_b, tidy_c}
use Rattle.tidy.specs.Twig.{Twig, twig, Limb, holds, child, held_in, plain_in, type_in, word_in, limb_of, twig_as, twig_at}
use Rattle.tidy.proofs.TwigLaws.{twig_law, limb_child}
use Rattle.tidy.proofs.Pruned.{slot_by}
use Rattle.tidy.proofs.Alike.{Same, SameL, same_as, kid_same, plain_same, none_same, node_same, variable_same, let_same, gone_same}

-- Uses and orders of one, two and three parts.
or_one : (a : Bool) → (a or false or false) ≡ a
unfolding ◌or◌
or_one true = refl
or_one false = refl

or_two : (a b : Bool) → (a or b or false) ≡ (a or b)
unfolding ◌or◌
or_two true true = refl
or_two true false = refl
or_two false true = refl
or_two false false = refl

order_two : (a b : List ℕ) (n : ℕ) → a ++ (b ++ n ∷ []) ≡ a ++ b ++ n ∷ []
order_two a b n = sym (app_assoc a b (n ∷ []))

order_three : (a b c : List ℕ) (n : ℕ) → a ++ (b ++ (c ++ n ∷ [])) ≡ a ++ b ++ c ++ n ∷ []
order_three a b c n = sym (app_assoc a b (c ++ n ∷ [])) ∙ sym (app_assoc (a ++ b) c (n ∷ []))

-- A value of right format is its type, present byte and word.
or_first : (a b : Bool) → (a or b) ≡ true → b ≡ false → a ≡ true
unfolding ◌or◌
or_first true b e f = refl
or_first false b e f = absurd (not_both (sym f ∙ e))

word_absent : (t b w : ℕ) → value_fits t b w ≡ true → eqb b 0 ≡ true → w ≡ 0
unfolding value_fits
word_absent t b w e h =
    let z : b ≡ 0 = eqb-true b 0 h in
    eqb-true w 0 (or_first (eqb w 0) (eqb b 1) (and_both _ _ (and_both _ _ (and_both _ _ e).0).0).1 (ne_eqb b 1 (λ y. omega arith)))

module _ (t b w : ℕ) (e : value_fits t b w ≡ true) where
  abbrev formed : Bool → Bool → Value
  formed x y = if x then Value.Plain t w else if y then Value.Absent t else Value.Present t w

  by_form : (x : Bool) → is_plain t ≡ x → (y : Bool) → eqb b 0 ≡ y → (b ≡ present_of (formed x y)) × (w ≡ word_of (formed x y))
  unfolding present_of word_of
  by_form true h y k = (eqb-true b 1 (not_maybe (eqb b 1) (eqb b 0) (is_maybe t) (present_is t b w e) (disjoint t h)), refl)
  by_form false h true k = (eqb-true b 0 k, word_absent t b w e k)
  by_form false h false k = (eqb-true b 1 (not_absent (eqb b 1) (eqb b 0) (is_maybe t) (present_is t b w e) k), refl)

  pub present_word : (b ≡ present_of (value_from t b w)) × (w ≡ word_of (value_from t b w))
  unfolding value_from
  present_word = by_form (is_plain t) refl (eqb b 0) refl

-- The record of a node, by the fields of its kind.
unfoldable twig_by : Fields → ℕ → Bytes → ℕ → Twig
twig_by f k p n =
    twig n k (type_in f.ty (type_at p n)) (word_in f.ty (word_at p n)) (limb_of n f.a (a_at p n) (twig_at p)) (limb_of n f.b (b_at p n) (twig_at p)) (limb_of n f.c (c_at p n) (twig_at p))

module _ (p : Bytes) (n : ℕ) where
  kind_twig : (k : ℕ) → kind_at p n ≡ k → twig_at p n ≡ twig_by (fields_of k) k p n
  unfolding twig_by twig_as
  kind_twig k e = twig_law p n ∙ ap (λ (j : ℕ). twig_by (fields_of j) j p n) e

  at_kind : {U : ℕ → Bool} {O : List ℕ} {S : (ℕ → ℕ) → Slot} {W : List ℕ} (k : ℕ) → kind_at p n ≡ k → Same (twig_by (fields_of k) k p n) U O S W → Same (twig_at p n) U O S W
  at_kind {U} {O} {S} {W} k e s = subst (λ (t : Twig). Same t U O S W) (sym (kind_twig k e)) s

  unused : (x : ℕ) → SameL (limb_of n Unused x (twig_at p)) (λ y. false) [] (λ φ name. slot_by name φ 0) []
  unfolding is_child plain_in
  unused x = plain_same p n Unused x refl

abbrev SameE : Bytes → ℕ → Expr → Type 0
SameE p n e = Same (twig_at p n) (λ x. uses_e x e) (order_e e) (λ φ. Slot.child (part_e φ e)) (order_e e)

abbrev SameS : Bytes → ℕ → Signal → Type 0
SameS p n s = Same (twig_at p n) (λ x. uses_s x (tidy_s s)) (order_s (tidy_s s)) (λ φ. Slot.child (part_s (tidy_s s) φ)) (order_s s)

abbrev SameB : Bytes → ℕ → Branches → Type 0
SameB p n s = Same (twig_at p n) (λ x. uses_b x (tidy_b s)) (order_b (tidy_b s)) (λ φ. slot_b (tidy_b s) φ) (order_b s)

abbrev SameC : Bytes → ℕ → Cases → Type 0
SameC p n s = Same (twig_at p n) (λ x. uses_c x (tidy_c s)) (order_c (tidy_c s)) (λ φ. slot_c (tidy_c s) φ) (order_c s)

module _ (p : Bytes) (f : Formed p) where
  module _ (n : ℕ) (ih : (m : ℕ) → m < n → NodeOf is_expression p m → SameE p m (expr_at p m)) where
    kid : {x : ℕ} → Child is_expression p n x
        → SameL (limb_of n Expression x (twig_at p)) (λ y. uses_e y (expr_at p x)) (order_e (expr_at p x)) (λ φ name. Slot.child (part_e φ (expr_at p x))) (order_e (expr_at p x))
    unfolding is_child
    kid {x} c = kid_same p n Expression x refl c.less (ih x c.less c.node)

    -- An operation.
    operation_at : NodeOf is_expression p n → IsOperation (kind_at p n) → SameE p n (expr_at p n)
    unfolding row twig_by type_in word_in uses_e order_e part_e slot_by is_expression
    operation_at w o =
        let k : ℕ = kind_at p n in
        let c = operation_kids p n w o in
        let u : Operates k = record { expression = w.sorted; no16 = o.no16; no17 = o.no17; no24 = o.no24; no27 = o.no27; no28 = o.no28; no29 = o.no29 } in
        let l = leb-true 16 k (and_both _ _ w.sorted).0 in
        let X : Expr = expr_at p (a_at p n) in
        let Y : Expr = expr_at p (b_at p n) in
        subst (SameE p n) (sym (operation_tree p n w o))
        (subst (λ (t : Twig). Same t (λ x. uses_e x (operation n k X Y)) (order_e (operation n k X Y)) (λ φ. Slot.child (part_e φ (operation n k X Y))) (order_e (operation n k X Y)))
        (sym (kind_twig p n k refl ∙ ap (λ (g : Fields). twig_by g k p n) (operation_row k u)))
        (same_as (λ x. or_two _ _) (order_two (order_e X) (order_e Y) n)
        (λ φ. ap (λ (b : Bool). Slot.child (part k 0 0 (Slot.child (part_e φ X)) (Slot.child (part_e φ Y)) (slot_by b φ 0))) (ne_eqb k 10 (λ z. omega arith))) (order_two (order_e X) (order_e Y) n)
        (node_same n k 0 0 (limb_of n Expression (a_at p n) (twig_at p)) (limb_of n Expression (b_at p n) (twig_at p)) (limb_of n Unused (c_at p n) (twig_at p))
        (kid c.0) (kid c.1) (unused p n (c_at p n)) (ne_eqb k 16 o.no16) (ne_eqb k 5 (λ z. omega arith)))))

    expr_at_lem : NodeOf is_expression p n → ExpressionKind (kind_at p n) → SameE p n (expr_at p n)
    unfolding fields_of row ◌and◌ twig_by type_in word_in uses_e order_e part_e slot_by plain_in is_child limb_of held_in ◌or◌ value_at
    expr_at_lem w (is_variable e) =
        subst (SameE p n) (sym (expr_variable p n e))
        (at_kind p n 16 e (same_as (λ x. refl) refl (λ φ. refl) refl
        (variable_same n 16 0 0 (limb_of n Binder (a_at p n) (twig_at p)) (limb_of n Unused (b_at p n) (twig_at p)) (limb_of n Unused (c_at p n) (twig_at p))
        (plain_same p n Binder (a_at p n) refl) (unused p n (b_at p n)) (unused p n (c_at p n)) refl refl)))
    expr_at_lem w (is_constant e) =
        let v = constant_value p f n w.inside e in
        let pw = present_word (type_at p n) (b_at p n) (word_at p n) v.1 in
        subst (SameE p n) (sym (expr_constant p n e))
        (at_kind p n 17 e (same_as (λ x. refl) refl
        (λ φ i. Slot.child (part 17 (value_type (type_at p n) (b_at p n) (word_at p n) i) (pw.1 i) (Slot.holds 0) (Slot.holds (pw.0 i)) (Slot.holds 0))) refl
        (node_same n 17 (type_at p n) (word_at p n) (limb_of n Unused (a_at p n) (twig_at p)) (limb_of n PresentByte (b_at p n) (twig_at p)) (limb_of n Unused (c_at p n) (twig_at p))
        (unused p n (a_at p n)) (plain_same p n PresentByte (b_at p n) refl) (unused p n (c_at p n)) refl refl)))
    expr_at_lem w (is_negation e) =
        subst (SameE p n) (sym (negation_tree p n w e))
        (at_kind p n 24 e (same_as (λ x. or_one _) refl (λ φ. refl) refl
        (node_same n 24 0 0 (limb_of n Expression (a_at p n) (twig_at p)) (limb_of n Unused (b_at p n) (twig_at p)) (limb_of n Unused (c_at p n) (twig_at p))
        (kid (negation_kid p n w e)) (unused p n (b_at p n)) (unused p n (c_at p n)) refl refl)))
    expr_at_lem w (is_choice e) =
        let k = choice_kids p n w e in
        subst (SameE p n) (sym (choice_tree p n w e))
        (at_kind p n 27 e (same_as (λ x. refl) (order_three (order_e (expr_at p (a_at p n))) (order_e (expr_at p (b_at p n))) (order_e (expr_at p (c_at p n))) n) (λ φ. refl) (order_three (order_e (expr_at p (a_at p n))) (order_e (expr_at p (b_at p n))) (order_e (expr_at p (c_at p n))) n)
        (node_same n 27 0 0 (limb_of n Expression (a_at p n) (twig_at p)) (limb_of n Expression (b_at p n) (twig_at p)) (limb_of n Expression (c_at p n) (twig_at p))
        (kid k.0) (kid k.1) (kid k.2) refl refl)))
    expr_at_lem w (is_just e) =
        subst (SameE p n) (sym (just_tree p n w e))
        (at_kind p n 28 e (same_as (λ x. or_one _) refl (λ φ. refl) refl
        (node_same n 28 0 0 (limb_of n Expression (a_at p n) (twig_at p)) (limb_of n Unused (b_at p n) (twig_at p)) (limb_of n Unused (c_at p n) (twig_at p))
        (kid (just_kid p n w e)) (unused p n (b_at p n)) (unused p n (c_at p n)) refl refl)))
    expr_at_lem w (is_taking e) =
        let k = taking_kids p n w e in
        subst (SameE p n) (sym (taking_tree p n w e))
        (at_kind p n 29 e (same_as (λ x. refl) (order_three (order_e (expr_at p (a_at p n))) (order_e (expr_at p (b_at p n))) (order_e (expr_at p (c_at p n))) n) (λ φ. refl) (order_three (order_e (expr_at p (a_at p n))) (order_e (expr_at p (b_at p n))) (order_e (expr_at p (c_at p n))) n)
        (node_same n 29 (type_at p n) 0 (limb_of n Expression (a_at p n) (twig_at p)) (limb_of n Expression (b_at p n) (twig_at p)) (limb_of n Expression (c_at p n) (twig_at p))
        (kid k.0) (kid k.1) (kid k.2) refl refl)))
    expr_at_lem w (is_operation o) = operation_at w o

  expr_same : (g n : ℕ) → n < g → NodeOf is_expression p n → SameE p n (expr_at p n)
  expr_same zero n h w = absurd (not-suc-le-zero h)
  expr_same (suc g) n h w = expr_at_lem n (λ m l. expr_same g m (omega arith)) w (expression_kind (kind_at p n))

  record Sames (n : ℕ) : Type 0 where
    signals : NodeOf is_signal p n → SameS p n (signal_at p n)
    branches : NodeOf is_branch p n → SameB p n (branches_at p n)
    cases : NodeOf is_case p n → SameC p n (cases_at p n)

  module _ (n : ℕ) (ih : (m : ℕ) → m < n → Sames m) where
    expr : {x : ℕ} → Child is_expression p n x
        → SameL (limb_of n Expression x (twig_at p)) (λ y. uses_e y (expr_at p x)) (order_e (expr_at p x)) (λ φ name. Slot.child (part_e φ (expr_at p x))) (order_e (expr_at p x))
    unfolding is_child
    expr {x} c = kid_same p n Expression x refl c.less (expr_same (suc x) x (omega arith) c.node)

    sub : {x : ℕ} → Child is_signal p n x
        → SameL (limb_of n Field.Signal x (twig_at p)) (λ y. uses_s y (tidy_s (signal_at p x))) (order_s (tidy_s (signal_at p x))) (λ φ name. Slot.child (part_s (tidy_s (signal_at p x)) φ)) (order_s (signal_at p x))
    unfolding is_child
    sub {x} c = kid_same p n Field.Signal x refl c.less ((ih x c.less).signals c.node)

    brs : (g : Field) {x : ℕ} → is_child g ≡ true → Child is_branch p n x
        → SameL (limb_of n g x (twig_at p)) (λ y. uses_b y (tidy_b (branches_at p x))) (order_b (tidy_b (branches_at p x))) (λ φ name. slot_b (tidy_b (branches_at p x)) φ) (order_b (branches_at p x))
    brs g {x} e c = kid_same p n g x e c.less ((ih x c.less).branches c.node)

    cs : (g : Field) {x : ℕ} → is_child g ≡ true → Child is_case p n x
        → SameL (limb_of n g x (twig_at p)) (λ y. uses_c y (tidy_c (cases_at p x))) (order_c (tidy_c (cases_at p x))) (λ φ name. slot_c (tidy_c (cases_at p x)) φ) (order_c (cases_at p x))
    cs g {x} e c = kid_same p n g x e c.less ((ih x c.less).cases c.node)

    -- A let: kept where its tidied body uses it, or else its tidied body.
    module _ (w : NodeOf is_signal p n) (e : kind_at p n ≡ 5) where
      abbrev X : Signal
      X = signal_at p (a_at p n)

      abbrev Y : Signal
      Y = signal_at p (b_at p n)

      abbrev over : Bool → Signal
      over b = if b then let_signal n (type_at p n) (tidy_s X) (tidy_s Y) else tidy_s Y

      by_use : (b : Bool) → uses_s n (tidy_s Y) ≡ b
          → Same (twig_by (fields_of 5) 5 p n) (λ x. uses_s x (over b)) (order_s (over b)) (λ φ. Slot.child (part_s (over b) φ)) (order_s X ++ order_s Y ++ n ∷ [])
      unfolding fields_of row twig_by type_in word_in uses_s order_s part_s slot_by is_child
      by_use true y =
          let k = let_kids p n w e in
          same_as (λ x. or_two _ _) (order_two (order_s (tidy_s X)) (order_s (tidy_s Y)) n) (λ φ. refl) (order_two (order_s X) (order_s Y) n)
          (let_same n 5 (type_at p n) 0 (limb_of n Field.Signal (a_at p n) (twig_at p)) (limb_of n Field.Signal (b_at p n) (twig_at p)) (limb_of n Unused (c_at p n) (twig_at p))
          (sub k.0) (sub k.1) (unused p n (c_at p n)) refl refl y)
      by_use false y =
          let k = let_kids p n w e in
          subst (λ (l : Limb). Same (twig n 5 (type_at p n) 0 (limb_of n Field.Signal (a_at p n) (twig_at p)) l (limb_of n Unused (c_at p n) (twig_at p)))
          (λ x. uses_s x (tidy_s Y)) (order_s (tidy_s Y)) (λ φ. Slot.child (part_s (tidy_s Y) φ)) (order_s X ++ order_s Y ++ n ∷ []))
          (sym (limb_child n Field.Signal (b_at p n) (twig_at p) refl k.1.less))
          (same_as (λ x. refl) refl (λ φ. refl) (order_two (order_s X) (order_s Y) n)
          (gone_same n 5 (type_at p n) 0 (b_at p n) (limb_of n Field.Signal (a_at p n) (twig_at p)) (limb_of n Unused (c_at p n) (twig_at p)) (twig_at p (b_at p n))
          (sub k.0) ((ih (b_at p n) k.1.less).signals k.1.node) (unused p n (c_at p n)) refl y))

      let_at : SameS p n (signal_at p n)
      unfolding tidy_s let_over order_s
      let_at = subst (SameS p n) (sym (let_tree p n w e)) (at_kind p n 5 e (by_use (uses_s n (tidy_s Y)) refl))

    signal_at_lem : NodeOf is_signal p n → SignalKind (kind_at p n) → SameS p n (signal_at p n)
    unfolding fields_of row ◌and◌ twig_by type_in word_in tidy_s uses_s order_s part_s slot_by plain_in is_child ◌or◌ value_at
    signal_at_lem w (is_input e) =
        subst (SameS p n) (sym (signal_input p n e))
        (at_kind p n 1 e (same_as (λ x. refl) refl (λ φ. refl) refl
        (node_same n 1 0 0 (limb_of n Channel (a_at p n) (twig_at p)) (limb_of n Unused (b_at p n) (twig_at p)) (limb_of n Unused (c_at p n) (twig_at p))
        (plain_same p n Channel (a_at p n) refl) (unused p n (b_at p n)) (unused p n (c_at p n)) refl refl)))
    signal_at_lem w (is_time e) =
        subst (SameS p n) (sym (signal_time p n e))
        (at_kind p n 2 e (same_as (λ x. refl) refl (λ φ. refl) refl
        (node_same n 2 0 0 (limb_of n Unused (a_at p n) (twig_at p)) (limb_of n Unused (b_at p n) (twig_at p)) (limb_of n Unused (c_at p n) (twig_at p))
        (unused p n (a_at p n)) (unused p n (b_at p n)) (unused p n (c_at p n)) refl refl)))
    signal_at_lem w (is_ext e) =
        subst (SameS p n) (sym (ext_tree p n w e))
        (at_kind p n 3 e (same_as (λ x. or_one _) refl (λ φ. refl) refl
        (node_same n 3 0 0 (limb_of n Expression (a_at p n) (twig_at p)) (limb_of n Unused (b_at p n) (twig_at p)) (limb_of n Unused (c_at p n) (twig_at p))
        (expr (ext_kid p n w e)) (unused p n (b_at p n)) (unused p n (c_at p n)) refl refl)))
    signal_at_lem w (is_delay e) =
        let v = delay_value p f n w.inside e in
        let pw = present_word (type_at p n) (b_at p n) (word_at p n) v.1 in
        subst (SameS p n) (sym (delay_tree p n w e))
        (at_kind p n 4 e (same_as (λ x. or_one _) refl
        (λ φ i. Slot.child (part 4 (value_type (type_at p n) (b_at p n) (word_at p n) i) (pw.1 i) (Slot.child (part_s (tidy_s (signal_at p (a_at p n))) φ)) (Slot.holds (pw.0 i)) (Slot.holds 0))) refl
        (node_same n 4 (type_at p n) (word_at p n) (limb_of n Field.Signal (a_at p n) (twig_at p)) (limb_of n PresentByte (b_at p n) (twig_at p)) (limb_of n Unused (c_at p n) (twig_at p))
        (sub (delay_kid p n w e)) (plain_same p n PresentByte (b_at p n) refl) (unused p n (c_at p n)) refl refl)))
    signal_at_lem w (is_let e) = let_at w e
    signal_at_lem w (is_switch e) =
        let k = switch_kids p n w e in
        subst (SameS p n) (sym (switch_tree p n w e))
        (at_kind p n 6 e (same_as (λ x. refl) (order_three (order_s (tidy_s (signal_at p (a_at p n)))) (order_s (tidy_s (signal_at p (b_at p n)))) (order_s (tidy_s (signal_at p (c_at p n)))) n) (λ φ. refl) (order_three (order_s (signal_at p (a_at p n))) (order_s (signal_at p (b_at p n))) (order_s (signal_at p (c_at p n))) n)
        (node_same n 6 (type_at p n) 0 (limb_of n Field.Signal (a_at p n) (twig_at p)) (limb_of n Field.Signal (b_at p n) (twig_at p)) (limb_of n Field.Signal (c_at p n) (twig_at p))
        (sub k.0) (sub k.1) (sub k.2) refl refl)))
    signal_at_lem w (is_group e) =
        let k = group_kids p n w e in
        subst (SameS p n) (sym (group_tree p n w e))
        (at_kind p n 7 e (same_as (λ x. or_two (uses_s x (tidy_s (signal_at p (a_at p n)))) (uses_b x (tidy_b (branches_at p (b_at p n))))) (order_two (order_s (tidy_s (signal_at p (a_at p n)))) (order_b (tidy_b (branches_at p (b_at p n)))) n) (λ φ. refl) (order_two (order_s (signal_at p (a_at p n))) (order_b (branches_at p (b_at p n))) n)
        (node_same n 7 0 0 (limb_of n Field.Signal (a_at p n) (twig_at p)) (limb_of n FirstBranch (b_at p n) (twig_at p)) (limb_of n Unused (c_at p n) (twig_at p))
        (sub k.0) (brs FirstBranch refl k.1) (unused p n (c_at p n)) refl refl)))
    signal_at_lem w (is_until e) =
        let k = until_kids p n w e in
        subst (SameS p n) (sym (until_tree p n w e))
        (at_kind p n 8 e (same_as (λ x. or_two (uses_s x (tidy_s (signal_at p (a_at p n)))) (uses_c x (tidy_c (cases_at p (b_at p n))))) (order_two (order_s (tidy_s (signal_at p (a_at p n)))) (order_c (tidy_c (cases_at p (b_at p n)))) n) (λ φ. refl) (order_two (order_s (signal_at p (a_at p n))) (order_c (cases_at p (b_at p n))) n)
        (node_same n 8 0 0 (limb_of n Field.Signal (a_at p n) (twig_at p)) (limb_of n FirstCase (b_at p n) (twig_at p)) (limb_of n Unused (c_at p n) (twig_at p))
        (sub k.0) (cs FirstCase refl k.1) (unused p n (c_at p n)) refl refl)))

    branch_at : NodeOf is_branch p n → SameB p n (branches_at p n)
    unfolding fields_of row twig_by type_in word_in tidy_s uses_s order_s part_s slot_by plain_in is_child is_branch ◌or◌
    branch_at w =
        let e : kind_at p n ≡ 9 = eqb-true _ _ w.sorted in
        let x = branch_kid p n w in
        choose (b_at p n) 65535
        (λ z. subst (SameB p n) (sym (branch_end p n w z))
        (at_kind p n 9 e (same_as (λ y. or_two (uses_s y (tidy_s (signal_at p (a_at p n)))) false) (order_two (order_s (tidy_s (signal_at p (a_at p n)))) [] n) (λ φ. ap (λ (m : ℕ). Slot.child (part 9 (type_at p n) 0 (Slot.child (part_s (tidy_s (signal_at p (a_at p n))) φ)) (Slot.holds m) (Slot.holds 0))) z) (order_two (order_s (signal_at p (a_at p n))) [] n)
        (node_same n 9 (type_at p n) 0 (limb_of n Field.Signal (a_at p n) (twig_at p)) (limb_of n NextBranch (b_at p n) (twig_at p)) (limb_of n Unused (c_at p n) (twig_at p))
        (sub x) (none_same p n NextBranch (b_at p n) (omega (arith, w.inside, w.shaped.small, z))) (unused p n (c_at p n)) refl refl))))
        (λ d. subst (SameB p n) (sym (branch_on p n w d))
        (at_kind p n 9 e (same_as (λ y. or_two (uses_s y (tidy_s (signal_at p (a_at p n)))) (uses_b y (tidy_b (branches_at p (b_at p n))))) (order_two (order_s (tidy_s (signal_at p (a_at p n)))) (order_b (tidy_b (branches_at p (b_at p n)))) n) (λ φ. refl) (order_two (order_s (signal_at p (a_at p n))) (order_b (branches_at p (b_at p n))) n)
        (node_same n 9 (type_at p n) 0 (limb_of n Field.Signal (a_at p n) (twig_at p)) (limb_of n NextBranch (b_at p n) (twig_at p)) (limb_of n Unused (c_at p n) (twig_at p))
        (sub x) (brs NextBranch refl (branch_next p n w d)) (unused p n (c_at p n)) refl refl))))

    case_at : NodeOf is_case p n → SameC p n (cases_at p n)
    unfolding fields_of row twig_by type_in word_in tidy_s uses_s order_s part_s slot_by plain_in is_child is_case ◌or◌
    case_at w =
        let e : kind_at p n ≡ 10 = eqb-true _ _ w.sorted in
        let x = case_kid p n w in
        choose (b_at p n) 65535
        (λ z. subst (SameC p n) (sym (case_end p n w z))
        (at_kind p n 10 e (same_as (λ y. or_two (uses_s y (tidy_s (signal_at p (a_at p n)))) false) (order_two (order_s (tidy_s (signal_at p (a_at p n)))) [] n) (λ φ. ap (λ (m : ℕ). Slot.child (part 10 0 0 (Slot.child (part_s (tidy_s (signal_at p (a_at p n))) φ)) (Slot.holds m) (Slot.holds (φ (c_at p n))))) z) (order_two (order_s (signal_at p (a_at p n))) [] n)
        (node_same n 10 0 0 (limb_of n Field.Signal (a_at p n) (twig_at p)) (limb_of n NextCase (b_at p n) (twig_at p)) (limb_of n Target (c_at p n) (twig_at p))
        (sub x) (none_same p n NextCase (b_at p n) (omega (arith, w.inside, w.shaped.small, z))) (plain_same p n Target (c_at p n) refl) refl refl))))
        (λ d. subst (SameC p n) (sym (case_on p n w d))
        (at_kind p n 10 e (same_as (λ y. or_two (uses_s y (tidy_s (signal_at p (a_at p n)))) (uses_c y (tidy_c (cases_at p (b_at p n))))) (order_two (order_s (tidy_s (signal_at p (a_at p n)))) (order_c (tidy_c (cases_at p (b_at p n)))) n) (λ φ. refl) (order_two (order_s (signal_at p (a_at p n))) (order_c (cases_at p (b_at p n))) n)
        (node_same n 10 0 0 (limb_of n Field.Signal (a_at p n) (twig_at p)) (limb_of n NextCase (b_at p n) (twig_at p)) (limb_of n Target (c_at p n) (twig_at p))
        (sub x) (cs NextCase refl (case_next p n w d)) (plain_same p n Target (c_at p n) refl) refl refl))))

  sames : (g n : ℕ) → n < g → Sames n
  sames zero n h = absurd (not-suc-le-zero h)
  sames (suc g) n h =
      let ih : (m : ℕ) → m < n → Sames m = λ m l. sames g m (omega arith) in
      record {
        signals = λ w. signal_at_lem n ih w (signal_kind (kind_at p n) w.sorted);
        branches = branch_at n ih;
        cases = case_at n ih;
      }

  pub signal_same : (n : ℕ) → NodeOf is_signal p n → SameS p n (signal_at p n)
  signal_same n w = (sames (suc n) n (omega arith)).signals w
