-- The tree without regard to kinds at a node of an accepted program has the records of the program's tree at that node.
-- Assumes nothing.
use mathlib.Core.Path.{◌≡◌, refl, sym, ap, ◌∙◌, subst}
use mathlib.Core.Bool.{Bool, true, false}
use Prim.Native.Nat.{ℕ, zero, suc, ◌≤◌, ◌<◌}
use native.Mathlib.Nat.{not-suc-le-zero}
use native.Mathlib.Omega.{arith}
use lib.Dec.{eqb}
use borrow.Author.Tests.{eqb-true, ne_eqb, leb-true}
use Rattle.rules.specs.Bytes.{Bytes, ◌and◌}
use Rattle.rules.specs.Layout.{kind_at, type_at, a_at, b_at, c_at, word_at}
use Rattle.rules.specs.Kinds.{row, is_signal, is_expression, is_branch, is_case, fields_of}
use Rattle.rules.specs.Shape.{is_child}
use Rattle.rules.specs.Shaped.{NodeOf}
use Rattle.rules.specs.Accepted.{Formed}
use Rattle.rules.specs.Tree.{Expr, operation, Signal, Branches, Cases, value_at, expr_at, signal_at, branches_at, cases_at}
use Rattle.rules.specs.declared.Field.{Field}
use Rattle.rules.specs.declared.Field.TheVariants.{Unused, Channel, PresentByte, Expression, FirstBranch, NextBranch, FirstCase, NextCase, Binder, Target}
use Rattle.rules.specs.declared.Fields.{Fields}
use Rattle.rules.proofs.Static.{and_both}
use Rattle.rules.proofs.Kids.{Child}
use Rattle.rules.proofs.Recorded.{delay_value, constant_value}
use Rattle.rules.proofs.Nodes.{expr_variable, expr_constant, signal_input, signal_time}
use Rattle.rules.proofs.Expressions.{IsOperation, negation_kid, negation_tree, just_kid, just_tree, choice_kids, choice_tree, taking_kids, taking_tree, operation_kids, operation_tree}
use Rattle.rules.proofs.Signals.{ext_kid, ext_tree, delay_kid, delay_tree, let_kids, let_tree, switch_kids, switch_tree, group_kids, group_tree, until_kids, until_tree, branch_kid, branch_next, branch_end, branch_on, case_kid, case_next, case_end, case_on}
use Rattle.rules.proofs.ByKind.{ExpressionKind, is_variable, is_constant, is_negation, is_choice, is_just, is_taking, is_operation, expression_kind, SignalKind, is_input, is_time, is_ext, is_delay, is_let, is_switch, is_group, is_until, signal_kind, choose}
use Rattle.written.specs.Parts.{part, Slot}
use Rattle.written.specs.Written.{part_e, part_s, slot_b, slot_c}
use Rattle.written.specs.Right.{Operates}
use Rattle.written.proofs.Parted.{operation_row}
use Rattle.written.proofs.FromTable.{value_type}
use Rattle.tidy.specs.Twig.{Twig, twig, Limb, holds, child, plain_in, type_in, word_in, limb_of, twig_as, twig_at}
use Rattle.tidy.proofs.TwigLaws.{twig_law, limb_child, limb_plain, limb_none}
use Rattle.tidy.proofs.Pruned.{slot_by, part_t, slot_l}
use Rattle.tidy.proofs.Bridged.{present_word}

-- A tree, or a field, has such records.
pub record Plain (t : Twig) (S : (ℕ → ℕ) → Slot) : Type 0 where
  pub slot : (φ : ℕ → ℕ) → Slot.child (part_t t φ) ≡ S φ

record PlainL (l : Limb) (S : (ℕ → ℕ) → Bool → Slot) : Type 0 where
  slot : (φ : ℕ → ℕ) (name : Bool) → slot_l l φ name ≡ S φ name

plain_as : {t : Twig} {S S' : (ℕ → ℕ) → Slot} → ((φ : ℕ → ℕ) → S φ ≡ S' φ) → Plain t S → Plain t S'
plain_as g s = record { slot = λ φ. s.slot φ ∙ g φ }

held_plain : (x : ℕ) → PlainL (holds x) (λ φ name. slot_by name φ x)
unfolding part_t
held_plain x = record { slot = λ φ name. refl }

child_plain : (x : ℕ) (t : Twig) {S : (ℕ → ℕ) → Slot} → Plain t S → PlainL (child x t) (λ φ name. S φ)
unfolding part_t
child_plain x t s = record { slot = λ φ name. s.slot φ }

-- By a field of the table: a child, a plain field, and none.
kid_plain : (p : Bytes) (n : ℕ) (f : Field) (x : ℕ) {S : (ℕ → ℕ) → Slot} → is_child f ≡ true → x < n → Plain (twig_at p x) S → PlainL (limb_of n f x (twig_at p)) (λ φ name. S φ)
kid_plain p n f x e h s = rw (limb_child n f x (twig_at p) e h) (child_plain x (twig_at p x) s)

field_plain : (p : Bytes) (n : ℕ) (f : Field) (x : ℕ) → is_child f ≡ false → PlainL (limb_of n f x (twig_at p)) (λ φ name. slot_by name φ (plain_in f x))
field_plain p n f x e = rw (limb_plain n f x (twig_at p) e) (held_plain (plain_in f x))

none_plain : (p : Bytes) (n : ℕ) (f : Field) (x : ℕ) → n ≤ x → PlainL (limb_of n f x (twig_at p)) (λ φ name. slot_by name φ (plain_in f x))
none_plain p n f x h = rw (limb_none n f x (twig_at p) h) (held_plain (plain_in f x))

node_plain : (n k t w : ℕ) (a b c : Limb) {Sa Sb Sc : (ℕ → ℕ) → Bool → Slot} → PlainL a Sa → PlainL b Sb → PlainL c Sc
    → Plain (twig n k t w a b c) (λ φ. Slot.child (part k t w (Sa φ (eqb k 16)) (Sb φ false) (Sc φ (eqb k 10))))
unfolding part_t
node_plain n k t w a b c la lb lc = record { slot = λ φ i. Slot.child (part k t w (la.slot φ (eqb k 16) i) (lb.slot φ false i) (lc.slot φ (eqb k 10) i)) }

-- The record of a node, by the fields of its kind.
unfoldable twig_by : Fields → ℕ → Bytes → ℕ → Twig
twig_by f k p n =
    twig n k (type_in f.ty (type_at p n)) (word_in f.ty (word_at p n)) (limb_of n f.a (a_at p n) (twig_at p)) (limb_of n f.b (b_at p n) (twig_at p)) (limb_of n f.c (c_at p n) (twig_at p))

module _ (p : Bytes) (n : ℕ) where
  kind_twig : (k : ℕ) → kind_at p n ≡ k → twig_at p n ≡ twig_by (fields_of k) k p n
  unfolding twig_by twig_as
  kind_twig k e = twig_law p n ∙ ap (λ (j : ℕ). twig_by (fields_of j) j p n) e

  at_kind : {S : (ℕ → ℕ) → Slot} (k : ℕ) → kind_at p n ≡ k → Plain (twig_by (fields_of k) k p n) S → Plain (twig_at p n) S
  at_kind {S} k e s = subst (λ (t : Twig). Plain t S) (sym (kind_twig k e)) s

  unused : (x : ℕ) → PlainL (limb_of n Unused x (twig_at p)) (λ φ name. slot_by name φ 0)
  unfolding is_child plain_in
  unused x = field_plain p n Unused x refl

abbrev PlainE : Bytes → ℕ → Expr → Type 0
PlainE p n e = Plain (twig_at p n) (λ φ. Slot.child (part_e φ e))

abbrev PlainS : Bytes → ℕ → Signal → Type 0
PlainS p n s = Plain (twig_at p n) (λ φ. Slot.child (part_s s φ))

abbrev PlainB : Bytes → ℕ → Branches → Type 0
PlainB p n s = Plain (twig_at p n) (λ φ. slot_b s φ)

abbrev PlainC : Bytes → ℕ → Cases → Type 0
PlainC p n s = Plain (twig_at p n) (λ φ. slot_c s φ)

module _ (p : Bytes) (f : Formed p) where
  module _ (n : ℕ) (ih : (m : ℕ) → m < n → NodeOf is_expression p m → PlainE p m (expr_at p m)) where
    kid : {x : ℕ} → Child is_expression p n x → PlainL (limb_of n Expression x (twig_at p)) (λ φ name. Slot.child (part_e φ (expr_at p x)))
    unfolding is_child
    kid {x} c = kid_plain p n Expression x refl c.less (ih x c.less c.node)

    -- An operation.
    operation_at : NodeOf is_expression p n → IsOperation (kind_at p n) → PlainE p n (expr_at p n)
    unfolding row twig_by type_in word_in part_e slot_by is_expression
    operation_at w o =
        let k : ℕ = kind_at p n in
        let c = operation_kids p n w o in
        let u : Operates k = record { expression = w.sorted; no16 = o.no16; no17 = o.no17; no24 = o.no24; no27 = o.no27; no28 = o.no28; no29 = o.no29 } in
        let l = leb-true 16 k (and_both _ _ w.sorted).0 in
        let X : Expr = expr_at p (a_at p n) in
        let Y : Expr = expr_at p (b_at p n) in
        subst (PlainE p n) (sym (operation_tree p n w o))
        (subst (λ (t : Twig). Plain t (λ φ. Slot.child (part_e φ (operation n k X Y))))
        (sym (kind_twig p n k refl ∙ ap (λ (g : Fields). twig_by g k p n) (operation_row k u)))
        (plain_as (λ φ. ap (λ (b : Bool). Slot.child (part k 0 0 (Slot.child (part_e φ X)) (Slot.child (part_e φ Y)) (slot_by b φ 0))) (ne_eqb k 10 (λ z. omega arith)))
        (node_plain n k 0 0 (limb_of n Expression (a_at p n) (twig_at p)) (limb_of n Expression (b_at p n) (twig_at p)) (limb_of n Unused (c_at p n) (twig_at p)) (kid c.0) (kid c.1) (unused p n (c_at p n)))))

    expr_at_lem : NodeOf is_expression p n → ExpressionKind (kind_at p n) → PlainE p n (expr_at p n)
    unfolding fields_of row ◌and◌ twig_by type_in word_in part_e slot_by plain_in is_child value_at
    expr_at_lem w (is_variable e) = subst (PlainE p n) (sym (expr_variable p n e)) (at_kind p n 16 e (plain_as (λ φ. refl) (node_plain n 16 0 0 (limb_of n Binder (a_at p n) (twig_at p)) (limb_of n Unused (b_at p n) (twig_at p)) (limb_of n Unused (c_at p n) (twig_at p)) (field_plain p n Binder (a_at p n) refl) (unused p n (b_at p n)) (unused p n (c_at p n)))))
    expr_at_lem w (is_constant e) =
        let v = constant_value p f n w.inside e in
        let pw = present_word (type_at p n) (b_at p n) (word_at p n) v.1 in
        subst (PlainE p n) (sym (expr_constant p n e)) (at_kind p n 17 e (plain_as (λ φ i. Slot.child (part 17 (value_type (type_at p n) (b_at p n) (word_at p n) i) (pw.1 i) (Slot.holds 0) (Slot.holds (pw.0 i)) (Slot.holds 0))) (node_plain n 17 (type_at p n) (word_at p n) (limb_of n Unused (a_at p n) (twig_at p)) (limb_of n PresentByte (b_at p n) (twig_at p)) (limb_of n Unused (c_at p n) (twig_at p)) (unused p n (a_at p n)) (field_plain p n PresentByte (b_at p n) refl) (unused p n (c_at p n)))))
    expr_at_lem w (is_negation e) = subst (PlainE p n) (sym (negation_tree p n w e)) (at_kind p n 24 e (plain_as (λ φ. refl) (node_plain n 24 0 0 (limb_of n Expression (a_at p n) (twig_at p)) (limb_of n Unused (b_at p n) (twig_at p)) (limb_of n Unused (c_at p n) (twig_at p)) (kid (negation_kid p n w e)) (unused p n (b_at p n)) (unused p n (c_at p n)))))
    expr_at_lem w (is_choice e) =
        let k = choice_kids p n w e in
        subst (PlainE p n) (sym (choice_tree p n w e)) (at_kind p n 27 e (plain_as (λ φ. refl) (node_plain n 27 0 0 (limb_of n Expression (a_at p n) (twig_at p)) (limb_of n Expression (b_at p n) (twig_at p)) (limb_of n Expression (c_at p n) (twig_at p)) (kid k.0) (kid k.1) (kid k.2))))
    expr_at_lem w (is_taking e) =
        let k = taking_kids p n w e in
        subst (PlainE p n) (sym (taking_tree p n w e)) (at_kind p n 29 e (plain_as (λ φ. refl) (node_plain n 29 (type_at p n) 0 (limb_of n Expression (a_at p n) (twig_at p)) (limb_of n Expression (b_at p n) (twig_at p)) (limb_of n Expression (c_at p n) (twig_at p)) (kid k.0) (kid k.1) (kid k.2))))
    expr_at_lem w (is_just e) = subst (PlainE p n) (sym (just_tree p n w e)) (at_kind p n 28 e (plain_as (λ φ. refl) (node_plain n 28 0 0 (limb_of n Expression (a_at p n) (twig_at p)) (limb_of n Unused (b_at p n) (twig_at p)) (limb_of n Unused (c_at p n) (twig_at p)) (kid (just_kid p n w e)) (unused p n (b_at p n)) (unused p n (c_at p n)))))
    expr_at_lem w (is_operation o) = operation_at w o

  expr_plain : (g n : ℕ) → n < g → NodeOf is_expression p n → PlainE p n (expr_at p n)
  expr_plain zero n h w = absurd (not-suc-le-zero h)
  expr_plain (suc g) n h w = expr_at_lem n (λ m l. expr_plain g m (omega arith)) w (expression_kind (kind_at p n))

  record Plains (n : ℕ) : Type 0 where
    signals : NodeOf is_signal p n → PlainS p n (signal_at p n)
    branches : NodeOf is_branch p n → PlainB p n (branches_at p n)
    cases : NodeOf is_case p n → PlainC p n (cases_at p n)

  module _ (n : ℕ) (ih : (m : ℕ) → m < n → Plains m) where
    expr : {x : ℕ} → Child is_expression p n x → PlainL (limb_of n Expression x (twig_at p)) (λ φ name. Slot.child (part_e φ (expr_at p x)))
    unfolding is_child
    expr {x} c = kid_plain p n Expression x refl c.less (expr_plain (suc x) x (omega arith) c.node)

    sub : {x : ℕ} → Child is_signal p n x → PlainL (limb_of n Field.Signal x (twig_at p)) (λ φ name. Slot.child (part_s (signal_at p x) φ))
    unfolding is_child
    sub {x} c = kid_plain p n Field.Signal x refl c.less ((ih x c.less).signals c.node)

    brs : (g : Field) {x : ℕ} → is_child g ≡ true → Child is_branch p n x → PlainL (limb_of n g x (twig_at p)) (λ φ name. slot_b (branches_at p x) φ)
    brs g {x} e c = kid_plain p n g x e c.less ((ih x c.less).branches c.node)

    cs : (g : Field) {x : ℕ} → is_child g ≡ true → Child is_case p n x → PlainL (limb_of n g x (twig_at p)) (λ φ name. slot_c (cases_at p x) φ)
    cs g {x} e c = kid_plain p n g x e c.less ((ih x c.less).cases c.node)

    signal_at_lem : NodeOf is_signal p n → SignalKind (kind_at p n) → PlainS p n (signal_at p n)
    unfolding fields_of row ◌and◌ twig_by type_in word_in part_s slot_by plain_in is_child value_at
    signal_at_lem w (is_input e) = subst (PlainS p n) (sym (signal_input p n e)) (at_kind p n 1 e (plain_as (λ φ. refl) (node_plain n 1 0 0 (limb_of n Channel (a_at p n) (twig_at p)) (limb_of n Unused (b_at p n) (twig_at p)) (limb_of n Unused (c_at p n) (twig_at p)) (field_plain p n Channel (a_at p n) refl) (unused p n (b_at p n)) (unused p n (c_at p n)))))
    signal_at_lem w (is_time e) = subst (PlainS p n) (sym (signal_time p n e)) (at_kind p n 2 e (plain_as (λ φ. refl) (node_plain n 2 0 0 (limb_of n Unused (a_at p n) (twig_at p)) (limb_of n Unused (b_at p n) (twig_at p)) (limb_of n Unused (c_at p n) (twig_at p)) (unused p n (a_at p n)) (unused p n (b_at p n)) (unused p n (c_at p n)))))
    signal_at_lem w (is_ext e) = subst (PlainS p n) (sym (ext_tree p n w e)) (at_kind p n 3 e (plain_as (λ φ. refl) (node_plain n 3 0 0 (limb_of n Expression (a_at p n) (twig_at p)) (limb_of n Unused (b_at p n) (twig_at p)) (limb_of n Unused (c_at p n) (twig_at p)) (expr (ext_kid p n w e)) (unused p n (b_at p n)) (unused p n (c_at p n)))))
    signal_at_lem w (is_delay e) =
        let v = delay_value p f n w.inside e in
        let pw = present_word (type_at p n) (b_at p n) (word_at p n) v.1 in
        subst (PlainS p n) (sym (delay_tree p n w e)) (at_kind p n 4 e (plain_as (λ φ i. Slot.child (part 4 (value_type (type_at p n) (b_at p n) (word_at p n) i) (pw.1 i) (Slot.child (part_s (signal_at p (a_at p n)) φ)) (Slot.holds (pw.0 i)) (Slot.holds 0))) (node_plain n 4 (type_at p n) (word_at p n) (limb_of n Field.Signal (a_at p n) (twig_at p)) (limb_of n PresentByte (b_at p n) (twig_at p)) (limb_of n Unused (c_at p n) (twig_at p)) (sub (delay_kid p n w e)) (field_plain p n PresentByte (b_at p n) refl) (unused p n (c_at p n)))))
    signal_at_lem w (is_let e) =
        let k = let_kids p n w e in
        subst (PlainS p n) (sym (let_tree p n w e)) (at_kind p n 5 e (plain_as (λ φ. refl) (node_plain n 5 (type_at p n) 0 (limb_of n Field.Signal (a_at p n) (twig_at p)) (limb_of n Field.Signal (b_at p n) (twig_at p)) (limb_of n Unused (c_at p n) (twig_at p)) (sub k.0) (sub k.1) (unused p n (c_at p n)))))
    signal_at_lem w (is_switch e) =
        let k = switch_kids p n w e in
        subst (PlainS p n) (sym (switch_tree p n w e)) (at_kind p n 6 e (plain_as (λ φ. refl) (node_plain n 6 (type_at p n) 0 (limb_of n Field.Signal (a_at p n) (twig_at p)) (limb_of n Field.Signal (b_at p n) (twig_at p)) (limb_of n Field.Signal (c_at p n) (twig_at p)) (sub k.0) (sub k.1) (sub k.2))))
    signal_at_lem w (is_group e) =
        let k = group_kids p n w e in
        subst (PlainS p n) (sym (group_tree p n w e)) (at_kind p n 7 e (plain_as (λ φ. refl) (node_plain n 7 0 0 (limb_of n Field.Signal (a_at p n) (twig_at p)) (limb_of n FirstBranch (b_at p n) (twig_at p)) (limb_of n Unused (c_at p n) (twig_at p)) (sub k.0) (brs FirstBranch refl k.1) (unused p n (c_at p n)))))
    signal_at_lem w (is_until e) =
        let k = until_kids p n w e in
        subst (PlainS p n) (sym (until_tree p n w e)) (at_kind p n 8 e (plain_as (λ φ. refl) (node_plain n 8 0 0 (limb_of n Field.Signal (a_at p n) (twig_at p)) (limb_of n FirstCase (b_at p n) (twig_at p)) (limb_of n Unused (c_at p n) (twig_at p)) (sub k.0) (cs FirstCase refl k.1) (unused p n (c_at p n)))))

    branch_at : NodeOf is_branch p n → PlainB p n (branches_at p n)
    unfolding fields_of row twig_by type_in word_in part_s slot_by plain_in is_child is_branch
    branch_at w =
        let e : kind_at p n ≡ 9 = eqb-true _ _ w.sorted in
        let x = branch_kid p n w in
        choose (b_at p n) 65535
        (λ z. subst (PlainB p n) (sym (branch_end p n w z)) (at_kind p n 9 e (plain_as (λ φ. ap (λ (m : ℕ). Slot.child (part 9 (type_at p n) 0 (Slot.child (part_s (signal_at p (a_at p n)) φ)) (Slot.holds m) (Slot.holds 0))) z) (node_plain n 9 (type_at p n) 0 (limb_of n Field.Signal (a_at p n) (twig_at p)) (limb_of n NextBranch (b_at p n) (twig_at p)) (limb_of n Unused (c_at p n) (twig_at p)) (sub x) (none_plain p n NextBranch (b_at p n) (omega (arith, w.inside, w.shaped.small, z))) (unused p n (c_at p n))))))
        (λ d. subst (PlainB p n) (sym (branch_on p n w d)) (at_kind p n 9 e (plain_as (λ φ. refl) (node_plain n 9 (type_at p n) 0 (limb_of n Field.Signal (a_at p n) (twig_at p)) (limb_of n NextBranch (b_at p n) (twig_at p)) (limb_of n Unused (c_at p n) (twig_at p)) (sub x) (brs NextBranch refl (branch_next p n w d)) (unused p n (c_at p n))))))

    case_at : NodeOf is_case p n → PlainC p n (cases_at p n)
    unfolding fields_of row twig_by type_in word_in part_s slot_by plain_in is_child is_case
    case_at w =
        let e : kind_at p n ≡ 10 = eqb-true _ _ w.sorted in
        let x = case_kid p n w in
        choose (b_at p n) 65535
        (λ z. subst (PlainC p n) (sym (case_end p n w z)) (at_kind p n 10 e (plain_as (λ φ. ap (λ (m : ℕ). Slot.child (part 10 0 0 (Slot.child (part_s (signal_at p (a_at p n)) φ)) (Slot.holds m) (Slot.holds (φ (c_at p n))))) z) (node_plain n 10 0 0 (limb_of n Field.Signal (a_at p n) (twig_at p)) (limb_of n NextCase (b_at p n) (twig_at p)) (limb_of n Target (c_at p n) (twig_at p)) (sub x) (none_plain p n NextCase (b_at p n) (omega (arith, w.inside, w.shaped.small, z))) (field_plain p n Target (c_at p n) refl)))))
        (λ d. subst (PlainC p n) (sym (case_on p n w d)) (at_kind p n 10 e (plain_as (λ φ. refl) (node_plain n 10 0 0 (limb_of n Field.Signal (a_at p n) (twig_at p)) (limb_of n NextCase (b_at p n) (twig_at p)) (limb_of n Target (c_at p n) (twig_at p)) (sub x) (cs NextCase refl (case_next p n w d)) (field_plain p n Target (c_at p n) refl)))))

  plains : (g n : ℕ) → n < g → Plains n
  plains zero n h = absurd (not-suc-le-zero h)
  plains (suc g) n h =
      let ih : (m : ℕ) → m < n → Plains m = λ m l. plains g m (omega arith) in
      record {
        signals = λ w. signal_at_lem n ih w (signal_kind (kind_at p n) w.sorted);
        branches = branch_at n ih;
        cases = case_at n ih;
      }

  pub signal_plain : (n : ℕ) → NodeOf is_signal p n → PlainS p n (signal_at p n)
  signal_plain n w = (plains (suc n) n (omega arith)).signals w
