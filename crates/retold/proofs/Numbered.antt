-- A program that is numbered children first in field order already holds its own tree's records as they are written.
-- Assumes nothing.
use mathlib.Core.Path.{◌≡◌, refl, sym, ap, subst, ◌∙◌}
use mathlib.Core.Bool.{false}
use mathlib.Core.List.{List, [], ◌∷◌, ◌++◌}
use Prim.Native.Nat.{ℕ, zero, suc, ◌+◌, ◌<◌}
use native.Mathlib.Nat.{not-suc-le-zero}
use native.Mathlib.Omega.{arith}
use lib.Dec.{eqb}
use lib.ListN.{length, length-append}
use borrow.Author.Tests.{eqb-true}
use Rattle.rules.specs.Bytes.{Bytes, byte_at, u16_at, u32_at, ◌and◌}
use Rattle.rules.specs.Values.{type_of, value_from, is_plain, maybe_of}
use Rattle.rules.specs.Layout.{nodes, record_at, kind_at, type_at, a_at, b_at, c_at, word_at}
use Rattle.rules.specs.Kinds.{row, is_signal, is_expression, is_branch, is_case, fields_of}
use Rattle.rules.specs.Format.{field_wrong, type_field_wrong, node_wrong}
use Rattle.rules.specs.Shaped.{NodeOf}
use Rattle.rules.specs.Accepted.{Formed}
use Rattle.rules.specs.Node.{IsNode}
use Rattle.rules.specs.Tree.{Expr, variable, constant, Signal, input, time, ext, delay, let_signal, switch, group, until, Branches, no_branch, branch, Cases, no_case, case, value_at, expr_at, signal_at, branches_at, cases_at}
use Rattle.rules.specs.declared.Field.{Field}
use Rattle.rules.specs.declared.Field.TheVariants.{Unused}
use Rattle.rules.specs.declared.Fields.{Fields}
use Rattle.rules.specs.declared.TypeField.{TypeField}
use Rattle.rules.specs.declared.TypeField.TheVariants.{NoType, AnyType, PlainType, ValueType}
use Rattle.rules.proofs.Static.{and_both}
use Rattle.rules.proofs.Kids.{Child, or_none, not_not}
use Rattle.rules.proofs.Recorded.{node_right}
use Rattle.rules.proofs.Nodes.{expr_variable, expr_constant, signal_input, signal_time}
use Rattle.rules.proofs.Expressions.{IsOperation, negation_kid, negation_tree, just_kid, just_tree, choice_kids, choice_tree, taking_kids, taking_tree, operation_kids, operation_tree}
use Rattle.rules.proofs.Signals.{ext_kid, ext_tree, delay_kid, delay_tree, let_kids, let_tree, switch_kids, switch_tree, group_kids, group_tree, until_kids, until_tree, branch_kid, branch_next, branch_end, branch_on, case_kid, case_next, case_end, case_on}
use Rattle.rules.proofs.ByKind.{ExpressionKind, is_variable, is_constant, is_negation, is_choice, is_just, is_taking, is_operation, expression_kind, SignalKind, is_input, is_time, is_ext, is_delay, is_let, is_switch, is_group, is_until, signal_kind, choose}
use Rattle.written.specs.Order.{order_e, order_s, order_b, order_c}
use Rattle.written.specs.Parts.{part, Slot, holds, child, size_p, size_k, last_p, field_k, row_p}
use Rattle.written.specs.Written.{present_of, word_of, part_e, part_s, slot_b, slot_c}
use Rattle.written.specs.Right.{HoldsP, HoldsK, Operates, EachE, EachS, EachB, EachC}
use Rattle.written.proofs.Parted.{operation_row, part_e_size, part_s_size, slot_b_size, slot_c_size}
use Rattle.written.proofs.Places.{Along, along_left, along_right, along_is, order_e_length, order_s_length, order_b_length, order_c_length}
use Rattle.texts.proofs.Laid as L
use Rattle.texts.proofs.Laid.{an_int, a_truth, a_falsehood, a_unit, unit_type, bool_type, int_type, plain_fits, some_fits, none_fits, HeadFits, value_head}
use Rattle.texts.proofs.HeadTests.{head_fits}

-- The value of a record has its fields.
value_fields : {t b w : ℕ} → L.Fits t b w → (type_of (value_from t b w) ≡ t) × (present_of (value_from t b w) ≡ b) × (word_of (value_from t b w) ≡ w)
unfolding type_of value_from present_of word_of is_plain maybe_of ◌and◌
value_fields (plain_fits (an_int l)) = (refl, refl, refl)
value_fields (plain_fits a_truth) = (refl, refl, refl)
value_fields (plain_fits a_falsehood) = (refl, refl, refl)
value_fields (plain_fits a_unit) = (refl, refl, refl)
value_fields (some_fits (an_int l)) = (refl, refl, refl)
value_fields (some_fits a_truth) = (refl, refl, refl)
value_fields (some_fits a_falsehood) = (refl, refl, refl)
value_fields (some_fits a_unit) = (refl, refl, refl)
value_fields (none_fits unit_type) = (refl, refl, refl)
value_fields (none_fits bool_type) = (refl, refl, refl)
value_fields (none_fits int_type) = (refl, refl, refl)

-- Numbers along a list are their places.
abbrev pub Counts : ℕ → List ℕ → Type 0
Counts lo xs = Along (λ i n. n ≡ i) lo xs

module _ (lo n : ℕ) (xs : List ℕ) (a : ℕ) (xa : length xs ≡ a) (h : Counts lo (xs ++ n ∷ [])) where
  one_first : Counts lo xs
  one_first = along_left (λ i n. n ≡ i) lo xs (n ∷ []) h

  one_last : n ≡ lo + a
  one_last = along_is (λ i n. n ≡ i) (lo + a) n (along_right (λ i n. n ≡ i) lo a xs (n ∷ []) xa h)

module _ (lo n : ℕ) (xs ys : List ℕ) (a b : ℕ) (xa : length xs ≡ a) (yb : length ys ≡ b) (h : Counts lo (xs ++ ys ++ n ∷ [])) where
  both_first : Counts lo (xs ++ ys)
  both_first = along_left (λ i n. n ≡ i) lo (xs ++ ys) (n ∷ []) h

  two_first : Counts lo xs
  two_first = along_left (λ i n. n ≡ i) lo xs ys both_first

  two_second : Counts (lo + a) ys
  two_second = along_right (λ i n. n ≡ i) lo a xs ys xa both_first

  two_last : n ≡ lo + (a + b)
  two_last = along_is (λ i n. n ≡ i) (lo + (a + b)) n (along_right (λ i n. n ≡ i) lo (a + b) (xs ++ ys) (n ∷ []) (length-append xs ys ∙ (λ j. xa j + yb j)) h)

module _ (lo n : ℕ) (xs ys zs : List ℕ) (a b c : ℕ) (xa : length xs ≡ a) (yb : length ys ≡ b) (zc : length zs ≡ c) (h : Counts lo (xs ++ ys ++ zs ++ n ∷ [])) where
  three_all : Counts lo (xs ++ ys ++ zs)
  three_all = along_left (λ i n. n ≡ i) lo (xs ++ ys ++ zs) (n ∷ []) h

  three_both : Counts lo (xs ++ ys)
  three_both = along_left (λ i n. n ≡ i) lo (xs ++ ys) zs three_all

  three_first : Counts lo xs
  three_first = along_left (λ i n. n ≡ i) lo xs ys three_both

  three_second : Counts (lo + a) ys
  three_second = along_right (λ i n. n ≡ i) lo a xs ys xa three_both

  three_third : Counts (lo + a + b) zs
  three_third =
      subst (λ (x : ℕ). Counts x zs) (let z : lo + (a + b) ≡ lo + a + b = omega arith in z)
      (along_right (λ i n. n ≡ i) lo (a + b) (xs ++ ys) zs (length-append xs ys ∙ (λ j. xa j + yb j)) three_all)

  three_last : n ≡ lo + (a + b + c)
  three_last =
      along_is (λ i n. n ≡ i) (lo + (a + b + c)) n
      (along_right (λ i n. n ≡ i) lo (a + b + c) (xs ++ ys ++ zs) (n ∷ [])
      (length-append (xs ++ ys) zs ∙ (λ j. length-append xs ys j + zc j) ∙ (λ j. xa j + yb j + c)) h)

module _ (p : Bytes) (f : Formed p) (small : (i : ℕ) → byte_at p i < 256) (φ : ℕ → ℕ) where
  abbrev Fixed : ℕ → Type 0
  Fixed b = φ b ≡ b

  -- What is shown of a node: its records stand from lo on, and its own is the last of them.
  abbrev HeldE : ℕ → Expr → Type 0
  HeldE n e = (lo : ℕ) → Counts lo (order_e e) → EachE Fixed e → HoldsP (part_e φ e) p lo × (last_p lo (part_e φ e) ≡ n)

  abbrev HeldS : ℕ → Signal → Type 0
  HeldS n s = (lo : ℕ) → Counts lo (order_s s) → EachS s Fixed → HoldsP (part_s s φ) p lo × (last_p lo (part_s s φ) ≡ n)

  abbrev HeldB : ℕ → Branches → Type 0
  HeldB n s = (lo : ℕ) → Counts lo (order_b s) → EachB s Fixed → HoldsK (slot_b s φ) p lo × (field_k lo (slot_b s φ) ≡ n)

  abbrev HeldC : ℕ → Cases → Type 0
  HeldC n s = (lo : ℕ) → Counts lo (order_c s) → EachC s Fixed → HoldsK (slot_c s φ) p lo × (field_k lo (slot_c s φ) ≡ n)

  long_e : (e : Expr) → length (order_e e) ≡ size_p (part_e φ e)
  long_e e = order_e_length e ∙ sym (part_e_size φ e)

  long_s : (s : Signal) → length (order_s s) ≡ size_p (part_s s φ)
  long_s s = order_s_length s ∙ sym (part_s_size s φ)

  long_b : (s : Branches) → length (order_b s) ≡ size_k (slot_b s φ)
  long_b s = order_b_length s ∙ sym (slot_b_size s φ)

  long_c : (s : Cases) → length (order_c s) ≡ size_k (slot_c s φ)
  long_c s = order_c_length s ∙ sym (slot_c_size s φ)

  -- A record, by its fields.
  own_node : (k t w : ℕ) (a b c : Slot) (lo n : ℕ) → n ≡ lo + (size_k a + size_k b + size_k c) → k ≡ kind_at p n → t ≡ type_at p n → w ≡ word_at p n
      → field_k lo a ≡ a_at p n → field_k (lo + size_k a) b ≡ b_at p n → field_k (lo + size_k a + size_k b) c ≡ c_at p n
      → IsNode p (lo + (size_k a + size_k b + size_k c)) (row_p lo (part k t w a b c)) × (last_p lo (part k t w a b c) ≡ n)
  unfolding row_p last_p
  own_node k t w a b c lo n z ek et ew ea eb ec = (
    subst (λ (m : ℕ). IsNode p m (row_p lo (part k t w a b c))) z (record { kind_is = ek; type_is = et; a_is = ea; b_is = eb; c_is = ec; word_is = ew }),
    sym z,
  )

  module _ (n : ℕ) (h : n < nodes p) where
    word_small : word_at p n < 4294967296
    unfolding word_at u32_at u16_at
    word_small = omega (arith, small (record_at n + 8), small (record_at n + 8 + 1), small (record_at n + 8 + 2), small (record_at n + 8 + 2 + 1))

    type_right : (k : ℕ) → kind_at p n ≡ k → type_field_wrong (fields_of k).ty (type_at p n) (b_at p n) (word_at p n) ≡ false
    unfolding node_wrong
    type_right k e = rw (← e) (or_none _ _ (or_none _ _ (or_none _ _ (or_none _ _ (node_right p f n h)).0).0).0).1

    a_right : (k : ℕ) → kind_at p n ≡ k → field_wrong (fields_of k).a (a_at p n) ≡ false
    unfolding node_wrong
    a_right k e = rw (← e) (or_none _ _ (or_none _ _ (or_none _ _ (node_right p f n h)).0).0).1

    b_right : (k : ℕ) → kind_at p n ≡ k → field_wrong (fields_of k).b (b_at p n) ≡ false
    unfolding node_wrong
    b_right k e = rw (← e) (or_none _ _ (or_none _ _ (node_right p f n h)).0).1

    c_right : (k : ℕ) → kind_at p n ≡ k → field_wrong (fields_of k).c (c_at p n) ≡ false
    unfolding node_wrong
    c_right k e = rw (← e) (or_none _ _ (node_right p f n h)).1

    zero_field : (g : Field) (x : ℕ) → g ≡ Unused → field_wrong g x ≡ false → 0 ≡ x
    unfolding field_wrong
    zero_field g x e w = sym (eqb-true x 0 (not_not _ (subst (λ (y : Field). field_wrong y x ≡ false) e w)))

    zero_a : (k : ℕ) → kind_at p n ≡ k → (fields_of k).a ≡ Unused → 0 ≡ a_at p n
    zero_a k e u = zero_field (fields_of k).a (a_at p n) u (a_right k e)

    zero_b : (k : ℕ) → kind_at p n ≡ k → (fields_of k).b ≡ Unused → 0 ≡ b_at p n
    zero_b k e u = zero_field (fields_of k).b (b_at p n) u (b_right k e)

    zero_c : (k : ℕ) → kind_at p n ≡ k → (fields_of k).c ≡ Unused → 0 ≡ c_at p n
    zero_c k e u = zero_field (fields_of k).c (c_at p n) u (c_right k e)

    no_type : (k : ℕ) → kind_at p n ≡ k → (fields_of k).ty ≡ NoType → (0 ≡ type_at p n) × (0 ≡ word_at p n)
    unfolding type_field_wrong
    no_type k e u =
        let x = and_both (eqb (type_at p n) 0) (eqb (word_at p n) 0) (not_not _ (rw u at (type_right k e))) in
        (sym (eqb-true _ 0 x.0), sym (eqb-true _ 0 x.1))

    any_word : (k : ℕ) → kind_at p n ≡ k → (fields_of k).ty ≡ AnyType → 0 ≡ word_at p n
    unfolding type_field_wrong
    any_word k e u = sym (eqb-true _ 0 (and_both _ (eqb (word_at p n) 0) (not_not _ (rw u at (type_right k e)))).1)

    plain_word_lem : (k : ℕ) → kind_at p n ≡ k → (fields_of k).ty ≡ PlainType → 0 ≡ word_at p n
    unfolding type_field_wrong
    plain_word_lem k e u = sym (eqb-true _ 0 (and_both _ (eqb (word_at p n) 0) (not_not _ (rw u at (type_right k e)))).1)

    of_value : {t b w : ℕ} → HeadFits ValueType t b w → L.Fits t b w
    of_value (value_head fits) = fits

    value_is : (k : ℕ) → kind_at p n ≡ k → (fields_of k).ty ≡ ValueType
        → (type_of (value_at p n) ≡ type_at p n) × (present_of (value_at p n) ≡ b_at p n) × (word_of (value_at p n) ≡ word_at p n)
    unfolding value_at
    value_is k e u =
        value_fields (of_value (head_fits ValueType (type_at p n) (b_at p n) (word_at p n)
        (subst (λ (y : TypeField). type_field_wrong y (type_at p n) (b_at p n) (word_at p n) ≡ false) u (type_right k e)) word_small))

  -- Expressions.
  module _ (n : ℕ) (ih : (m : ℕ) → m < n → NodeOf is_expression p m → HeldE m (expr_at p m)) where
    kid : {x : ℕ} → Child is_expression p n x → HeldE x (expr_at p x)
    kid {x} c = ih x c.less c.node

    variable_held : NodeOf is_expression p n → kind_at p n ≡ 16 → HeldE n (variable n (a_at p n) (type_at p (a_at p n)))
    unfolding order_e part_e size_p field_k fields_of row
    variable_held w e lo c b =
        let t = no_type n w.inside 16 e refl in
        let o = own_node 16 0 0 (holds (φ (a_at p n))) (holds 0) (holds 0) lo n (along_is (λ i n. n ≡ i) lo n c ∙ omega arith) (sym e) t.0 t.1
        b (zero_b n w.inside 16 e refl) (zero_c n w.inside 16 e refl) in
        ((tt, tt, tt, o.0), o.1)

    constant_held : NodeOf is_expression p n → kind_at p n ≡ 17 → HeldE n (constant n (value_at p n))
    unfolding order_e part_e size_p field_k fields_of row
    constant_held w e lo c b =
        let v = value_is n w.inside 17 e refl in
        let o = own_node 17 (type_of (value_at p n)) (word_of (value_at p n)) (holds 0) (holds (present_of (value_at p n))) (holds 0) lo n (along_is (λ i n. n ≡ i) lo n c ∙ omega arith) (sym e) v.0 v.2
        (zero_a n w.inside 17 e refl) v.1 (zero_c n w.inside 17 e refl) in
        ((tt, tt, tt, o.0), o.1)

    one_held : (k : ℕ) → NodeOf is_expression p n → kind_at p n ≡ k → (fields_of k).ty ≡ NoType → (fields_of k).b ≡ Unused → (fields_of k).c ≡ Unused → (x : Expr) → HeldE (a_at p n) x
        → (lo : ℕ) → Counts lo (order_e x ++ n ∷ []) → EachE Fixed x → HoldsP (part k 0 0 (child (part_e φ x)) (holds 0) (holds 0)) p lo × (last_p lo (part k 0 0 (child (part_e φ x)) (holds 0) (holds 0)) ≡ n)
    unfolding size_p field_k
    one_held k w e ty ub uc x hx lo c b =
        let a = hx lo (one_first lo n (order_e x) _ (long_e x) c) b in
        let t = no_type n w.inside k e ty in
        let o = own_node k 0 0 (child (part_e φ x)) (holds 0) (holds 0) lo n (one_last lo n (order_e x) _ (long_e x) c ∙ omega arith) (sym e) t.0 t.1
        a.1 (zero_b n w.inside k e ub) (zero_c n w.inside k e uc) in
        ((a.0, tt, tt, o.0), o.1)

    three_held : (k t : ℕ) → NodeOf is_expression p n → kind_at p n ≡ k → t ≡ type_at p n → 0 ≡ word_at p n → (x y z : Expr) → HeldE (a_at p n) x → HeldE (b_at p n) y → HeldE (c_at p n) z
        → (lo : ℕ) → Counts lo (order_e x ++ order_e y ++ order_e z ++ n ∷ []) → EachE Fixed x × EachE Fixed y × EachE Fixed z
        → HoldsP (part k t 0 (child (part_e φ x)) (child (part_e φ y)) (child (part_e φ z))) p lo × (last_p lo (part k t 0 (child (part_e φ x)) (child (part_e φ y)) (child (part_e φ z))) ≡ n)
    unfolding size_p field_k
    three_held k t w e et ew x y z hx hy hz lo c b =
        let a₁ = hx lo (three_first lo n (order_e x) (order_e y) (order_e z) _ _ _ (long_e x) (long_e y) (long_e z) c) b.0 in
        let a₂ = hy _ (three_second lo n (order_e x) (order_e y) (order_e z) _ _ _ (long_e x) (long_e y) (long_e z) c) b.1 in
        let a₃ = hz _ (three_third lo n (order_e x) (order_e y) (order_e z) _ _ _ (long_e x) (long_e y) (long_e z) c) b.2 in
        let o = own_node k t 0 (child (part_e φ x)) (child (part_e φ y)) (child (part_e φ z)) lo n (three_last lo n (order_e x) (order_e y) (order_e z) _ _ _ (long_e x) (long_e y) (long_e z) c) (sym e) et ew
        a₁.1 a₂.1 a₃.1 in
        ((a₁.0, a₂.0, a₃.0, o.0), o.1)

    operation_held : NodeOf is_expression p n → IsOperation (kind_at p n) → HeldE n (expr_at p n)
    unfolding order_e part_e size_p field_k row
    operation_held w o =
        let k = operation_kids p n w o in
        let u : Operates (kind_at p n) = record { expression = w.sorted; no16 = o.no16; no17 = o.no17; no24 = o.no24; no27 = o.no27; no28 = o.no28; no29 = o.no29 } in
        let r = operation_row (kind_at p n) u in
        subst (HeldE n) (sym (operation_tree p n w o)) (λ lo c b.
        let x = expr_at p (a_at p n) in
        let y = expr_at p (b_at p n) in
        let a₁ = kid k.0 lo (two_first lo n (order_e x) (order_e y) _ _ (long_e x) (long_e y) c) b.0 in
        let a₂ = kid k.1 _ (two_second lo n (order_e x) (order_e y) _ _ (long_e x) (long_e y) c) b.1 in
        let t = no_type n w.inside (kind_at p n) refl (ap (λ (z : Fields). z.ty) r) in
        let m = own_node (kind_at p n) 0 0 (child (part_e φ x)) (child (part_e φ y)) (holds 0) lo n (two_last lo n (order_e x) (order_e y) _ _ (long_e x) (long_e y) c ∙ omega arith) refl t.0 t.1
        a₁.1 a₂.1 (zero_c n w.inside (kind_at p n) refl (ap (λ (z : Fields). z.c) r)) in
        ((a₁.0, a₂.0, tt, m.0), m.1))

    expr_held_at : NodeOf is_expression p n → ExpressionKind (kind_at p n) → HeldE n (expr_at p n)
    unfolding fields_of row ◌and◌ order_e part_e
    expr_held_at w (is_variable e) = subst (HeldE n) (sym (expr_variable p n e)) (variable_held w e)
    expr_held_at w (is_constant e) = subst (HeldE n) (sym (expr_constant p n e)) (constant_held w e)
    expr_held_at w (is_negation e) = subst (HeldE n) (sym (negation_tree p n w e)) (one_held 24 w e refl refl refl (expr_at p (a_at p n)) (kid (negation_kid p n w e)))
    expr_held_at w (is_choice e) =
        let k = choice_kids p n w e in
        let t = no_type n w.inside 27 e refl in
        subst (HeldE n) (sym (choice_tree p n w e))
        (three_held 27 0 w e t.0 t.1 (expr_at p (a_at p n)) (expr_at p (b_at p n)) (expr_at p (c_at p n)) (kid k.0) (kid k.1) (kid k.2))
    expr_held_at w (is_just e) = subst (HeldE n) (sym (just_tree p n w e)) (one_held 28 w e refl refl refl (expr_at p (a_at p n)) (kid (just_kid p n w e)))
    expr_held_at w (is_taking e) =
        let k = taking_kids p n w e in
        subst (HeldE n) (sym (taking_tree p n w e))
        (three_held 29 (type_at p n) w e refl (plain_word_lem n w.inside 29 e refl) (expr_at p (a_at p n)) (expr_at p (b_at p n)) (expr_at p (c_at p n)) (kid k.0) (kid k.1) (kid k.2))
    expr_held_at w (is_operation o) = operation_held w o

  expr_held : (g n : ℕ) → n < g → NodeOf is_expression p n → HeldE n (expr_at p n)
  expr_held zero n h w = absurd (not-suc-le-zero h)
  expr_held (suc g) n h w = expr_held_at n (λ m l. expr_held g m (omega arith)) w (expression_kind (kind_at p n))

  -- Signals, branches and cases.
  record Held (n : ℕ) : Type 0 where
    signals : NodeOf is_signal p n → HeldS n (signal_at p n)
    branches : NodeOf is_branch p n → HeldB n (branches_at p n)
    cases : NodeOf is_case p n → HeldC n (cases_at p n)

  module _ (n : ℕ) (ih : (m : ℕ) → m < n → Held m) where
    expr : {x : ℕ} → Child is_expression p n x → HeldE x (expr_at p x)
    expr {x} c = expr_held (suc x) x (omega arith) c.node

    sub : {x : ℕ} → Child is_signal p n x → HeldS x (signal_at p x)
    sub {x} c = (ih x c.less).signals c.node

    brs : {x : ℕ} → Child is_branch p n x → HeldB x (branches_at p x)
    brs {x} c = (ih x c.less).branches c.node

    cs : {x : ℕ} → Child is_case p n x → HeldC x (cases_at p x)
    cs {x} c = (ih x c.less).cases c.node

    input_held : NodeOf is_signal p n → kind_at p n ≡ 1 → HeldS n (input n (a_at p n))
    unfolding order_s part_s size_p field_k fields_of row
    input_held w e lo c b =
        let t = no_type n w.inside 1 e refl in
        let o = own_node 1 0 0 (holds (a_at p n)) (holds 0) (holds 0) lo n (along_is (λ i n. n ≡ i) lo n c ∙ omega arith) (sym e) t.0 t.1
        refl (zero_b n w.inside 1 e refl) (zero_c n w.inside 1 e refl) in
        ((tt, tt, tt, o.0), o.1)

    time_held : NodeOf is_signal p n → kind_at p n ≡ 2 → HeldS n (time n)
    unfolding order_s part_s size_p field_k fields_of row ◌and◌
    time_held w e lo c b =
        let t = no_type n w.inside 2 e refl in
        let o = own_node 2 0 0 (holds 0) (holds 0) (holds 0) lo n (along_is (λ i n. n ≡ i) lo n c ∙ omega arith) (sym e) t.0 t.1
        (zero_a n w.inside 2 e refl) (zero_b n w.inside 2 e refl) (zero_c n w.inside 2 e refl) in
        ((tt, tt, tt, o.0), o.1)

    ext_held : NodeOf is_signal p n → kind_at p n ≡ 3 → (x : Expr) → HeldE (a_at p n) x → HeldS n (ext n x)
    unfolding order_s part_s size_p field_k fields_of row
    ext_held w e x hx lo c b =
        let a = hx lo (one_first lo n (order_e x) _ (long_e x) c) b in
        let t = no_type n w.inside 3 e refl in
        let o = own_node 3 0 0 (child (part_e φ x)) (holds 0) (holds 0) lo n (one_last lo n (order_e x) _ (long_e x) c ∙ omega arith) (sym e) t.0 t.1
        a.1 (zero_b n w.inside 3 e refl) (zero_c n w.inside 3 e refl) in
        ((a.0, tt, tt, o.0), o.1)

    delay_held : NodeOf is_signal p n → kind_at p n ≡ 4 → (k : ℕ) (x : Signal) → HeldS (a_at p n) x → HeldS n (delay n k (value_at p n) x)
    unfolding order_s part_s size_p field_k fields_of row
    delay_held w e k x hx lo c b =
        let a = hx lo (one_first lo n (order_s x) _ (long_s x) c) b in
        let v = value_is n w.inside 4 e refl in
        let o = own_node 4 (type_of (value_at p n)) (word_of (value_at p n)) (child (part_s x φ)) (holds (present_of (value_at p n))) (holds 0) lo n (one_last lo n (order_s x) _ (long_s x) c ∙ omega arith) (sym e) v.0 v.2
        a.1 v.1 (zero_c n w.inside 4 e refl) in
        ((a.0, tt, tt, o.0), o.1)

    let_held : NodeOf is_signal p n → kind_at p n ≡ 5 → (x y : Signal) → HeldS (a_at p n) x → HeldS (b_at p n) y → HeldS n (let_signal n (type_at p n) x y)
    unfolding order_s part_s size_p field_k fields_of row
    let_held w e x y hx hy lo c b =
        let a₁ = hx lo (two_first lo n (order_s x) (order_s y) _ _ (long_s x) (long_s y) c) b.0 in
        let a₂ = hy _ (two_second lo n (order_s x) (order_s y) _ _ (long_s x) (long_s y) c) b.1 in
        let o = own_node 5 (type_at p n) 0 (child (part_s x φ)) (child (part_s y φ)) (holds 0) lo n (two_last lo n (order_s x) (order_s y) _ _ (long_s x) (long_s y) c ∙ omega arith) (sym e) refl (any_word n w.inside 5 e refl)
        a₁.1 a₂.1 (zero_c n w.inside 5 e refl) in
        ((a₁.0, a₂.0, tt, o.0), o.1)

    switch_held : NodeOf is_signal p n → kind_at p n ≡ 6 → (k : ℕ) (x y z : Signal) → HeldS (a_at p n) x → HeldS (b_at p n) y → HeldS (c_at p n) z → HeldS n (switch n k (type_at p n) x y z)
    unfolding order_s part_s size_p field_k fields_of row
    switch_held w e k x y z hx hy hz lo c b =
        let a₁ = hx lo (three_first lo n (order_s x) (order_s y) (order_s z) _ _ _ (long_s x) (long_s y) (long_s z) c) b.0 in
        let a₂ = hy _ (three_second lo n (order_s x) (order_s y) (order_s z) _ _ _ (long_s x) (long_s y) (long_s z) c) b.1 in
        let a₃ = hz _ (three_third lo n (order_s x) (order_s y) (order_s z) _ _ _ (long_s x) (long_s y) (long_s z) c) b.2 in
        let o = own_node 6 (type_at p n) 0 (child (part_s x φ)) (child (part_s y φ)) (child (part_s z φ)) lo n (three_last lo n (order_s x) (order_s y) (order_s z) _ _ _ (long_s x) (long_s y) (long_s z) c) (sym e) refl (plain_word_lem n w.inside 6 e refl)
        a₁.1 a₂.1 a₃.1 in
        ((a₁.0, a₂.0, a₃.0, o.0), o.1)

    group_held : NodeOf is_signal p n → kind_at p n ≡ 7 → (k : ℕ) (x : Signal) (s : Branches) → HeldS (a_at p n) x → HeldB (b_at p n) s → HeldS n (group n k x s)
    unfolding order_s part_s size_p field_k fields_of row
    group_held w e k x s hx hs lo c b =
        let a₁ = hx lo (two_first lo n (order_s x) (order_b s) _ _ (long_s x) (long_b s) c) b.0 in
        let a₂ = hs _ (two_second lo n (order_s x) (order_b s) _ _ (long_s x) (long_b s) c) b.1 in
        let t = no_type n w.inside 7 e refl in
        let o = own_node 7 0 0 (child (part_s x φ)) (slot_b s φ) (holds 0) lo n (two_last lo n (order_s x) (order_b s) _ _ (long_s x) (long_b s) c ∙ omega arith) (sym e) t.0 t.1
        a₁.1 a₂.1 (zero_c n w.inside 7 e refl) in
        ((a₁.0, a₂.0, tt, o.0), o.1)

    until_held : NodeOf is_signal p n → kind_at p n ≡ 8 → (x : Signal) (s : Cases) → HeldS (a_at p n) x → HeldC (b_at p n) s → HeldS n (until n x s)
    unfolding order_s part_s size_p field_k fields_of row
    until_held w e x s hx hs lo c b =
        let a₁ = hx lo (two_first lo n (order_s x) (order_c s) _ _ (long_s x) (long_c s) c) b.0 in
        let a₂ = hs _ (two_second lo n (order_s x) (order_c s) _ _ (long_s x) (long_c s) c) b.1 in
        let t = no_type n w.inside 8 e refl in
        let o = own_node 8 0 0 (child (part_s x φ)) (slot_c s φ) (holds 0) lo n (two_last lo n (order_s x) (order_c s) _ _ (long_s x) (long_c s) c ∙ omega arith) (sym e) t.0 t.1
        a₁.1 a₂.1 (zero_c n w.inside 8 e refl) in
        ((a₁.0, a₂.0, tt, o.0), o.1)

    branch_held : NodeOf is_branch p n → kind_at p n ≡ 9 → (x : Signal) (s : Branches) → HeldS (a_at p n) x → HeldB (b_at p n) s → HeldB n (branch n (type_at p n) x s)
    unfolding order_s part_s size_p field_k fields_of row
    branch_held w e x s hx hs lo c b =
        let a₁ = hx lo (two_first lo n (order_s x) (order_b s) _ _ (long_s x) (long_b s) c) b.0 in
        let a₂ = hs _ (two_second lo n (order_s x) (order_b s) _ _ (long_s x) (long_b s) c) b.1 in
        let o = own_node 9 (type_at p n) 0 (child (part_s x φ)) (slot_b s φ) (holds 0) lo n (two_last lo n (order_s x) (order_b s) _ _ (long_s x) (long_b s) c ∙ omega arith) (sym e) refl (plain_word_lem n w.inside 9 e refl)
        a₁.1 a₂.1 (zero_c n w.inside 9 e refl) in
        ((a₁.0, a₂.0, tt, o.0), o.1)

    case_held : NodeOf is_case p n → kind_at p n ≡ 10 → (t : ℕ) (x : Signal) (s : Cases) → HeldS (a_at p n) x → HeldC (b_at p n) s → HeldC n (case n x (c_at p n) t s)
    unfolding order_s part_s size_p field_k fields_of row
    case_held w e t₀ x s hx hs lo c b =
        let a₁ = hx lo (two_first lo n (order_s x) (order_c s) _ _ (long_s x) (long_c s) c) b.1 in
        let a₂ = hs _ (two_second lo n (order_s x) (order_c s) _ _ (long_s x) (long_c s) c) b.2 in
        let t = no_type n w.inside 10 e refl in
        let o = own_node 10 0 0 (child (part_s x φ)) (slot_c s φ) (holds (φ (c_at p n))) lo n (two_last lo n (order_s x) (order_c s) _ _ (long_s x) (long_c s) c ∙ omega arith) (sym e) t.0 t.1
        a₁.1 a₂.1 b.0 in
        ((a₁.0, a₂.0, tt, o.0), o.1)

    no_branches : (m : ℕ) → m ≡ 65535 → HeldB m no_branch
    unfolding part_s field_k
    no_branches m e lo c b = (tt, sym e)

    no_cases : (m : ℕ) → m ≡ 65535 → HeldC m no_case
    unfolding part_s field_k
    no_cases m e lo c b = (tt, sym e)

    signal_held_at : NodeOf is_signal p n → SignalKind (kind_at p n) → HeldS n (signal_at p n)
    signal_held_at w (is_input e) = subst (HeldS n) (sym (signal_input p n e)) (input_held w e)
    signal_held_at w (is_time e) = subst (HeldS n) (sym (signal_time p n e)) (time_held w e)
    signal_held_at w (is_ext e) = subst (HeldS n) (sym (ext_tree p n w e)) (ext_held w e _ (expr (ext_kid p n w e)))
    signal_held_at w (is_delay e) = subst (HeldS n) (sym (delay_tree p n w e)) (delay_held w e _ _ (sub (delay_kid p n w e)))
    signal_held_at w (is_let e) = let k = let_kids p n w e in subst (HeldS n) (sym (let_tree p n w e)) (let_held w e _ _ (sub k.0) (sub k.1))
    signal_held_at w (is_switch e) =
        let k = switch_kids p n w e in subst (HeldS n) (sym (switch_tree p n w e)) (switch_held w e _ _ _ _ (sub k.0) (sub k.1) (sub k.2))
    signal_held_at w (is_group e) = let k = group_kids p n w e in subst (HeldS n) (sym (group_tree p n w e)) (group_held w e _ _ _ (sub k.0) (brs k.1))
    signal_held_at w (is_until e) = let k = until_kids p n w e in subst (HeldS n) (sym (until_tree p n w e)) (until_held w e _ _ (sub k.0) (cs k.1))

    branch_held_at : NodeOf is_branch p n → HeldB n (branches_at p n)
    unfolding is_branch
    branch_held_at w =
        let e : kind_at p n ≡ 9 = eqb-true _ _ w.sorted in
        let x = sub (branch_kid p n w) in
        choose (b_at p n) 65535
        (λ z. subst (HeldB n) (sym (branch_end p n w z)) (branch_held w e _ no_branch x (no_branches (b_at p n) z)))
        (λ d. subst (HeldB n) (sym (branch_on p n w d)) (branch_held w e _ _ x (brs (branch_next p n w d))))

    case_held_at : NodeOf is_case p n → HeldC n (cases_at p n)
    unfolding is_case
    case_held_at w =
        let e : kind_at p n ≡ 10 = eqb-true _ _ w.sorted in
        let x = sub (case_kid p n w) in
        choose (b_at p n) 65535
        (λ z. subst (HeldC n) (sym (case_end p n w z)) (case_held w e _ _ no_case x (no_cases (b_at p n) z)))
        (λ d. subst (HeldC n) (sym (case_on p n w d)) (case_held w e _ _ _ x (cs (case_next p n w d))))

  all_held : (g n : ℕ) → n < g → Held n
  all_held zero n h = absurd (not-suc-le-zero h)
  all_held (suc g) n h =
      let ih : (m : ℕ) → m < n → Held m = λ m l. all_held g m (omega arith) in
      record {
        signals = λ w. signal_held_at n ih w (signal_kind (kind_at p n) w.sorted);
        branches = branch_held_at n ih;
        cases = case_held_at n ih;
      }

  pub signal_held : (n : ℕ) → NodeOf is_signal p n → HeldS n (signal_at p n)
  signal_held n w = (all_held (suc n) n (omega arith)).signals w
