-- The tree of a program of right format and shape: its records are right, and each node, variable and case carries the table's type.
-- Assumes nothing.
use Rattle.std.specs.Prelude.{if◌then◌else◌}
use mathlib.Core.Path.{◌≡◌, refl, sym, ap, ◌∙◌, subst}
use mathlib.Core.Bool.{Bool, true, false, not}
use Prim.Native.Nat.{ℕ, zero, suc, ◌+◌, ◌-◌, ◌*◌, ◌≤◌, ◌<◌}
use native.Mathlib.Nat.{not-suc-le-zero}
use native.Mathlib.Omega.{arith}
use lib.Dec.{eqb, leb}
use borrow.Author.Tests.{eqb-true, eqb-false, eq-eqb, ne_eqb, leb-true, lt-leb}
use Rattle.rules.specs.Bytes.{Bytes, byte_at, u16_at, u32_at, first, ◌and◌, ◌or◌}
use Rattle.rules.specs.Values.{is_type, is_plain, is_maybe, type_of, value_from, value_fits, unit_t, bool_t, maybe_of}
use Rattle.rules.specs.Layout.{nodes, record_at, kind_at, type_at, a_at, b_at, c_at, word_at}
use Rattle.rules.specs.Format.{type_field_wrong, node_wrong}
use Rattle.rules.specs.Kinds.{row, is_signal, is_expression, is_branch, is_case, fields_of}
use Rattle.rules.specs.Shaped.{Shaped, NodeOf}
use Rattle.rules.specs.Accepted.{Formed}
use Rattle.rules.specs.Tree.{Expr, Signal, Branches, Cases, branch, case, value_at, expr_at, signal_at, branches_at, cases_at}
use Rattle.rules.specs.declared.Value.{Value}
use Rattle.rules.specs.declared.Fields.{Fields}
use Rattle.rules.specs.declared.TypeField.TheVariants.{NoType, AnyType, PlainType, ValueType}
use Rattle.rules.proofs.Static.{and_both, not_both}
use Rattle.rules.proofs.Kids.{Child, or_none, not_not}
use Rattle.rules.proofs.Recorded.{node_right, input_channel, delay_value, constant_value, switch_type, branch_type, taking_type}
use Rattle.rules.proofs.Nodes.{expr_variable, expr_constant, signal_input, signal_time}
use Rattle.rules.proofs.Expressions.{IsOperation, negation_kid, negation_tree, just_kid, just_tree, choice_kids, choice_tree, taking_kids, taking_tree, operation_kids, operation_tree}
use Rattle.rules.proofs.Signals.{ext_kid, ext_tree, delay_kid, delay_tree, let_kids, let_tree, switch_kids, switch_tree, group_kids, group_tree, until_kids, until_tree, branch_kid, branch_next, branch_end, branch_on, case_kid, case_next, case_end, case_on}
use Rattle.rules.proofs.ByKind.{ExpressionKind, is_variable, is_constant, is_negation, is_choice, is_just, is_taking, is_operation, expression_kind, SignalKind, is_input, is_time, is_ext, is_delay, is_let, is_switch, is_group, is_until, signal_kind, choose}
use Rattle.written.specs.Written.{present_of, word_of}
use Rattle.written.specs.Right.{ValueRight, Operates, RightE, RightS, RightB, RightC, SomeB, SomeC, KnowsE, KnowsS, KnowsB, KnowsC, TypesE, TypesS, TypesB, TypesC}
use Rattle.written.proofs.ListLaws.{Small}
use Rattle.written.proofs.Parted.{operation_row}

-- A value of right format, written again.
pub disjoint : (t : ℕ) → is_plain t ≡ true → is_maybe t ≡ false
unfolding is_plain is_maybe ◌and◌
disjoint t e = simp (lt-leb 5 t (low (leb-true t 3 (and_both (leb 1 t) (leb t 3) e).1)))
  where
    low : t ≤ 3 → t < 5
    low h = omega arith

or_cases : (a b : Bool) → (a or b) ≡ true → a ≡ false → b ≡ true
unfolding ◌or◌
or_cases true b e f = absurd (not_both (sym f))
or_cases false b e f = e

maybe_left : (t : ℕ) → is_type t ≡ true → is_plain t ≡ false → is_maybe t ≡ true
unfolding is_type
maybe_left t e f = or_cases (is_plain t) (is_maybe t) e f

-- The present byte: 1, or 0 for a maybe.
pub present_is : (t b w : ℕ) → value_fits t b w ≡ true → (eqb b 1 or (eqb b 0 and is_maybe t)) ≡ true
unfolding value_fits
present_is t b w e = (and_both _ _ (and_both _ _ (and_both _ _ e).0).0).0

pub not_maybe : (x y m : Bool) → (x or (y and m)) ≡ true → m ≡ false → x ≡ true
unfolding ◌or◌ ◌and◌
not_maybe true y m e f = refl
not_maybe false true m e f = absurd (not_both (sym f ∙ e))
not_maybe false false m e f = e

pub not_absent : (x y m : Bool) → (x or (y and m)) ≡ true → y ≡ false → x ≡ true
unfolding ◌or◌ ◌and◌
not_absent true y m e f = refl
not_absent false true m e f = absurd (not_both (sym f))
not_absent false false m e f = e

is_plain_lem : (t b w : ℕ) → is_type t ≡ true → value_fits t b w ≡ true → w < 4294967296 → is_plain t ≡ true → ValueRight (value_from t b w)
unfolding value_from type_of present_of word_of
is_plain_lem t b w e f g h =
    let one : b ≡ 1 = eqb-true b 1 (not_maybe (eqb b 1) (eqb b 0) (is_maybe t) (present_is t b w f) (disjoint t h)) in
    let z : value_from t b w ≡ Value.Plain t w = simp h in
    subst ValueRight (sym z) (record { is_a_type = e; fits = rw one at f; word_fits = g; again = simp h })

absent : (t b w : ℕ) → is_type t ≡ true → is_plain t ≡ false → eqb b 0 ≡ true → ValueRight (value_from t b w)
unfolding value_from type_of present_of word_of value_fits ◌and◌ ◌or◌
absent t b w e h k =
    let z : value_from t b w ≡ Value.Absent t = simp (h, k) in
    subst ValueRight (sym z) (record { is_a_type = e; fits = simp (maybe_left t e h); word_fits = omega arith; again = simp h })

present : (t b w : ℕ) → is_type t ≡ true → value_fits t b w ≡ true → w < 4294967296 → is_plain t ≡ false → eqb b 0 ≡ false → ValueRight (value_from t b w)
unfolding value_from type_of present_of word_of
present t b w e f g h k =
    let one : b ≡ 1 = eqb-true b 1 (not_absent (eqb b 1) (eqb b 0) (is_maybe t) (present_is t b w f) k) in
    let z : value_from t b w ≡ Value.Present t w = simp (h, k) in
    subst ValueRight (sym z) (record { is_a_type = e; fits = rw one at f; word_fits = g; again = simp h })

pub value_good : (t b w : ℕ) → is_type t ≡ true → value_fits t b w ≡ true → w < 4294967296 → ValueRight (value_from t b w)
value_good t b w e f g = go (is_plain t) refl (eqb b 0) refl
  where
    go : (x : Bool) → is_plain t ≡ x → (y : Bool) → eqb b 0 ≡ y → ValueRight (value_from t b w)
    go true h y k = is_plain_lem t b w e f g h
    go false h true k = absent t b w e h k
    go false h false k = present t b w e f g h k

pub value_type : (t b w : ℕ) → t ≡ type_of (value_from t b w)
unfolding value_from type_of
value_type t b w = go (is_plain t) (eqb b 0)
  where
    go : (x y : Bool) → t ≡ type_of (if x then Value.Plain t w else if y then Value.Absent t else Value.Present t w)
    go true y = refl
    go false true = refl
    go false false = refl

module _ (p : Bytes) (f : Formed p) (small : Small p) (φ : ℕ → ℕ) (φ-small : (b : ℕ) → φ b < 65536) where
  abbrev τ : ℕ → ℕ
  τ = type_at p

  word_small : (n : ℕ) → word_at p n < 4294967296
  unfolding word_at u32_at u16_at
  word_small n =
      omega (arith, small (record_at n + 8), small (record_at n + 8 + 1), small (record_at n + 8 + 2), small (record_at n + 8 + 2 + 1))

  module _ (n : ℕ) (h : n < nodes p) where
    type_right : (k : ℕ) → kind_at p n ≡ k → type_field_wrong (fields_of k).ty (type_at p n) (b_at p n) (word_at p n) ≡ false
    unfolding node_wrong
    type_right k e = rw (← e) (or_none _ _ (or_none _ _ (or_none _ _ (or_none _ _ (node_right p f n h)).0).0).0).1

    no_type : (k : ℕ) → kind_at p n ≡ k → (fields_of k).ty ≡ NoType → τ n ≡ 0
    unfolding type_field_wrong
    no_type k e q = eqb-true _ _ (and_both _ _ (not_not _ (rw q at (type_right k e)))).0

    let_type : kind_at p n ≡ 5 → is_type (type_at p n) ≡ true
    unfolding type_field_wrong fields_of row
    let_type e = (and_both _ _ (not_not _ (type_right 5 e))).0

    constant_good : kind_at p n ≡ 17 → ValueRight (value_at p n)
    unfolding value_at
    constant_good e = let v = constant_value p f n h e in value_good (type_at p n) (b_at p n) (word_at p n) v.0 v.1 (word_small n)

    delay_good : kind_at p n ≡ 4 → ValueRight (value_at p n)
    unfolding value_at
    delay_good e = let v = delay_value p f n h e in value_good (type_at p n) (b_at p n) (word_at p n) v.0 v.1 (word_small n)

    value_is : τ n ≡ type_of (value_at p n)
    unfolding value_at
    value_is = value_type (type_at p n) (b_at p n) (word_at p n)

  abbrev GotE : Expr → Type 0
  GotE e = RightE φ e × TypesE τ e × KnowsE τ e

  abbrev GotS : Signal → Type 0
  GotS s = RightS s φ × TypesS s τ × KnowsS s τ

  abbrev GotB : Branches → Type 0
  GotB s = RightB s φ × TypesB s τ × KnowsB s τ

  abbrev GotC : Cases → Type 0
  GotC s = RightC s φ × TypesC s τ × KnowsC s τ

  module _ (n : ℕ) (ih : (m : ℕ) → m < n → NodeOf is_expression p m → GotE (expr_at p m)) where
    kid : {x : ℕ} → Child is_expression p n x → GotE (expr_at p x)
    kid {x} c = ih x c.less c.node

    operation_at : NodeOf is_expression p n → IsOperation (kind_at p n) → GotE (expr_at p n)
    unfolding row
    operation_at w o =
        let k = operation_kids p n w o in
        let x = kid k.0 in
        let y = kid k.1 in
        let u : Operates (kind_at p n) = record { expression = w.sorted; no16 = o.no16; no17 = o.no17; no24 = o.no24; no27 = o.no27; no28 = o.no28; no29 = o.no29 } in
        subst GotE (sym (operation_tree p n w o))
        ((u, x.0, y.0), (no_type n w.inside (kind_at p n) refl (ap (λ (z : Fields). z.ty) (operation_row (kind_at p n) u)), x.1, y.1), (x.2, y.2))

    expr_at_lem : NodeOf is_expression p n → ExpressionKind (kind_at p n) → GotE (expr_at p n)
    unfolding fields_of row ◌and◌
    expr_at_lem w (is_variable e) = subst GotE (sym (expr_variable p n e)) (φ-small (a_at p n), no_type n w.inside 16 e refl, refl)
    expr_at_lem w (is_constant e) = subst GotE (sym (expr_constant p n e)) (constant_good n w.inside e, value_is n w.inside, tt)
    expr_at_lem w (is_negation e) =
        let x = kid (negation_kid p n w e) in
        subst GotE (sym (negation_tree p n w e)) (x.0, (no_type n w.inside 24 e refl, x.1), x.2)
    expr_at_lem w (is_choice e) =
        let k = choice_kids p n w e in
        let x = kid k.0 in
        let y = kid k.1 in
        let z = kid k.2 in
        subst GotE (sym (choice_tree p n w e)) ((x.0, y.0, z.0), (no_type n w.inside 27 e refl, x.1, y.1, z.1), (x.2, y.2, z.2))
    expr_at_lem w (is_just e) =
        let x = kid (just_kid p n w e) in
        subst GotE (sym (just_tree p n w e)) (x.0, (no_type n w.inside 28 e refl, x.1), x.2)
    expr_at_lem w (is_taking e) =
        let k = taking_kids p n w e in
        let x = kid k.0 in
        let y = kid k.1 in
        let z = kid k.2 in
        subst GotE (sym (taking_tree p n w e)) ((taking_type p f n w.inside e, x.0, y.0, z.0), (refl, x.1, y.1, z.1), (x.2, y.2, z.2))
    expr_at_lem w (is_operation o) = operation_at w o

  expr_got : (g n : ℕ) → n < g → NodeOf is_expression p n → GotE (expr_at p n)
  expr_got zero n h w = absurd (not-suc-le-zero h)
  expr_got (suc g) n h w = expr_at_lem n (λ m l. expr_got g m (omega arith)) w (expression_kind (kind_at p n))

  record Got (n : ℕ) : Type 0 where
    signals : NodeOf is_signal p n → GotS (signal_at p n)
    branches : NodeOf is_branch p n → GotB (branches_at p n) × SomeB (branches_at p n)
    cases : NodeOf is_case p n → GotC (cases_at p n) × SomeC (cases_at p n)

  abbrev FirstB : Branches → Type 0
  FirstB s = GotB s × SomeB s

  abbrev FirstC : Cases → Type 0
  FirstC s = GotC s × SomeC s

  module _ (n : ℕ) (ih : (m : ℕ) → m < n → Got m) where
    expr : {x : ℕ} → Child is_expression p n x → GotE (expr_at p x)
    expr {x} c = expr_got (suc x) x (omega arith) c.node

    sub : {x : ℕ} → Child is_signal p n x → GotS (signal_at p x)
    sub {x} c = (ih x c.less).signals c.node

    brs : {x : ℕ} → Child is_branch p n x → FirstB (branches_at p x)
    brs {x} c = (ih x c.less).branches c.node

    cs : {x : ℕ} → Child is_case p n x → FirstC (cases_at p x)
    cs {x} c = (ih x c.less).cases c.node

    signal_at_lem : NodeOf is_signal p n → SignalKind (kind_at p n) → GotS (signal_at p n)
    unfolding fields_of row ◌and◌
    signal_at_lem w (is_input e) = subst GotS (sym (signal_input p n e)) (input_channel p f n w.inside e, no_type n w.inside 1 e refl, tt)
    signal_at_lem w (is_time e) = subst GotS (sym (signal_time p n e)) (tt, no_type n w.inside 2 e refl, tt)
    signal_at_lem w (is_ext e) =
        let x = expr (ext_kid p n w e) in
        subst GotS (sym (ext_tree p n w e)) (x.0, (no_type n w.inside 3 e refl, x.1), x.2)
    signal_at_lem w (is_delay e) =
        let x = sub (delay_kid p n w e) in
        subst GotS (sym (delay_tree p n w e)) ((delay_good n w.inside e, x.0), (value_is n w.inside, x.1), x.2)
    signal_at_lem w (is_let e) =
        let k = let_kids p n w e in
        let x = sub k.0 in
        let y = sub k.1 in
        subst GotS (sym (let_tree p n w e)) ((let_type n w.inside e, x.0, y.0), (refl, x.1, y.1), (x.2, y.2))
    signal_at_lem w (is_switch e) =
        let k = switch_kids p n w e in
        let x = sub k.0 in
        let y = sub k.1 in
        let z = sub k.2 in
        subst GotS (sym (switch_tree p n w e)) ((switch_type p f n w.inside e, x.0, y.0, z.0), (refl, x.1, y.1, z.1), (x.2, y.2, z.2))
    signal_at_lem w (is_group e) =
        let k = group_kids p n w e in
        let x = sub k.0 in
        let y = brs k.1 in
        subst GotS (sym (group_tree p n w e)) ((y.1, x.0, y.0.0), (no_type n w.inside 7 e refl, x.1, y.0.1), (x.2, y.0.2))
    signal_at_lem w (is_until e) =
        let k = until_kids p n w e in
        let x = sub k.0 in
        let y = cs k.1 in
        subst GotS (sym (until_tree p n w e)) ((y.1, x.0, y.0.0), (no_type n w.inside 8 e refl, x.1, y.0.1), (x.2, y.0.2))

    branch_at : NodeOf is_branch p n → FirstB (branches_at p n)
    unfolding is_branch
    branch_at w =
        let x = sub (branch_kid p n w) in
        let t = branch_type p f n w.inside (eqb-true _ _ w.sorted) in
        choose (b_at p n) 65535
        (λ e. subst FirstB (sym (branch_end p n w e)) (((t, x.0, tt), (refl, x.1, tt), (x.2, tt)), tt))
        (λ d. let y = brs (branch_next p n w d) in subst FirstB (sym (branch_on p n w d)) (((t, x.0, y.0.0), (refl, x.1, y.0.1), (x.2, y.0.2)), tt))

    case_at : NodeOf is_case p n → FirstC (cases_at p n)
    unfolding is_case fields_of row
    case_at w =
        let x = sub (case_kid p n w) in
        let t = no_type n w.inside 10 (eqb-true _ _ w.sorted) refl in
        choose (b_at p n) 65535
        (λ e. subst FirstC (sym (case_end p n w e)) (((φ-small (c_at p n), x.0, tt), (t, x.1, tt), (refl, x.2, tt)), tt))
        (λ d. let y = cs (case_next p n w d) in subst FirstC (sym (case_on p n w d)) (((φ-small (c_at p n), x.0, y.0.0), (t, x.1, y.0.1), (refl, x.2, y.0.2)), tt))

  got : (g n : ℕ) → n < g → Got n
  got zero n h = absurd (not-suc-le-zero h)
  got (suc g) n h =
      let ih : (m : ℕ) → m < n → Got m = λ m l. got g m (omega arith) in
      record {
        signals = λ w. signal_at_lem n ih w (signal_kind (kind_at p n) w.sorted);
        branches = branch_at n ih;
        cases = case_at n ih;
      }

  pub signal_right : (n : ℕ) → NodeOf is_signal p n → RightS (signal_at p n) φ × TypesS (signal_at p n) (type_at p) × KnowsS (signal_at p n) (type_at p)
  signal_right n w = (got (suc n) n (omega arith)).signals w
