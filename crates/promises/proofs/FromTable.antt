-- The tree of an accepted program sits on its table: its numbers, types and values are the table's, and no cell stands in it twice.
-- Assumes nothing.
use mathlib.Core.Path.{◌≡◌, refl, sym, subst}
use mathlib.Core.Bool.{Bool, true}
use Prim.Native.Nat.{ℕ, zero, suc, ◌-◌, ◌<◌}
use native.Mathlib.Nat.{not-suc-le-zero}
use native.Mathlib.Omega.{arith}
use borrow.Author.Tests.{leb-true, eqb-true}
use Rattle.rules.specs.Bytes.{Bytes, ◌or◌}
use Rattle.rules.specs.Values.{is_type, is_plain, value_fits}
use Rattle.rules.specs.Layout.{most_nodes, nodes, kind_at, type_at, a_at, b_at, word_at, has_cell, cells_before, cells}
use Rattle.rules.specs.Kinds.{is_signal, is_expression, is_branch, is_case}
use Rattle.rules.specs.Shaped.{NodeOf}
use Rattle.rules.specs.Accepted.{Formed, Accepted}
use Rattle.rules.specs.Tree.{Expr, Signal, Branches, Cases, expr_at, signal_at, branches_at, cases_at, value_at, root}
use Rattle.rules.proofs.Static.{and_both}
use Rattle.rules.proofs.Kids.{Child}
use Rattle.rules.proofs.Nodes.{expr_variable, expr_constant, signal_input, signal_time}
use Rattle.rules.proofs.Expressions.{negation_kid, negation_tree, just_kid, just_tree, choice_kids, choice_tree, taking_kids, taking_tree, operation_kids, operation_tree}
use Rattle.rules.proofs.Signals.{ext_kid, ext_tree, delay_kid, delay_tree, let_kids, let_tree, switch_kids, switch_tree, group_kids, group_tree, until_kids, until_tree, branch_kid, branch_next, branch_end, branch_on, case_kid, case_next, case_end, case_on}
use Rattle.rules.proofs.ByKind.{ExpressionKind, is_variable, is_constant, is_negation, is_choice, is_just, is_taking, is_operation, expression_kind, SignalKind, is_input, is_time, is_ext, is_delay, is_let, is_switch, is_group, is_until, signal_kind, choose}
use Rattle.rules.proofs.Recorded.{input_channel, delay_value, constant_value, switch_type, branch_type, taking_type}
use Rattle.rules.proofs.CellNumbers.{cell_below}
use Rattle.rules.proofs.CellsOnce.{cells_once}
use Rattle.rules.proofs.Rooted.{some_node, root_of}
use Rattle.promises.specs.Small.{Small}
use Rattle.promises.specs.Valid.{Valid}
use Rattle.promises.specs.Sits.{Binds, BindsPlain, Numbered, SitsE, SitsS, SitsB, SitsC}
use Rattle.promises.specs.Seated.{Seated}
use Rattle.promises.proofs.Checks.{checks_most}
use Rattle.promises.proofs.SmallLaws.{u32_small}
use Rattle.promises.proofs.ValidLaws.{type_is, from_valid}

-- The value of a delay or of a constant.
value_at_lem : (p : Bytes) → Small p → (n : ℕ) → (is_type (type_at p n) ≡ true) × (value_fits (type_at p n) (b_at p n) (word_at p n) ≡ true)
    → Valid (value_at p n)
unfolding value_at word_at
value_at_lem p s n h = (from_valid (type_at p n) (b_at p n) (word_at p n) (type_is (type_at p n) h.0) (u32_small p _ s) h.1).valid

-- A binder of a shaped program, and one whose type is plain.
binds_at : {sort : ℕ → Bool} (p : Bytes) (n : ℕ) → NodeOf sort p n → Binds most_nodes (type_at p) n (type_at p n)
binds_at p n w = record { below = omega (arith, w.inside, w.shaped.small); declared = refl }

plain_at : {sort : ℕ → Bool} (p : Bytes) (n : ℕ) → NodeOf sort p n → is_plain (type_at p n) ≡ true → BindsPlain most_nodes (type_at p) n (type_at p n)
unfolding is_plain
plain_at p n w e =
    let b = and_both _ _ e in
    record { binds = binds_at p n w; least = leb-true 1 (type_at p n) b.0; most = leb-true (type_at p n) 3 b.1 }

-- The kinds that have a cell.
cell_at_lem : (p : Bytes) (n k : ℕ) → has_cell k ≡ true → kind_at p n ≡ k → n < nodes p → cells_before p n < cells p
cell_at_lem p n k h e l = cell_below p n l (rw e h)

module _ (p : Bytes) (s : Small p) (f : Formed p) where
  -- What the tree at an expression, a signal, a branch or a case is to meet.
  abbrev E : Expr → Type 0
  E x = SitsE most_nodes (type_at p) x

  abbrev S : Signal → Type 0
  S x = SitsS most_nodes (cells p) (type_at p) x

  abbrev B : Branches → Type 0
  B x = SitsB most_nodes (cells p) (type_at p) x

  abbrev C : Cases → Type 0
  C x = SitsC most_nodes (cells p) (type_at p) x

  -- An expression, given this for smaller ones.
  module _ (n : ℕ) (ih : (m : ℕ) → m < n → NodeOf is_expression p m → E (expr_at p m)) where
    kid : {x : ℕ} → Child is_expression p n x → E (expr_at p x)
    kid {x} c = ih x c.less c.node

    expr_at_lem : NodeOf is_expression p n → ExpressionKind (kind_at p n) → E (expr_at p n)
    expr_at_lem w (is_variable e) = subst E (sym (expr_variable p n e)) refl
    expr_at_lem w (is_constant e) = subst E (sym (expr_constant p n e)) (value_at_lem p s n (constant_value p f n w.inside e))
    expr_at_lem w (is_negation e) = subst E (sym (negation_tree p n w e)) (kid (negation_kid p n w e))
    expr_at_lem w (is_choice e) =
        let k = choice_kids p n w e in
        subst E (sym (choice_tree p n w e)) (kid k.0, kid k.1, kid k.2)
    expr_at_lem w (is_just e) = subst E (sym (just_tree p n w e)) (kid (just_kid p n w e))
    expr_at_lem w (is_taking e) =
        let k = taking_kids p n w e in
        subst E (sym (taking_tree p n w e)) (plain_at p n w (taking_type p f n w.inside e), kid k.0, kid k.1, kid k.2)
    expr_at_lem w (is_operation o) =
        let k = operation_kids p n w o in
        subst E (sym (operation_tree p n w o)) (kid k.0, kid k.1)

  expr_sits : (g n : ℕ) → n < g → NodeOf is_expression p n → E (expr_at p n)
  expr_sits zero n h w = absurd (not-suc-le-zero h)
  expr_sits (suc g) n h w = expr_at_lem n (λ m l. expr_sits g m (omega arith)) w (expression_kind (kind_at p n))

  -- A signal, a branch and a case, given this for smaller ones.
  record SitsAt (n : ℕ) : Type 0 where
    signals : NodeOf is_signal p n → S (signal_at p n)
    branches : NodeOf is_branch p n → B (branches_at p n)
    cases : NodeOf is_case p n → C (cases_at p n)

  module _ (n : ℕ) (ih : (m : ℕ) → m < n → SitsAt m) where
    sub : {x : ℕ} → Child is_signal p n x → S (signal_at p x)
    sub {x} c = (ih x c.less).signals c.node

    brs : {x : ℕ} → Child is_branch p n x → B (branches_at p x)
    brs {x} c = (ih x c.less).branches c.node

    cs : {x : ℕ} → Child is_case p n x → C (cases_at p x)
    cs {x} c = (ih x c.less).cases c.node

    signal_at_lem : NodeOf is_signal p n → SignalKind (kind_at p n) → S (signal_at p n)
    unfolding has_cell ◌or◌
    signal_at_lem w (is_input e) = subst S (sym (signal_input p n e)) (input_channel p f n w.inside e)
    signal_at_lem w (is_time e) = subst S (sym (signal_time p n e)) tt
    signal_at_lem w (is_ext e) =
        let k = ext_kid p n w e in
        subst S (sym (ext_tree p n w e)) (expr_sits (suc (a_at p n)) (a_at p n) (omega arith) k.node)
    signal_at_lem w (is_delay e) =
        subst S (sym (delay_tree p n w e))
        (cell_at_lem p n 4 refl e w.inside, value_at_lem p s n (delay_value p f n w.inside e), sub (delay_kid p n w e))
    signal_at_lem w (is_let e) =
        let k = let_kids p n w e in
        subst S (sym (let_tree p n w e)) (binds_at p n w, sub k.0, sub k.1)
    signal_at_lem w (is_switch e) =
        let k = switch_kids p n w e in
        subst S (sym (switch_tree p n w e))
        (cell_at_lem p n 6 refl e w.inside, plain_at p n w (switch_type p f n w.inside e), sub k.0, sub k.1, sub k.2)
    signal_at_lem w (is_group e) =
        let k = group_kids p n w e in
        subst S (sym (group_tree p n w e)) (cell_at_lem p n 7 refl e w.inside, sub k.0, brs k.1)
    signal_at_lem w (is_until e) =
        let k = until_kids p n w e in
        subst S (sym (until_tree p n w e)) (sub k.0, cs k.1)

    -- A branch has a body of a smaller number, so that its own is not 0.
    numbered : NodeOf is_branch p n → Numbered n
    numbered w = record { positive = omega (arith, (branch_kid p n w).less); small = omega (arith, w.inside, w.shaped.small) }

    branch_at : NodeOf is_branch p n → B (branches_at p n)
    unfolding is_branch
    branch_at w =
        let t = plain_at p n w (branch_type p f n w.inside (eqb-true _ _ w.sorted)) in
        let body = sub (branch_kid p n w) in
        choose (b_at p n) 65535
        (λ e. subst B (sym (branch_end p n w e)) (numbered w, t, body, tt))
        (λ d. subst B (sym (branch_on p n w d)) (numbered w, t, body, brs (branch_next p n w d)))

    case_at : NodeOf is_case p n → C (cases_at p n)
    case_at w =
        let event = sub (case_kid p n w) in
        choose (b_at p n) 65535
        (λ e. subst C (sym (case_end p n w e)) (refl, event, tt))
        (λ d. subst C (sym (case_on p n w d)) (refl, event, cs (case_next p n w d)))

  sits_at : (g n : ℕ) → n < g → SitsAt n
  sits_at zero n h = absurd (not-suc-le-zero h)
  sits_at (suc g) n h =
      let ih : (m : ℕ) → m < n → SitsAt m = λ m l. sits_at g m (omega arith) in
      record {
        signals = λ w. signal_at_lem n ih w (signal_kind (kind_at p n) w.sorted);
        branches = branch_at n ih;
        cases = case_at n ih;
      }

-- The tree of an accepted program, whose bytes are bytes.
pub from_table : (p : Bytes) → Small p → Accepted p → SitsS most_nodes (cells p) (type_at p) (root p)
unfolding root
from_table p s a = (sits_at p s a.formed (suc (nodes p - 1)) (nodes p - 1) (omega arith)).signals (root_of p a)

pub seated : (p : Bytes) → Small p → Accepted p → Seated p
seated p s a = record {
  sits = from_table p s a;
  stamp_small = checks_most p s a.formed;
  once = cells_once p a.formed.length_right a.shape_right (some_node p a.formed);
}
