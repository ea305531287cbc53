-- A chain exists exactly where the definition of readiness says that the variable is needed at once.
-- Assumes nothing.
use Rattle.std.specs.Prelude.{if◌then◌else◌}
use mathlib.Core.Path.{◌≡◌, refl, sym, ap, ◌∙◌}
use mathlib.Core.List.{List, [], ◌∷◌}
use mathlib.Core.Bool.{Bool, true, false, not}
use Prim.Native.Nat.{ℕ, zero, suc, ◌≤◌, ◌<◌}
use native.Mathlib.Nat.{not-suc-le-zero}
use native.Mathlib.Omega.{arith}
use lib.Dec.{eqb}
use borrow.Author.Tests.{eqb-true, leb-true, ne_eqb}
use Rattle.rules.specs.Bytes.{Bytes, ◌and◌, ◌or◌}
use Rattle.rules.specs.Layout.{kind_at, a_at, b_at, c_at}
use Rattle.rules.specs.Kinds.{row, is_signal, is_expression, is_branch, fields_of}
use Rattle.rules.specs.Shape.{is_child}
use Rattle.rules.specs.Shaped.{NodeOf}
use Rattle.rules.specs.Tree.{below, expr_at, signal_at, branches_at}
use Rattle.rules.specs.Ready.{needs_e, needs_s, needs_b}
use Rattle.rules.proofs.Static.{and_both}
use Rattle.rules.proofs.Nodes.{below_lt, below_ge, expr_variable, expr_constant, signal_input, signal_time}
use Rattle.rules.proofs.Kids.{Child}
use Rattle.rules.proofs.Expressions.{IsOperation, negation_kid, negation_tree, just_kid, just_tree, choice_kids, choice_tree, taking_kids, taking_tree, operation_kids, operation_tree}
use Rattle.rules.proofs.Signals.{ext_kid, ext_tree, delay_tree, let_kids, let_tree, switch_kids, switch_tree, group_kids, group_tree, until_kids, until_tree, branch_kid, branch_next, branch_end, branch_on}
use Rattle.rules.proofs.ByKind.{ExpressionKind, is_variable, is_constant, is_negation, is_choice, is_just, is_taking, is_operation, expression_kind, SignalKind, is_input, is_time, is_ext, is_delay, is_let, is_switch, is_group, is_until, signal_kind, choose, two_kids}
use Rattle.chains.specs.Chain.{Which, a_field, b_field, c_field, field_at, enters, is_use, ◌or_else◌, under, via, chain_as, chain}
use Rattle.chains.proofs.ChainLaws.{chain_law}

-- Whether there is a chain.
abbrev pub some : List ℕ → Bool
some [] = false
some (n ∷ ns) = true

some_either : (c d : List ℕ) → some (c or_else d) ≡ (some c or some d)
unfolding ◌or_else◌ ◌or◌
some_either [] d = refl
some_either (n ∷ ns) d = refl

some_under : (n : ℕ) (c : List ℕ) → some (under n c) ≡ some c
unfolding under
some_under n [] = refl
some_under n (m ∷ ns) = refl

or_nothing : (a : Bool) → (a or false) ≡ a
unfolding ◌or◌
or_nothing true = refl
or_nothing false = refl

or_right_first : (a b c : Bool) → (a or (b or c)) ≡ (a or b or c)
unfolding ◌or◌
or_right_first true b c = refl
or_right_first false b c = refl

module _ (p : Bytes) (x : ℕ) where
  abbrev at : ℕ → Bool
  at n = some (chain p x n)

  -- What node n's field of number m has below it.
  abbrev kid_at : ℕ → ℕ → Bool
  kid_at n m = some (below n [] (chain p x) m)

  some_via : (n : ℕ) (f : Which) → some (via p n (below n [] (chain p x)) f) ≡ (enters (kind_at p n) f and kid_at n (field_at p n f))
  unfolding via ◌and◌
  some_via n f = go (enters (kind_at p n) f)
    where
      go : (b : Bool) → some (if b then below n [] (chain p x) (field_at p n f) else []) ≡ (b and kid_at n (field_at p n f))
      go true = refl
      go false = refl

  -- By a node's fields, of kind k.
  abbrev parts : ℕ → ℕ → Bool
  parts k n =
      (eqb k 16 and eqb (a_at p n) x)
      or ((enters k a_field and kid_at n (a_at p n)) or ((enters k b_field and kid_at n (b_at p n)) or (enters k c_field and kid_at n (c_at p n))))

  some_as : (n : ℕ) → some (chain_as p x n (below n [] (chain p x))) ≡ parts (kind_at p n) n
  unfolding chain_as is_use field_at ◌or◌
  some_as n = go (eqb (kind_at p n) 16 and eqb (a_at p n) x)
    where
      kids : some (under n (via p n (below n [] (chain p x)) a_field or_else via p n (below n [] (chain p x)) b_field or_else via p n (below n [] (chain p x)) c_field))
          ≡ ((enters (kind_at p n) a_field and kid_at n (a_at p n)) or ((enters (kind_at p n) b_field and kid_at n (b_at p n)) or (enters (kind_at p n) c_field and kid_at n (c_at p n))))
      kids =
          some_under n _ ∙ some_either _ _
          ∙ (λ i. some_via n a_field i or (some_either (via p n (below n [] (chain p x)) b_field) (via p n (below n [] (chain p x)) c_field) ∙ (λ j. some_via n b_field j or some_via n c_field j)) i)

      go : (u : Bool)
          → some (if u then n ∷ [] else under n (via p n (below n [] (chain p x)) a_field or_else via p n (below n [] (chain p x)) b_field or_else via p n (below n [] (chain p x)) c_field))
          ≡ (u or ((enters (kind_at p n) a_field and kid_at n (a_at p n)) or ((enters (kind_at p n) b_field and kid_at n (b_at p n)) or (enters (kind_at p n) c_field and kid_at n (c_at p n)))))
      go true = refl
      go false = kids

  at_kind : (n k : ℕ) → kind_at p n ≡ k → at n ≡ parts k n
  at_kind n k e = ap some (chain_law p x n) ∙ some_as n ∙ ap (λ (j : ℕ). parts j n) e

  module _ (n : ℕ) (ih : (m : ℕ) → m < n → NodeOf is_expression p m → at m ≡ needs_e x (expr_at p m)) where
    kid : {m : ℕ} → Child is_expression p n m → kid_at n m ≡ needs_e x (expr_at p m)
    kid {m} c = ap some (below_lt n [] (chain p x) m c.less) ∙ ih m c.less c.node

    one : {m : ℕ} → Child is_expression p n m → (kid_at n m or false) ≡ needs_e x (expr_at p m)
    one c = or_nothing _ ∙ kid c

    three : {m j k : ℕ} → Child is_expression p n m → Child is_expression p n j → Child is_expression p n k
        → (kid_at n m or (kid_at n j or kid_at n k)) ≡ (needs_e x (expr_at p m) or needs_e x (expr_at p j) or needs_e x (expr_at p k))
    three a b c = or_right_first _ _ _ ∙ λ i. kid a i or kid b i or kid c i

    operation_parts : NodeOf is_expression p n → IsOperation (kind_at p n) → parts (kind_at p n) n ≡ (kid_at n (a_at p n) or kid_at n (b_at p n))
    unfolding enters is_expression ◌and◌ ◌or◌
    operation_parts w o =
        let t = two_kids (kind_at p n) w.sorted o in
        let l = leb-true 16 (kind_at p n) (and_both _ _ w.sorted).0 in
        simp (
          ne_eqb (kind_at p n) 16 o.no16,
          ne_eqb (kind_at p n) 4 (λ e. omega arith),
          ne_eqb (kind_at p n) 6 (λ e. omega arith),
          ne_eqb (kind_at p n) 8 (λ e. omega arith),
          t.first_kid,
          t.second_kid,
          t.no_third,
          or_nothing (kid_at n (b_at p n)),
        )

    expr_at_lem : NodeOf is_expression p n → ExpressionKind (kind_at p n) → at n ≡ needs_e x (expr_at p n)
    unfolding needs_e enters is_child fields_of row ◌or◌ ◌and◌
    expr_at_lem w (is_variable e) = at_kind n 16 e ∙ or_nothing _ ∙ sym (ap (needs_e x) (expr_variable p n e))
    expr_at_lem w (is_constant e) = at_kind n 17 e ∙ sym (ap (needs_e x) (expr_constant p n e))
    expr_at_lem w (is_negation e) = at_kind n 24 e ∙ one (negation_kid p n w e) ∙ sym (ap (needs_e x) (negation_tree p n w e))
    expr_at_lem w (is_choice e) =
        let k = choice_kids p n w e in
        at_kind n 27 e ∙ three k.0 k.1 k.2 ∙ sym (ap (needs_e x) (choice_tree p n w e))
    expr_at_lem w (is_just e) = at_kind n 28 e ∙ one (just_kid p n w e) ∙ sym (ap (needs_e x) (just_tree p n w e))
    expr_at_lem w (is_taking e) =
        let k = taking_kids p n w e in
        at_kind n 29 e ∙ three k.0 k.1 k.2 ∙ sym (ap (needs_e x) (taking_tree p n w e))
    expr_at_lem w (is_operation o) =
        let k = operation_kids p n w o in
        at_kind n (kind_at p n) refl ∙ operation_parts w o ∙ (λ i. kid k.0 i or kid k.1 i) ∙ sym (ap (needs_e x) (operation_tree p n w o))

  expr_needs : (f n : ℕ) → n < f → NodeOf is_expression p n → at n ≡ needs_e x (expr_at p n)
  expr_needs zero n h w = absurd (not-suc-le-zero h)
  expr_needs (suc f) n h w = expr_at_lem n (λ m l. expr_needs f m (omega arith)) w (expression_kind (kind_at p n))

  -- The same for a signal and for a branch.
  record Agrees (n : ℕ) : Type 0 where
    signals : NodeOf is_signal p n → at n ≡ needs_s x (signal_at p n)
    branches : NodeOf is_branch p n → at n ≡ needs_b x (branches_at p n)

  module _ (n : ℕ) (ih : (m : ℕ) → m < n → Agrees m) where
    expr : {m : ℕ} → Child is_expression p n m → kid_at n m ≡ needs_e x (expr_at p m)
    expr {m} c = ap some (below_lt n [] (chain p x) m c.less) ∙ expr_needs (suc m) m (omega arith) c.node

    sub : {m : ℕ} → Child is_signal p n m → kid_at n m ≡ needs_s x (signal_at p m)
    sub {m} c = ap some (below_lt n [] (chain p x) m c.less) ∙ (ih m c.less).signals c.node

    brs : {m : ℕ} → Child is_branch p n m → kid_at n m ≡ needs_b x (branches_at p m)
    brs {m} c = ap some (below_lt n [] (chain p x) m c.less) ∙ (ih m c.less).branches c.node

    ends : NodeOf is_branch p n → b_at p n ≡ 65535 → kid_at n (b_at p n) ≡ false
    ends w e = ap some (below_ge n [] (chain p x) (b_at p n) (omega (arith, w.inside, w.shaped.small)))

    signal_at_lem : NodeOf is_signal p n → SignalKind (kind_at p n) → at n ≡ needs_s x (signal_at p n)
    unfolding needs_s enters is_child fields_of row ◌or◌ ◌and◌
    signal_at_lem w (is_input e) = at_kind n 1 e ∙ sym (ap (needs_s x) (signal_input p n e))
    signal_at_lem w (is_time e) = at_kind n 2 e ∙ sym (ap (needs_s x) (signal_time p n e))
    signal_at_lem w (is_ext e) = at_kind n 3 e ∙ or_nothing _ ∙ expr (ext_kid p n w e) ∙ sym (ap (needs_s x) (ext_tree p n w e))
    signal_at_lem w (is_delay e) = at_kind n 4 e ∙ sym (ap (needs_s x) (delay_tree p n w e))
    signal_at_lem w (is_let e) =
        let k = let_kids p n w e in
        at_kind n 5 e ∙ (λ i. sub k.0 i or (or_nothing _ ∙ sub k.1) i) ∙ sym (ap (needs_s x) (let_tree p n w e))
    signal_at_lem w (is_switch e) =
        let k = switch_kids p n w e in
        at_kind n 6 e ∙ (λ i. sub k.0 i or sub k.2 i) ∙ sym (ap (needs_s x) (switch_tree p n w e))
    signal_at_lem w (is_group e) =
        let k = group_kids p n w e in
        at_kind n 7 e ∙ (λ i. sub k.0 i or (or_nothing _ ∙ brs k.1) i) ∙ sym (ap (needs_s x) (group_tree p n w e))
    signal_at_lem w (is_until e) = at_kind n 8 e ∙ or_nothing _ ∙ sub (until_kids p n w e).0 ∙ sym (ap (needs_s x) (until_tree p n w e))

    branch_at : NodeOf is_branch p n → at n ≡ needs_b x (branches_at p n)
    unfolding needs_s enters is_child fields_of row ◌or◌ ◌and◌ is_branch
    branch_at w =
        let k = at_kind n 9 (eqb-true _ _ w.sorted) in
        choose (b_at p n) 65535
        (λ e. k ∙ (λ i. sub (branch_kid p n w) i or (or_nothing _ ∙ ends w e) i) ∙ sym (ap (needs_b x) (branch_end p n w e)))
        (λ d. k ∙ (λ i. sub (branch_kid p n w) i or (or_nothing _ ∙ brs (branch_next p n w d)) i) ∙ sym (ap (needs_b x) (branch_on p n w d)))

  agrees : (f n : ℕ) → n < f → Agrees n
  agrees zero n h = absurd (not-suc-le-zero h)
  agrees (suc f) n h =
      let ih : (m : ℕ) → m < n → Agrees m = λ m l. agrees f m (omega arith) in
      record { signals = λ w. signal_at_lem n ih w (signal_kind (kind_at p n) w.sorted); branches = branch_at n ih }

-- At a signal.
pub chain_needs : (p : Bytes) (x n : ℕ) → NodeOf is_signal p n → some (chain p x n) ≡ needs_s x (signal_at p n)
chain_needs p x n w = (agrees p x (suc n) n (omega arith)).signals w
