-- What a text gives is numbered children first, in field order.
-- Assumes nothing.
use mathlib.Core.Path.{◌≡◌, refl, sym, ap, subst, ◌∙◌}
use mathlib.Core.Bool.{Bool, true, false}
use mathlib.Core.List.{List, [], ◌∷◌, ◌++◌}
use Prim.Native.Nat.{ℕ, suc, ◌+◌, ◌-◌, ◌≤◌}
use native.Mathlib.Omega.{arith}
use lib.ListN.{length, length-append}
use borrow.Author.Tests.{eqb-true}
use Rattle.rules.specs.Bytes.{Bytes, byte_at, ◌and◌}
use Rattle.rules.specs.Layout.{nodes, kind_at, a_at, b_at, c_at}
use Rattle.rules.specs.Kinds.{row, is_signal, is_expression, is_branch, is_case, fields_of}
use Rattle.rules.specs.Shape.{is_child}
use Rattle.rules.specs.Shaped.{NodeOf}
use Rattle.rules.specs.Accepted.{Formed}
use Rattle.rules.specs.Tree.{expr_at, signal_at, branches_at, cases_at, root}
use Rattle.rules.specs.declared.Field.{Field}
use Rattle.rules.proofs.Static.{not_both}
use Rattle.rules.proofs.Kids.{Child}
use Rattle.rules.proofs.Nodes.{expr_variable, expr_constant, signal_input, signal_time}
use Rattle.rules.proofs.Expressions.{negation_kid, negation_tree, just_kid, just_tree, choice_kids, choice_tree, taking_kids, taking_tree, operation_kids, operation_tree}
use Rattle.rules.proofs.Signals.{ext_kid, ext_tree, delay_kid, delay_tree, let_kids, let_tree, switch_kids, switch_tree, group_kids, group_tree, until_kids, until_tree, branch_kid, branch_next, branch_end, branch_on, case_kid, case_next, case_end, case_on}
use Rattle.rules.proofs.ByKind.{ExpressionKind, is_variable, is_constant, is_negation, is_choice, is_just, is_taking, is_operation, expression_kind, SignalKind, is_input, is_time, is_ext, is_delay, is_let, is_switch, is_group, is_until, signal_kind, choose, two_kids}
use Rattle.rules.proofs.Established.{root_signal}
use Rattle.rules.proofs.Rooted.{some_node}
use Rattle.written.specs.Order.{order_e, order_s, order_b, order_c}
use Rattle.written.specs.Parts.{Part, part, Slot, holds, child, size_p, size_k, last_p, field_k, row_p}
use Rattle.written.specs.Table.{table_of}
use Rattle.written.specs.Right.{Fits, plain, stops, RightP, RightK, HoldsP, HoldsK}
use Rattle.written.proofs.Places.{entry, Along, along_none, along_one, along_app}
use Rattle.written.proofs.Rows.{last_size}
use Rattle.written.proofs.Tabled.{table_held, nodes_is, table_formed, table_shaped}
use Rattle.texts.specs.Tokens.{Token}
use Rattle.texts.specs.Rows.{Sofar, got}
use Rattle.texts.specs.Resolved.{blocks_of}
use Rattle.texts.specs.Reader.{read_text}
use Rattle.texts.proofs.TextRight.{Readable, text_yields}
use Rattle.retold.specs.Stays.{up_from, NumberedSo}
use Rattle.retold.proofs.OneTable.{same_list}
use Rattle.retold.proofs.Numbered.{Counts}
use Rattle.retold.proofs.Later.{yielded}
use Rattle.retold.proofs.Stays.{up_length, up_entry}

-- So many numbers from lo on, in order.
record Run (lo size : ℕ) (xs : List ℕ) : Type 0 where
  counts : Counts lo xs
  long : length xs ≡ size

resized : {lo m n : ℕ} {xs : List ℕ} → m ≡ n → Run lo m xs → Run lo n xs
resized e r = record { counts = r.counts; long = r.long ∙ e }

moved : {lo lo' m : ℕ} {xs : List ℕ} → lo ≡ lo' → Run lo m xs → Run lo' m xs
moved {lo} {lo'} {m} {xs} e r = subst (λ (x : ℕ). Run x m xs) e r

none : (lo : ℕ) → Run lo 0 []
none lo = record { counts = along_none (λ i n. n ≡ i) lo; long = refl }

both : {lo a b : ℕ} {xs ys : List ℕ} → Run lo a xs → Run (lo + a) b ys → Run lo (a + b) (xs ++ ys)
both {lo} {a} {b} {xs} {ys} r s = record {
  counts = along_app (λ i n. n ≡ i) lo a xs ys r.long r.counts s.counts;
  long = length-append xs ys ∙ (λ j. r.long j + s.long j);
}

last : {lo a : ℕ} {xs : List ℕ} (n : ℕ) → n ≡ lo + a → Run lo a xs → Run lo (suc a) (xs ++ n ∷ [])
last {lo} {a} {xs} n e r = record {
  counts = along_app (λ i n. n ≡ i) lo a xs (n ∷ []) r.long r.counts (along_one (λ i n. n ≡ i) (lo + a) n e);
  long = length-append xs (n ∷ []) ∙ (let l = r.long in omega arith);
}

no_kid : (f : Field) (x : ℕ) → Fits f x → is_child f ≡ true → (x ≡ 65535 → ⊥) → ⊥
no_kid f x (plain p w m) c d = not_both (sym p ∙ c)
no_kid f x (stops p w m) c d = d m

module _ (q : Bytes) where
  -- What is shown of a node whose records are so many from lo on.
  record Ordered (n lo size : ℕ) : Type 0 where
    expression : NodeOf is_expression q n → Run lo size (order_e (expr_at q n))
    signal : NodeOf is_signal q n → Run lo size (order_s (signal_at q n))
    branches : NodeOf is_branch q n → Run lo size (order_b (branches_at q n))
    cases : NodeOf is_case q n → Run lo size (order_c (cases_at q n))

  -- And of a field.
  record InField (f : Field) (x lo size : ℕ) : Type 0 where
    kid : is_child f ≡ true → (x ≡ 65535 → ⊥) → Ordered x lo size
    stop : x ≡ 65535 → size ≡ 0
    other : is_child f ≡ false → size ≡ 0

  module _ (n lo A B C : ℕ) (own : n ≡ lo + (A + B + C)) (fa : InField (fields_of (kind_at q n)).a (a_at q n) lo A) (fb : InField (fields_of (kind_at q n)).b (b_at q n) (lo + A) B) (fc : InField (fields_of (kind_at q n)).c (c_at q n) (lo + A + B) C) where
    far : {sort : ℕ → Bool} {x : ℕ} → Child sort q n x → x ≡ 65535 → ⊥
    far c e = let i = c.node.inside in let s = c.node.shaped.small in omega arith

    module _ (k : ℕ) (e : kind_at q n ≡ k) where
      kid_a : is_child (fields_of k).a ≡ true → (a_at q n ≡ 65535 → ⊥) → Ordered (a_at q n) lo A
      kid_a h = fa.kid (ap (λ (k : ℕ). is_child (fields_of k).a) e ∙ h)

      kid_b : is_child (fields_of k).b ≡ true → (b_at q n ≡ 65535 → ⊥) → Ordered (b_at q n) (lo + A) B
      kid_b h = fb.kid (ap (λ (k : ℕ). is_child (fields_of k).b) e ∙ h)

      kid_c : is_child (fields_of k).c ≡ true → (c_at q n ≡ 65535 → ⊥) → Ordered (c_at q n) (lo + A + B) C
      kid_c h = fc.kid (ap (λ (k : ℕ). is_child (fields_of k).c) e ∙ h)

      no_a : is_child (fields_of k).a ≡ false → A ≡ 0
      no_a h = fa.other (ap (λ (k : ℕ). is_child (fields_of k).a) e ∙ h)

      no_b : is_child (fields_of k).b ≡ false → B ≡ 0
      no_b h = fb.other (ap (λ (k : ℕ). is_child (fields_of k).b) e ∙ h)

      no_c : is_child (fields_of k).c ≡ false → C ≡ 0
      no_c h = fc.other (ap (λ (k : ℕ). is_child (fields_of k).c) e ∙ h)

    -- With no kid, one, two and three.
    of_none : A ≡ 0 → B ≡ 0 → C ≡ 0 → Run lo (suc (A + B + C)) (n ∷ [])
    of_none a b c = resized (let z : 1 ≡ suc (A + B + C) = omega arith in z) (last n (omega arith) (none lo))

    of_one : {xs : List ℕ} → B ≡ 0 → C ≡ 0 → Run lo A xs → Run lo (suc (A + B + C)) (xs ++ n ∷ [])
    of_one b c r = resized (let z : suc A ≡ suc (A + B + C) = omega arith in z) (last n (omega arith) r)

    of_two : {xs ys : List ℕ} → C ≡ 0 → Run lo A xs → Run (lo + A) B ys → Run lo (suc (A + B + C)) (xs ++ ys ++ n ∷ [])
    of_two c r s = resized (let z : suc (A + B) ≡ suc (A + B + C) = omega arith in z) (last n (omega arith) (both r s))

    of_three : {xs ys zs : List ℕ} → Run lo A xs → Run (lo + A) B ys → Run (lo + A + B) C zs → Run lo (suc (A + B + C)) (xs ++ ys ++ zs ++ n ∷ [])
    of_three r s t = last n own (both (both r s) (moved (let z : lo + A + B ≡ lo + (A + B) = omega arith in z) t))

    abbrev Is : List ℕ → Type 0
    Is xs = Run lo (suc (A + B + C)) xs

    expr_is : NodeOf is_expression q n → ExpressionKind (kind_at q n) → Is (order_e (expr_at q n))
    unfolding order_e fields_of row is_child ◌and◌
    expr_is w (is_variable e) = rw (expr_variable q n e) (of_none (no_a 16 e refl) (no_b 16 e refl) (no_c 16 e refl))
    expr_is w (is_constant e) = rw (expr_constant q n e) (of_none (no_a 17 e refl) (no_b 17 e refl) (no_c 17 e refl))
    expr_is w (is_negation e) =
        let k = negation_kid q n w e in
        rw (negation_tree q n w e) (of_one (no_b 24 e refl) (no_c 24 e refl) ((kid_a 24 e refl (far k)).expression k.node))
    expr_is w (is_just e) =
        let k = just_kid q n w e in
        rw (just_tree q n w e) (of_one (no_b 28 e refl) (no_c 28 e refl) ((kid_a 28 e refl (far k)).expression k.node))
    expr_is w (is_choice e) =
        let k = choice_kids q n w e in
        rw (choice_tree q n w e)
        (of_three ((kid_a 27 e refl (far k.0)).expression k.0.node) ((kid_b 27 e refl (far k.1)).expression k.1.node) ((kid_c 27 e refl (far k.2)).expression k.2.node))
    expr_is w (is_taking e) =
        let k = taking_kids q n w e in
        rw (taking_tree q n w e)
        (of_three ((kid_a 29 e refl (far k.0)).expression k.0.node) ((kid_b 29 e refl (far k.1)).expression k.1.node) ((kid_c 29 e refl (far k.2)).expression k.2.node))
    expr_is w (is_operation o) =
        let k = operation_kids q n w o in
        let t = two_kids (kind_at q n) w.sorted o in
        rw (operation_tree q n w o)
        (of_two (fc.other t.no_third) ((fa.kid t.first_kid (far k.0)).expression k.0.node) ((fb.kid t.second_kid (far k.1)).expression k.1.node))

    signal_is : NodeOf is_signal q n → SignalKind (kind_at q n) → Is (order_s (signal_at q n))
    unfolding order_s fields_of row is_child ◌and◌
    signal_is w (is_input e) = rw (signal_input q n e) (of_none (no_a 1 e refl) (no_b 1 e refl) (no_c 1 e refl))
    signal_is w (is_time e) = rw (signal_time q n e) (of_none (no_a 2 e refl) (no_b 2 e refl) (no_c 2 e refl))
    signal_is w (is_ext e) =
        let k = ext_kid q n w e in
        rw (ext_tree q n w e) (of_one (no_b 3 e refl) (no_c 3 e refl) ((kid_a 3 e refl (far k)).expression k.node))
    signal_is w (is_delay e) =
        let k = delay_kid q n w e in
        rw (delay_tree q n w e) (of_one (no_b 4 e refl) (no_c 4 e refl) ((kid_a 4 e refl (far k)).signal k.node))
    signal_is w (is_let e) =
        let k = let_kids q n w e in
        rw (let_tree q n w e) (of_two (no_c 5 e refl) ((kid_a 5 e refl (far k.0)).signal k.0.node) ((kid_b 5 e refl (far k.1)).signal k.1.node))
    signal_is w (is_switch e) =
        let k = switch_kids q n w e in
        rw (switch_tree q n w e)
        (of_three ((kid_a 6 e refl (far k.0)).signal k.0.node) ((kid_b 6 e refl (far k.1)).signal k.1.node) ((kid_c 6 e refl (far k.2)).signal k.2.node))
    signal_is w (is_group e) =
        let k = group_kids q n w e in
        rw (group_tree q n w e) (of_two (no_c 7 e refl) ((kid_a 7 e refl (far k.0)).signal k.0.node) ((kid_b 7 e refl (far k.1)).branches k.1.node))
    signal_is w (is_until e) =
        let k = until_kids q n w e in
        rw (until_tree q n w e) (of_two (no_c 8 e refl) ((kid_a 8 e refl (far k.0)).signal k.0.node) ((kid_b 8 e refl (far k.1)).cases k.1.node))

    branches_is : NodeOf is_branch q n → Is (order_b (branches_at q n))
    unfolding order_s fields_of row is_child is_branch ◌and◌
    branches_is w =
        let e : kind_at q n ≡ 9 = eqb-true _ _ w.sorted in
        let k = branch_kid q n w in
        let a = (kid_a 9 e refl (far k)).signal k.node in
        choose (b_at q n) 65535
        (λ z. rw (branch_end q n w z) (of_two (no_c 9 e refl) a (resized (sym (fb.stop z)) (none (lo + A)))))
        (λ d. rw (branch_on q n w d) (of_two (no_c 9 e refl) a ((kid_b 9 e refl d).branches (branch_next q n w d).node)))

    cases_is : NodeOf is_case q n → Is (order_c (cases_at q n))
    unfolding order_s fields_of row is_child is_case ◌and◌
    cases_is w =
        let e : kind_at q n ≡ 10 = eqb-true _ _ w.sorted in
        let k = case_kid q n w in
        let a = (kid_a 10 e refl (far k)).signal k.node in
        choose (b_at q n) 65535
        (λ z. rw (case_end q n w z) (of_two (no_c 10 e refl) a (resized (sym (fb.stop z)) (none (lo + A)))))
        (λ d. rw (case_on q n w d) (of_two (no_c 10 e refl) a ((kid_b 10 e refl d).cases (case_next q n w d).node)))

    all_is : Ordered n lo (suc (A + B + C))
    all_is = record {
      expression = λ w. expr_is w (expression_kind (kind_at q n));
      signal = λ w. signal_is w (signal_kind (kind_at q n) w.sorted);
      branches = branches_is;
      cases = cases_is;
    }

  -- By the parts that the table holds.
  as_field : {f g : Field} {x y lo size : ℕ} → f ≡ g → x ≡ y → InField f x lo size → InField g y lo size
  as_field {f} {g} {x} {y} {lo} {size} e z i = subst (λ (h : Field). InField h y lo size) e (subst (λ (m : ℕ). InField f m lo size) z i)

  mutual
    unfolding size_p last_p row_p field_k

    part_ordered : (s : Part) (lo : ℕ) → HoldsP s q lo → RightP s → lo + size_p s ≤ 1008 → Ordered (last_p lo s) lo (size_p s)
    part_ordered (part k t w a b c) lo h r l =
        let node = h.3 in
        let u : lo + suc (size_k a + size_k b + size_k c) ≤ 1008 = l in
        all_is (lo + (size_k a + size_k b + size_k c)) lo (size_k a) (size_k b) (size_k c) refl
        (as_field (ap (λ (k : ℕ). (fields_of k).a) node.kind_is) node.a_is (slot_ordered a lo (fields_of k).a h.0 r.1 (omega arith)))
        (as_field (ap (λ (k : ℕ). (fields_of k).b) node.kind_is) node.b_is (slot_ordered b (lo + size_k a) (fields_of k).b h.1 r.2 (omega arith)))
        (as_field (ap (λ (k : ℕ). (fields_of k).c) node.kind_is) node.c_is (slot_ordered c (lo + size_k a + size_k b) (fields_of k).c h.2 r.3 (omega arith)))

    slot_ordered : (s : Slot) (lo : ℕ) (f : Field) → HoldsK s q lo → RightK s f → lo + size_k s ≤ 1008 → InField f (field_k lo s) lo (size_k s)
    slot_ordered (holds x) lo f h r l = record { kid = λ c d. absurd (no_kid f x r c d); stop = λ e. refl; other = λ e. refl }
    slot_ordered (child s) lo f h r l = record {
      kid = λ c d. part_ordered s lo h r.2 l;
      stop = λ e. absurd (let y : last_p lo s ≡ 65535 = e in let z = last_size lo s in omega arith);
      other = λ e. absurd (not_both (sym e ∙ r.0));
    }

-- The table of a text that is read.
numbered : (e : ℕ) (rest : List Token) (so : Sofar) → Readable e rest so → NumberedSo (blocks_of e so.rows)
unfolding root entry byte_at Along
numbered e rest so r = subst NumberedSo (sym r.table) is_so
  where
    q : Bytes
    q = table_of e r.whole

    all : nodes q ≡ size_p r.whole
    all = nodes_is e r.whole r.right r.few

    formed : Formed q
    formed = table_formed e r.whole r.right r.few r.edition_known

    is_root : NodeOf is_signal q (nodes q - 1)
    is_root = root_signal q formed.length_right (table_shaped e r.whole r.right r.few r.signal) (some_node q formed)

    run : Run 0 (size_p r.whole) (order_s (signal_at q (nodes q - 1)))
    run =
        let z : last_p 0 r.whole ≡ nodes q - 1 = omega (arith, all, last_size 0 r.whole) in
        (subst (λ (n : ℕ). Ordered q n 0 (size_p r.whole)) z (part_ordered q r.whole 0 (table_held e r.whole r.right r.few) r.right (omega (arith, r.few)))).signal is_root

    is_so : NumberedSo q
    is_so =
        same_list (order_s (root q)) (up_from 0 (nodes q)) (run.long ∙ sym all ∙ sym (up_length 0 (nodes q)))
        (λ i h. run.counts i h ∙ sym (up_entry 0 (nodes q) i (omega (arith, run.long, all))))

pub text_numbered : (text : Bytes) (e : ℕ) (rest : List Token) (so : Sofar) → read_text text ≡ got e rest so → NumberedSo (blocks_of e so.rows)
text_numbered text e rest so z = numbered e rest so (yielded (text_yields text) e rest so z)
