-- The rows that are read of a printed table are its records again, and their blocks the table.
-- Assumes nothing.
use mathlib.Core.Path.{◌≡◌, refl, sym, ap, subst, ◌∙◌}
use mathlib.Core.Bool.{true, false}
use mathlib.Core.List.{List, [], ◌∷◌, ◌++◌, map, append_assoc, append-nil}
use Prim.Native.Nat.{ℕ, zero, suc, ◌+◌, ◌<◌, ◌≤◌}
use native.Mathlib.Omega.{arith}
use lib.Dec.{eqb, ltb}
use borrow.Author.Tests.{ltb-true, ltb-false, eqb-true, eqb-false, ne_eqb}
use Rattle.rules.specs.Bytes.{Bytes, ◌or◌}
use Rattle.rules.specs.Layout.{kind_at, a_at, c_at}
use Rattle.rules.specs.Kinds.{row, is_kind, fields_of}
use Rattle.rules.specs.Node.{IsNode}
use Rattle.rules.specs.declared.Node.{Node}
use Rattle.rules.specs.declared.Field.{Field}
use Rattle.rules.specs.declared.TypeField.{TypeField}
use Rattle.rules.specs.declared.TypeField.TheVariants.{NoType, AnyType, PlainType, ValueType}
use Rattle.rules.proofs.ByKind.{choose}
use Rattle.written.specs.Parts.{Part, part, Slot, holds, child, size_p, size_k, row_p, rows_p, rows_k}
use Rattle.written.specs.Table.{rows_bytes, blocks_from, blocks_for, table_of}
use Rattle.written.specs.Right.{HoldsP, HoldsK}
use Rattle.written.proofs.Rows.{rows_p_length}
use Rattle.texts.specs.Rows.{Row}
use Rattle.texts.specs.Resolved.{record_of, table_from, blocks_of}
use Rattle.texts.specs.Printer.{variable_name}
use Rattle.texts.proofs.Gives.{false≢true}
use Rattle.texts.proofs.Decimals.{by_test}
use Rattle.texts.proofs.Laid.{Opens, opened_by, Laid, variable_laid, constant_laid, form_laid, Kid, unused_kid, channel_kid, present_kid, signal_kid, expression_kid, first_branch_kid, first_case_kid, next_branch_kid, next_case_kid, target_kid, After, none_after, last_after, next_after}
use Rattle.texts.proofs.NodeLaws.{binds_of, row_as, row_of, first_rows}
use Rattle.texts.proofs.Named.{map_join, record_in, variable_record, case_record, other_record}
use Rattle.texts.proofs.KindTests.{kind_below, is_target, lists_last, no_target}
use Rattle.texts.proofs.FromParts.{list_next, inner_same}

-- A variable's binder is a node that binds its own name; a case's target is a branch.
pub record Fit (q : Bytes) (N m : ℕ) : Type 0 where
  pub of_variable : kind_at q m ≡ 16 → (a_at q m < N) × ((row_of q (a_at q m)).binds ≡ variable_name (a_at q m))
  pub of_case : kind_at q m ≡ 10 → (c_at q m < N) × (eqb (kind_at q (c_at q m)) 9 ≡ true)

abbrev Binds : Bytes → ℕ → Opens → Type 0
Binds q N opens = (m : ℕ) → opens m ≡ true → (m < N) × ((row_of q m).binds ≡ variable_name m)

module _ (q : Bytes) (N : ℕ) where
  own_name : (k n : ℕ) → kind_at q n ≡ k → eqb k 17 ≡ false → (row_of q n).binds ≡ binds_of (fields_of k).ty n
  unfolding row_of row_as
  own_name k n is e = ap (λ (x : ℕ). (row_as x q n).binds) is ∙ rw (e, row_as) refl

  binds_own : (n : ℕ) (opens : Opens) → n < N → (row_of q n).binds ≡ variable_name n → Binds q N opens → Binds q N (λ m. eqb m n or opens m)
  unfolding ◌or◌
  binds_own n opens l own h m e =
      by_test (eqb m n)
      (λ t. let z = eqb-true m n t in (omega (arith, z), ap (λ (x : ℕ). (row_of q x).binds) z ∙ own ∙ ap variable_name (sym z)))
      (λ t. h m (rw t at e))

  binds_more : (ty : TypeField) (n : ℕ) (opens : Opens) → n < N → (row_of q n).binds ≡ binds_of ty n → Binds q N opens → Binds q N (opened_by ty n opens)
  unfolding opened_by binds_of
  binds_more NoType n opens l own h = h
  binds_more AnyType n opens l own h = binds_own n opens l own h
  binds_more PlainType n opens l own h = binds_own n opens l own h
  binds_more ValueType n opens l own h = h

  kid_target : {targets opens : Opens} {f : Field} {n x p i j : ℕ} → Kid q targets opens f n x p i j → is_target f ≡ true → targets x ≡ true
  unfolding is_target
  kid_target (unused_kid e₀) e = absurd (false≢true e)
  kid_target (channel_kid l₀) e = absurd (false≢true e)
  kid_target (present_kid e₀) e = absurd (false≢true e)
  kid_target (signal_kid l₀ t) e = absurd (false≢true e)
  kid_target (expression_kid l₀ t) e = absurd (false≢true e)
  kid_target (first_branch_kid l₀ t) e = absurd (false≢true e)
  kid_target (first_case_kid l₀ t) e = absurd (false≢true e)
  kid_target next_branch_kid e = absurd (false≢true e)
  kid_target next_case_kid e = absurd (false≢true e)
  kid_target (target_kid e₀) e = e₀

  module _ (targets : Opens) (aimed : (m : ℕ) → targets m ≡ true → (m < N) × (eqb (kind_at q m) 9 ≡ true)) where
    abbrev From : ℕ → ℕ → Type 0
    From i j = (m : ℕ) → i ≤ m → m < j → Fit q N m

    none : (i : ℕ) → From i i
    none i m h l = absurd (omega arith)

    last_one : (m n : ℕ) → m < suc n → (m ≡ n → ⊥) → m < n
    last_one m n h d = omega arith

    variable_fit : (n : ℕ) (opens : Opens) → kind_at q n ≡ 16 → opens (a_at q n) ≡ true → Binds q N opens → From n (suc n)
    variable_fit n opens is o g m h l =
        let z : n ≡ m = omega arith in
        subst (Fit q N) z (record { of_variable = λ e. g (a_at q n) o; of_case = λ e. absurd (no_both (sym is ∙ e)) })
      where
        no_both : ◌≡◌ {A = ℕ} 16 10 → ⊥
        no_both e = omega (arith, e)

    constant_fit : (n : ℕ) → kind_at q n ≡ 17 → From n (suc n)
    constant_fit n is m h l =
        let z : n ≡ m = omega arith in
        subst (Fit q N) z (record { of_variable = λ e. absurd (no_16 (sym is ∙ e)); of_case = λ e. absurd (no_10 (sym is ∙ e)) })
      where
        no_16 : ◌≡◌ {A = ℕ} 17 16 → ⊥
        no_16 e = omega (arith, e)

        no_10 : ◌≡◌ {A = ℕ} 17 10 → ⊥
        no_10 e = omega (arith, e)

    form_fit : (i i₁ i₂ i₃ n k : ℕ) → kind_at q n ≡ k → eqb k 16 ≡ false → (is_target (fields_of k).c ≡ true → targets (c_at q n) ≡ true)
        → From i i₁ → From i₁ i₂ → From i₂ i₃ → From i₃ n → From i (suc n)
    unfolding fields_of row is_target
    form_fit i i₁ i₂ i₃ n k is e₁ t ka kb kc kd m h l =
        by_test (eqb m n)
        (λ e. subst (Fit q N) (sym (eqb-true m n e))
        (record {
          of_variable = λ z. absurd (eqb-false k 16 e₁ (sym is ∙ z));
          of_case = λ z. aimed (c_at q n) (t (ap (λ (x : ℕ). is_target (fields_of x).c) (sym is ∙ z)));
        }))
        (λ e.
        by_test (ltb m i₁) (λ u. ka m h (ltb-true m i₁ u)) (λ u.
        by_test (ltb m i₂) (λ v. kb m (ltb-false m i₁ u) (ltb-true m i₂ v)) (λ v.
        by_test (ltb m i₃) (λ w. kc m (ltb-false m i₂ v) (ltb-true m i₃ w)) (λ w.
        kd m (ltb-false m i₃ w) (last_one m n l (eqb-false m n e))))))

    mutual
      pub node_fit : {opens : Opens} {f : Field} {i n : ℕ} → Laid q targets opens f i n → n < N → Binds q N opens → From i (suc n)
      node_fit {opens} {f} {i} {n} (variable_laid is o l e₁ e₂ e₃ e₄) r g = variable_fit n opens is o g
      node_fit {opens} {f} {i} {n} (constant_laid is fits e₁ e₂) r g = constant_fit n is
      node_fit {opens} {f} {i} {n} (form_laid k is e₁ e₂ named w lists in_List head ka kb kc kd) r g =
          form_fit i _ _ _ n k is e₁ (kid_target kc)
          (kid_fit ka r (binds_more (fields_of k).ty n opens r (own_name k n is e₂) g))
          (kid_fit kb r (binds_more (fields_of k).ty n opens r (own_name k n is e₂) g))
          (kid_fit kc r (binds_more (fields_of k).ty n opens r (own_name k n is e₂) g)) (after_fit kd r g)

      kid_fit : {opens : Opens} {f : Field} {n x p i j : ℕ} → Kid q targets opens f n x p i j → n < N → Binds q N opens → From i j
      kid_fit {opens} {f} {n} {x} {p} {i} {j} (unused_kid e₀) r g = none i
      kid_fit {opens} {f} {n} {x} {p} {i} {j} (channel_kid l₀) r g = none i
      kid_fit {opens} {f} {n} {x} {p} {i} {j} (present_kid e₀) r g = none i
      kid_fit {opens} {f} {n} {x} {p} {i} {j} (signal_kid l₀ t) r g = node_fit t (omega arith) g
      kid_fit {opens} {f} {n} {x} {p} {i} {j} (expression_kid l₀ t) r g = node_fit t (omega arith) g
      kid_fit {opens} {f} {n} {x} {p} {i} {j} (first_branch_kid l₀ t) r g = node_fit t (omega arith) g
      kid_fit {opens} {f} {n} {x} {p} {i} {j} (first_case_kid l₀ t) r g = node_fit t (omega arith) g
      kid_fit {opens} {f} {n} {x} {p} {i} {j} next_branch_kid r g = none i
      kid_fit {opens} {f} {n} {x} {p} {i} {j} next_case_kid r g = none i
      kid_fit {opens} {f} {n} {x} {p} {i} {j} (target_kid e₀) r g = none i

      after_fit : {opens : Opens} {f : Field} {n x i j : ℕ} → After q targets opens f n x i j → n < N → Binds q N opens → From i j
      after_fit {opens} {f} {n} {x} {i} {j} (none_after e₀ u) r g = none i
      after_fit {opens} {f} {n} {x} {i} {j} (last_after e₀ u) r g = none i
      after_fit {opens} {f} {n} {x} {i} {j} (next_after e₀ l₀ t) r g = node_fit t (omega arith) g

  -- Each row is the record again.
  record_again : N ≤ 1008 → (m : ℕ) → is_kind (kind_at q m) ≡ true → Fit q N m → record_of (first_rows q N) (row_of q m) ≡ record_in q m
  unfolding record_in
  record_again l m is fit =
      choose (kind_at q m) 16 (λ e. let v = fit.of_variable e in variable_record q N m l e v.0 v.1) λ d16.
      choose (kind_at q m) 10 (λ e. let v = fit.of_case e in case_record q N m l e v.0 v.1) λ d10.
      let k = kind_at q m in
      let below = kind_below k is in
      other_record q (first_rows q N) m (ne_eqb k 16 d16) (ne_eqb k 10 d10)
      (inner_same (fields_of k).a (a_at q m) (list_next (fields_of k).a (lists_last k below).a_none) (no_target k below).0)
      (inner_same (fields_of k).c (c_at q m) (list_next (fields_of k).c (lists_last k below).c_none) ((no_target k below).2 d10))

  -- The records of a table below a number.
  unfoldable records_to : ℕ → List Node
  records_to zero = []
  records_to (suc i) = records_to i ++ record_in q i ∷ []

  rows_again : (g : Row → Node) (i : ℕ) → ((m : ℕ) → m < i → g (row_of q m) ≡ record_in q m) → map g (first_rows q i) ≡ records_to i
  unfolding first_rows records_to
  rows_again g zero h = refl
  rows_again g (suc i) h =
      map_join g (first_rows q i) (row_of q i ∷ [])
      ∙ ap {B = List Node} (λ (zs : List Node). zs ++ g (row_of q i) ∷ []) (rows_again g i (λ m l. h m (omega arith)))
      ∙ ap {B = List Node} (λ (x : Node). records_to i ++ x ∷ []) (h i (omega arith))

  -- A table that holds a part's records has them so.
  is_record : (n : ℕ) (r : Node) → IsNode q n r → r ≡ record_in q n
  unfolding record_in
  is_record n r h = λ j. record { kind = h.kind_is j; ty = h.type_is j; a = h.a_is j; b = h.b_is j; c = h.c_is j; word = h.word_is j }

  mutual
    unfolding rows_p size_p records_to

    part_records : (p : Part) (lo : ℕ) → HoldsP p q lo → records_to lo ++ rows_p p lo ≡ records_to (lo + size_p p)
    part_records (part k t w a b c) lo h =
        let A = rows_k a lo in
        let B = rows_k b (lo + size_k a) in
        let C = rows_k c (lo + size_k a + size_k b) in
        let n = lo + (size_k a + size_k b + size_k c) in
        let R = row_p lo (part k t w a b c) ∷ [] in
        let z : lo + size_k a + size_k b + size_k c ≡ n = omega arith in
        let y : suc n ≡ lo + suc (size_k a + size_k b + size_k c) = omega arith in
        sym (append_assoc (records_to lo) A (B ++ (C ++ R)))
        ∙ ap {B = List Node} (λ (s : List Node). s ++ (B ++ (C ++ R))) (slot_records a lo h.0)
        ∙ sym (append_assoc (records_to (lo + size_k a)) B (C ++ R))
        ∙ ap {B = List Node} (λ (s : List Node). s ++ (C ++ R)) (slot_records b (lo + size_k a) h.1)
        ∙ sym (append_assoc (records_to (lo + size_k a + size_k b)) C R)
        ∙ ap {B = List Node} (λ (s : List Node). s ++ R) (slot_records c (lo + size_k a + size_k b) h.2)
        ∙ ap {B = List Node} (λ (x : ℕ). records_to x ++ R) z
        ∙ ap {B = List Node} (λ (x : Node). records_to n ++ x ∷ []) (is_record n _ h.3)
        ∙ ap records_to y

    slot_records : (s : Slot) (lo : ℕ) → HoldsK s q lo → records_to lo ++ rows_k s lo ≡ records_to (lo + size_k s)
    slot_records (holds x) lo h = append-nil (records_to lo) ∙ ap records_to (let z : lo ≡ lo + 0 = omega arith in z)
    slot_records (child p) lo h = part_records p lo h

-- The blocks of the rows are the table.
pub blocks_again : (q : Bytes) (targets : Opens) (e : ℕ) (p : Part) (n : ℕ) → size_p p ≡ suc n → n < 1008 → HoldsP p q 0 → table_of e p ≡ q
    → ((m : ℕ) → m < suc n → is_kind (kind_at q m) ≡ true) → ((m : ℕ) → targets m ≡ true → (m < suc n) × (eqb (kind_at q m) 9 ≡ true))
    → Laid q targets (λ m. false) Field.Signal 0 n → blocks_of e (first_rows q (suc n)) ≡ q
unfolding blocks_of table_from table_of records_to
blocks_again q targets e p n size l held is kinds aimed laid₀ =
    let N = suc n in
    let fit = node_fit q N targets aimed laid₀ (omega arith) (λ m o. absurd (false≢true o)) in
    let same : map (record_of (first_rows q N)) (first_rows q N) ≡ rows_p p 0
    = rows_again q N (record_of (first_rows q N)) N (λ m h. record_again q N (omega arith) m (kinds m h) (fit m (omega arith) h))
    ∙ ap (records_to q N) (let z : N ≡ 0 + size_p p = omega arith in z) ∙ sym (part_records q N p 0 held) in
    ap (table_from e) same ∙ ap (λ (x : ℕ). blocks_from (blocks_for x) e (blocks_for x) 0 (rows_bytes (rows_p p 0))) (rows_p_length p 0) ∙ is
