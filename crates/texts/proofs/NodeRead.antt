-- Every node that is read has rows that are a right tree of records, of the sort that its field asks for.
-- Assumes nothing.
use Rattle.std.specs.Prelude.{Option, Some, None, ℕ}
use mathlib.Core.Path.{◌≡◌, refl, sym, ap, subst, ◌∙◌}
use mathlib.Core.Bool.{Bool, true, false}
use mathlib.Core.List.{List, [], ◌∷◌}
use mathlib.Core.Logic.{◌⊎◌, inl, inr}
use Prim.Native.Nat.{ℕ, zero, suc, ◌<◌, ◌≤◌}
use native.Mathlib.Omega.{arith}
use lib.Dec.{eqb, ltb}
use borrow.Author.Tests.{ltb-true, le-ltb, ne_eqb, eq-eqb}
use Rattle.rules.specs.Bytes.{Bytes, ◌and◌, ◌or◌}
use Rattle.rules.specs.Layout.{no_next, most_nodes}
use Rattle.rules.specs.Values.{value_fits}
use Rattle.rules.specs.Kinds.{row, is_kind, is_signal, is_branch, is_case, is_expression, fields_of}
use Rattle.rules.specs.Shape.{is_child, may_be, may_stop}
use Rattle.rules.specs.Format.{field_wrong, type_field_wrong}
use Rattle.rules.specs.declared.Field.{Field}
use Rattle.rules.specs.declared.Field.TheVariants.{Unused, Channel, PresentByte, Signal, Expression, FirstBranch, NextBranch, FirstCase, NextCase, Binder, Target}
use Rattle.rules.proofs.Static.{and_both}
use Rattle.rules.proofs.ByKind.{choose}
use Rattle.written.specs.Parts.{Slot, field_k}
use Rattle.written.specs.Right.{Fits, plain, stops, HeadRight}
use Rattle.texts.specs.Tokens.{Token}
use Rattle.texts.specs.Spelled.{same}
use Rattle.texts.specs.Spelling.{open₀, close₀, kind_word, kind_named}
use Rattle.texts.specs.Rows.{Row, Sofar, ◌onward◌}
use Rattle.texts.specs.Resolved.{binder_of, branch_of, record_of}
use Rattle.texts.specs.Steps.{given, Written, is_plain_value, maybe_value}
use Rattle.texts.specs.Reader.{begins, ends, Nodes, Heading, Held, plainly, field, following, behind, form, constant_row, variable_row, bare, wordly, node_f}
use Rattle.texts.specs.declared.Unread.TheVariants.{Word}
use Rattle.texts.proofs.Gives.{false≢true}
use Rattle.texts.proofs.Decimals.{by_test}
use Rattle.texts.proofs.Laid as L
use Rattle.texts.proofs.Whole.{plain_behind, next_behind}
use Rattle.texts.proofs.KindTests.{kind_below, is_target, is_present, is_value, no_target, no_child, value_present, expression_only}
use Rattle.texts.proofs.FromParts.{next_child}
use Rattle.texts.proofs.Yields.{Yields, yields, halts, then_yields, weaker, first_passes, Quiet, quiet_on, next_yields, given_yields, expect_yields, target_yields, channel_yields, plain_shows, maybe_yields}
use Rattle.texts.proofs.HeadRead.{HeadOk, heading_yields, fits_good}
use Rattle.texts.proofs.Grown.{Few, binder_small, branch_small, Slotted, Noded, quiet_slot, child_slot, slot_from, slot_as, node_grown}

-- What a field stands for, when names are looked up.
unfoldable resolved : Field → Held → List Row → ℕ
resolved f h R = elim (is_target f) [ true ↦ branch_of R h.name | false ↦ h.number ]

is_number : (f : Field) (h : Held) (R : List Row) → is_target f ≡ false → resolved f h R ≡ h.number
unfolding resolved
is_number f h R e = rw (e, resolved) refl

is_name_lem : (f : Field) (h : Held) (R : List Row) → is_target f ≡ true → resolved f h R ≡ branch_of R h.name
unfolding resolved
is_name_lem f h R e = rw (e, resolved) refl

same_quiet : (so so₁ : Sofar) → so₁ ≡ so → Quiet so so₁
same_quiet so so₁ e = subst (λ (z : Sofar). Quiet so z) (sym e) (record { rows_same = refl; begun_same = refl; places_same = refl })

-- What a field gives: rows that are right for it; none, unless it is a child's; a present byte as it was brought.
record Field₁ (f : Field) (present : ℕ) (so : Sofar) (h : Held) (so₁ : Sofar) : Type 0 where
  slotted : Slotted f so (resolved f h) so₁
  calm : (is_child f ≡ false) ⊎ (may_stop f ≡ true) → Quiet so so₁
  held : is_child f ≡ false → (R : List Row) → Few R → Fits f (resolved f h R)
  brought : is_present f ≡ true → h.number ≡ present

-- A field without a child.
no_child_field : (f : Field) (present : ℕ) (so so₁ : Sofar) (h : Held) → Quiet so so₁ → ((R : List Row) → Few R → Fits f (resolved f h R)) → (is_present f ≡ true → h.number ≡ present)
    → Field₁ f present so h so₁
no_child_field f present so so₁ h q fits b = record { slotted = quiet_slot q fits; calm = λ c. q; held = λ c. fits; brought = b }

-- A field with one.
child_field : (f : Field) (present : ℕ) (so so₁ : Sofar) (x : ℕ) → is_child f ≡ true → may_stop f ≡ false → is_target f ≡ false → is_present f ≡ false → Noded f so x so₁
    → Field₁ f present so (record { number = x; name = [] }) so₁
child_field f present so so₁ x c no-next no-target₀ no-present₀ n = record {
  slotted = slot_as (child_slot c n) (λ R. sym (is_number f (record { number = x; name = [] }) R no-target₀));
  calm = λ u. absurd (neither u);
  held = λ e. absurd (false≢true (sym e ∙ c));
  brought = λ e. absurd (false≢true (sym no-present₀ ∙ e));
}
  where
    neither : (is_child f ≡ false) ⊎ (may_stop f ≡ true) → ⊥
    neither (inl e) = false≢true (sym e ∙ c)
    neither (inr e) = false≢true (sym no-next ∙ e)

abbrev pub NodeClaim : Nodes → Type 0
NodeClaim read = (f : Field) (ts : List Token) (so : Sofar) → is_child f ≡ true → Yields (λ x rest so₁. Noded f so x so₁) (read f ts so)

still : {so : Sofar} → Quiet so so
still = record { rows_same = refl; begun_same = refl; places_same = refl }

present_alone : (f : Field) → is_present f ≡ true → is_child f ≡ false
unfolding is_present is_child
present_alone Unused e = refl
present_alone Channel e = refl
present_alone PresentByte e = refl
present_alone Signal e = absurd (false≢true e)
present_alone Expression e = absurd (false≢true e)
present_alone FirstBranch e = absurd (false≢true e)
present_alone NextBranch e = absurd (false≢true e)
present_alone FirstCase e = absurd (false≢true e)
present_alone NextCase e = absurd (false≢true e)
present_alone Binder e = refl
present_alone Target e = refl

module _ (read : Nodes) (reads : NodeClaim read) (names : List Bytes) (finish : ℕ) where
  child_reads : (f : Field) (present : ℕ) (ts : List Token) (so : Sofar) → is_child f ≡ true → may_stop f ≡ false → is_target f ≡ false → is_present f ≡ false
      → Yields (λ h rest so₁. Field₁ f present so h so₁) (plainly (read f ts so))
  unfolding plainly
  child_reads f present ts so c n t p = then_yields _ (reads f ts so c) (λ x ts₁ so₁ d. yields (child_field f present so so₁ x c n t p d))

  field_yields : (f : Field) (present : ℕ) (ts : List Token) (so : Sofar) → present ≤ 1 → Yields (λ h rest so₁. Field₁ f present so h so₁) (field read names f present finish ts so)
  unfolding field plainly is_child may_stop is_target is_present field_wrong resolved
  field_yields Unused present ts so l = yields (no_child_field Unused present so so (record { number = 0; name = [] }) still (λ R few. plain refl refl (omega arith)) (λ e. absurd (false≢true e)))
  field_yields Channel present ts so l =
      then_yields _ (channel_yields finish ts so) (λ x ts₁ so₁ p.
      yields (no_child_field Channel present so so₁ (record { number = x; name = [] }) (same_quiet so so₁ p.1)
      (λ R few. plain refl (le-ltb 7 x (let y = p.0 in omega arith)) (let y = p.0 in omega arith)) (λ e. absurd (false≢true e))))
  field_yields PresentByte present ts so l =
      yields (no_child_field PresentByte present so so (record { number = present; name = [] }) still (λ R few. plain refl refl (omega arith)) (λ e. refl))
  field_yields Signal present ts so l = child_reads Signal present ts so refl refl refl refl
  field_yields Expression present ts so l = child_reads Expression present ts so refl refl refl refl
  field_yields FirstBranch present ts so l = child_reads FirstBranch present ts so refl refl refl refl
  field_yields NextBranch present ts so l = yields (no_child_field NextBranch present so so (record { number = no_next; name = [] }) still (λ R few. stops refl refl refl) (λ e. absurd (false≢true e)))
  field_yields FirstCase present ts so l = child_reads FirstCase present ts so refl refl refl refl
  field_yields NextCase present ts so l = yields (no_child_field NextCase present so so (record { number = no_next; name = [] }) still (λ R few. stops refl refl refl) (λ e. absurd (false≢true e)))
  field_yields Binder present ts so l = yields (no_child_field Binder present so so (record { number = 0; name = [] }) still (λ R few. plain refl refl (omega arith)) (λ e. absurd (false≢true e)))
  field_yields Target present ts so l =
      then_yields _ (target_yields names finish ts so) (λ w ts₁ so₁ e.
      yields (no_child_field Target present so so₁ (record { number = 0; name = w }) (same_quiet so so₁ e) (λ R few. plain refl refl (branch_small R w few)) (λ u. absurd (false≢true u))))

  -- The next of a list, behind the parentheses.
  stop_slot : (f : Field) (so : Sofar) → may_stop f ≡ true → Slotted f so (λ R. no_next) so
  stop_slot f so e = quiet_slot still (λ R few. stops (next_child f e) e refl)

  following_yields : (f : Field) (ts : List Token) (so : Sofar) → may_stop f ≡ true → Yields (λ x rest so₁. Slotted f so (λ R. x) so₁) (following read f ts so)
  unfolding following
  following_yields f [] so e = weaker (reads f [] so (next_child f e)) (λ x ts₁ so₁ n. child_slot (next_child f e) n)
  following_yields f (t ∷ ts) so e =
      by_test (same t.word close₀)
      (λ u. rw (u, following) (yields (stop_slot f so e)))
      (λ u. rw (u, following) (weaker (reads f (t ∷ ts) so (next_child f e)) (λ x ts₁ so₁ n. child_slot (next_child f e) n)))

  -- A node of a kind with a word, behind its fields.
  module _ (f : Field) (k : ℕ) (kind : is_kind k ≡ true) (may : may_be f k ≡ true) (at : ℕ) (so so₀ so₁ so₂ so₃ so₄ : Sofar)
      (begun : so₀.begun ≡ suc so.begun) (rows : so₀.rows ≡ so.rows) (least : so₀.begun ≤ 1008)
      (h : Heading) (ok : HeadOk (fields_of k).ty h) (q₁ : Quiet so₀ so₁)
      (a b c : Held) (A : Field₁ (fields_of k).a h.present so₁ a so₂) (B : Field₁ (fields_of k).b h.present so₂ b so₃) (C : Field₁ (fields_of k).c h.present so₃ c so₄) where
    abbrev row_of : ℕ → Row
    row_of x = record { kind = k; type = h.type; a = a.number; b = x; c = c.number; word = h.word; binds = h.binds; label = h.label; uses = c.name }

    abbrev va : List Row → ℕ
    va R = elim (eqb k 16) [ true ↦ binder_of R c.name | false ↦ a.number ]

    abbrev vc : List Row → ℕ
    vc R = elim (eqb k 10) [ true ↦ branch_of R c.name | false ↦ c.number ]

    below : k < 30
    below = kind_below k kind

    by_name : (x y : ℕ) (t : Bool) → t ≡ true → (elim t [ true ↦ x | false ↦ y ]) ≡ x
    by_name x y t e = rw e refl

    by_number : (x y : ℕ) (t : Bool) → t ≡ false → (elim t [ true ↦ x | false ↦ y ]) ≡ y
    by_number x y t e = rw e refl

    a_binder : k ≡ 16 → Slotted (fields_of k).a so₁ va so₂
    unfolding fields_of row is_child field_wrong
    a_binder e =
        let is : (fields_of k).a ≡ Binder = ap (λ (x : ℕ). (fields_of x).a) e in
        quiet_slot (A.calm (inl (ap is_child is)))
        (λ R few. subst (λ (g : Field). Fits g (va R)) (sym is) (plain refl refl (let z : va R ≡ binder_of R c.name = by_name _ _ (eqb k 16) (eq-eqb k 16 e) in let l = binder_small R c.name few in omega arith)))

    a_slot : Slotted (fields_of k).a so₁ va so₂
    a_slot =
        choose k 16 a_binder λ d.
        slot_as A.slotted (λ R. is_number (fields_of k).a a R (no_target k below).0 ∙ sym (by_number _ _ (eqb k 16) (ne_eqb k 16 d)))

    c_value : (R : List Row) → resolved (fields_of k).c c R ≡ vc R
    unfolding fields_of row is_target
    c_value R =
        choose k 10
        (λ e. is_name_lem (fields_of k).c c R (ap (λ (x : ℕ). is_target (fields_of x).c) e) ∙ sym (by_name _ _ (eqb k 10) (eq-eqb k 10 e)))
        (λ d. is_number (fields_of k).c c R ((no_target k below).2 d) ∙ sym (by_number _ _ (eqb k 10) (ne_eqb k 10 d)))

    head_right : (slot : Slot) → (is_value (fields_of k).ty ≡ true → (lo : ℕ) → field_k lo slot ≡ h.present) → HeadRight k h.type h.word slot
    head_right slot e = record {
      kind_right = kind;
      kind_small = (let l = below in omega arith);
      type_right = λ lo. ok.right (field_k lo slot) (λ u. e u lo);
      type_small = ok.type_small;
      word_small = ok.word_small;
    }

    -- A node without a next.
    behind_plain : (ts : List Token) → Yields (λ x rest so₅. Noded f so x so₅) (ends at (row_of b.number) ts so₄)
    unfolding record_of
    behind_plain ts =
        let sb : Slotted (fields_of k).b so₂ (λ R. b.number) so₃ = slot_as B.slotted (λ R. is_number (fields_of k).b b R (no_target k below).1) in
        node_grown f so so₀ so₂ so₃ so₄ k at (row_of b.number) va (λ R. b.number) vc begun rows least (slot_from q₁ a_slot) sb (slot_as C.slotted c_value)
        (λ R few. head_right (sb.slot R) (λ u lo.
        let p = value_present k below u in sb.flat (present_alone (fields_of k).b p) R lo ∙ B.brought p)) may (λ R. refl) ts

    -- A branch or a case, whose next is read behind it.
    b_next : (some : may_stop (fields_of k).b ≡ true) (x : ℕ) (so₅ so₆ : Sofar) → Quiet so₄ so₅ → Slotted (fields_of k).b so₅ (λ R. x) so₆ → (ts : List Token)
        → Yields (λ y rest so₇. Noded f so y so₇) (ends at (row_of x) ts so₆)
    unfolding record_of
    b_next some x so₅ so₆ q d ts =
        let alone = no_child k below some in
        let q₂ = quiet_on so₂ so₃ so₅ (B.calm (inr some)) (quiet_on so₃ so₄ so₅ (C.calm (inl alone)) q) in
        let sb = slot_from q₂ d in
        node_grown f so so₀ so₂ so₆ so₆ k at (row_of x) va (λ R. x) vc begun rows least (slot_from q₁ a_slot) sb
        (quiet_slot still (λ R few. subst (Fits (fields_of k).c) (c_value R) (C.held alone R few)))
        (λ R few. head_right (sb.slot R) (λ u lo. absurd (false≢true (sym (present_alone (fields_of k).b (value_present k below u)) ∙ next_child (fields_of k).b some)))) may (λ R. refl) ts

    -- Its row, behind the parentheses.
    behind_yields : (ts : List Token) → Yields (λ x rest so₅. Noded f so x so₅) (behind read (fields_of k).b b.number ts so₄ onward (λ x ts so. ends at (row_of x) ts so))
    unfolding ◌onward◌
    behind_yields ts =
        by_test (may_stop (fields_of k).b)
        (λ some. rw (next_behind (fields_of k).b some read b.number ts so₄)
        (then_yields _ (following_yields (fields_of k).b ts so₄ some) (λ x ts₁ so₅ d. b_next some x so₄ so₅ still d ts₁)))
        (λ none. rw (plain_behind (fields_of k).b none read b.number ts so₄) (behind_plain ts))

  module _ (f : Field) (k : ℕ) (kind : is_kind k ≡ true) (may : may_be f k ≡ true) (at : ℕ) (so so₀ : Sofar)
      (begun : so₀.begun ≡ suc so.begun) (rows : so₀.rows ≡ so.rows) (least : so₀.begun ≤ 1008) where
    form_yields : (ts : List Token) → Yields (λ x rest so₁. Noded f so x so₁) (form read names finish at k ts so₀)
    unfolding form
    form_yields ts =
        then_yields _ (heading_yields k finish ts so₀) (λ h ts₁ so₁ p.
        then_yields _ (field_yields (fields_of k).a h.present ts₁ so₁ p.0.present_small) (λ a ts₂ so₂ A.
        then_yields _ (field_yields (fields_of k).b h.present ts₂ so₂ p.0.present_small) (λ b ts₃ so₃ B.
        then_yields _ (field_yields (fields_of k).c h.present ts₃ so₃ p.0.present_small) (λ c ts₄ so₄ C.
        then_yields _ (expect_yields close₀ finish ts₄ so₄) (λ u ts₅ so₅ e.
        subst (λ (z : Sofar). Yields (λ x rest so₆. Noded f so x so₆) (behind read (fields_of k).b b.number ts₅ z onward (λ x ts so. ends at
        (record { kind = k; type = h.type; a = a.number; b = x; c = c.number; word = h.word; binds = h.binds; label = h.label; uses = c.name }) ts so))) (sym e)
        (behind_yields f k kind may at so so₀ so₁ so₂ so₃ so₄ begun rows least h p.0 p.1 a b c A B C ts₅))))))

-- A node that is one word or a value.
module _ (f : Field) (may16 : may_be f 16 ≡ true) (may17 : may_be f 17 ≡ true) (at : ℕ) (so so₀ : Sofar)
    (begun : so₀.begun ≡ suc so.begun) (rows : so₀.rows ≡ so.rows) (least : so₀.begun ≤ 1008) where
  zero_fits : (v : List Row → ℕ) → ((R : List Row) → v R ≡ 0) → (R : List Row) → Few R → Fits Unused (v R)
  unfolding is_child field_wrong
  zero_fits v e R few = subst (Fits Unused) (sym (e R)) (plain refl refl (omega arith))

  constant_yields : (v : Written) → L.Fits v.type v.present v.word → (ts : List Token) → Yields (λ x rest so₁. Noded f so x so₁) (ends at (constant_row v) ts so₀)
  unfolding constant_row record_of fields_of row is_kind is_signal is_branch is_case is_expression is_child field_wrong type_field_wrong ◌and◌ ◌or◌
  constant_yields v fits ts =
      let g = fits_good fits in
      let sb : Slotted PresentByte so₀ (λ R. v.present) so₀ = quiet_slot still (λ R few. plain refl refl (let l = g.present_small in omega arith)) in
      node_grown f so so₀ so₀ so₀ so₀ 17 at (constant_row v) (λ R. 0) (λ R. v.present) (λ R. 0) begun rows least
      (quiet_slot still (zero_fits (λ R. 0) (λ R. refl))) sb (quiet_slot still (zero_fits (λ R. 0) (λ R. refl)))
      (λ R few. record {
        kind_right = refl;
        kind_small = omega arith;
        type_right = λ lo. rw (g.is_a_type, ap (λ (x : ℕ). value_fits v.type x v.word) (sb.flat refl R lo) ∙ g.fits) refl;
        type_small = g.type_small;
        word_small = g.word_small;
      })
      may17 (λ R. refl) ts

  variable_yields₀ : (w : Bytes) (ts : List Token) → Yields (λ x rest so₁. Noded f so x so₁) (ends at (variable_row w) ts so₀)
  unfolding variable_row record_of fields_of row is_kind is_signal is_branch is_case is_expression is_child field_wrong type_field_wrong field_k ◌and◌ ◌or◌
  variable_yields₀ w ts =
      node_grown f so so₀ so₀ so₀ so₀ 16 at (variable_row w) (λ R. binder_of R w) (λ R. 0) (λ R. 0) begun rows least
      (quiet_slot still (λ R few. plain refl refl (binder_small R w few))) (quiet_slot still (zero_fits (λ R. 0) (λ R. refl))) (quiet_slot still (zero_fits (λ R. 0) (λ R. refl)))
      (λ R few. record { kind_right = refl; kind_small = omega arith; type_right = λ lo. refl; type_small = omega arith; word_small = omega arith })
      may16 (λ R. refl) ts

-- A field that may hold a constant may hold a variable; a child's kind is a kind.
may_variable : (f : Field) → is_child f ≡ true → may_be f 17 ≡ true → may_be f 16 ≡ true
unfolding may_be is_expression ◌and◌
may_variable f c m = ap (λ (g : Field). may_be g 16) (expression_only f c 17 (inr refl) m)

or_left : (a b : Bool) → a ≡ true → (a or b) ≡ true
unfolding ◌or◌
or_left a b e = rw e refl

or_right : (a b : Bool) → b ≡ true → (a or b) ≡ true
unfolding ◌or◌
or_right true b e = refl
or_right false b e = e

is_a_kind : (f : Field) (k : ℕ) → is_child f ≡ true → may_be f k ≡ true → is_kind k ≡ true
unfolding is_child may_be is_kind
is_a_kind Unused k c m = absurd (false≢true c)
is_a_kind Channel k c m = absurd (false≢true c)
is_a_kind PresentByte k c m = absurd (false≢true c)
is_a_kind Signal k c m = or_left _ _ (or_left _ _ (or_left _ _ m))
is_a_kind Expression k c m = or_right (is_signal k or is_branch k or is_case k) _ m
is_a_kind FirstBranch k c m = or_left _ _ (or_left _ _ (or_right (is_signal k) _ m))
is_a_kind NextBranch k c m = or_left _ _ (or_left _ _ (or_right (is_signal k) _ m))
is_a_kind FirstCase k c m = or_left _ _ (or_right (is_signal k or is_branch k) _ m)
is_a_kind NextCase k c m = or_left _ _ (or_right (is_signal k or is_branch k) _ m)
is_a_kind Binder k c m = absurd (false≢true c)
is_a_kind Target k c m = absurd (false≢true c)

named_may : (f : Field) (w : Bytes) (k : ℕ) → kind_named f w ≡ Some k → may_be f k ≡ true
unfolding kind_named
named_may f w k e = (and_both (may_be f k) (same w (kind_word k)) (first_passes (λ k. may_be f k and same w (kind_word k)) 30 k e).0).0

-- A node that has begun.
record Begun (so so₀ : Sofar) : Type 0 where
  begun : so₀.begun ≡ suc so.begun
  rows : so₀.rows ≡ so.rows
  least : so₀.begun ≤ 1008

begins_yields : (finish : ℕ) (ts : List Token) (so : Sofar) → Yields (λ u rest so₀. Begun so so₀) (begins finish ts so)
unfolding begins
begins_yields finish ts so =
    by_test (ltb so.begun most_nodes)
    (λ t. rw (t, begins) (yields (record { begun = refl; rows = refl; least = ltb-true so.begun 1008 t })))
    (λ t. rw (t, begins) halts)

begun_same : {so so₀ so₁ : Sofar} → Begun so so₀ → so₁ ≡ so₀ → Begun so so₁
begun_same {so} {so₀} {so₁} b e = subst (λ (z : Sofar). Begun so z) (sym e) b

bare_yields : (f : Field) → is_child f ≡ true → may_be f 17 ≡ true → (t : Token) (finish : ℕ) (ts : List Token) (so so₀ : Sofar) → Begun so so₀
    → Yields (λ x rest so₁. Noded f so x so₁) (bare t finish ts so₀)
unfolding bare
bare_yields f c m t finish ts so so₀ b =
    let m₁ = may_variable f c m in
    by_test (is_plain_value t.word)
    (λ u. rw (u, bare) (then_yields _ (plain_shows t finish ts so₀) (λ v ts₁ so₁ p.
    let d = begun_same b p.1 in constant_yields f m₁ m t.at so so₁ d.begun d.rows d.least v p.0 ts₁)))
    (λ u. rw (u, bare) (then_yields _ (given_yields _ _ ts so₀) (λ x ts₁ so₁ g. then_yields _ (given_yields _ _ ts₁ so₁) (λ y ts₂ so₂ h.
    let d = begun_same b (h.1 ∙ g.1) in variable_yields₀ f m₁ m t.at so so₂ d.begun d.rows d.least t.word ts₂))))

module _ (read : Nodes) (reads : NodeClaim read) (names : List Bytes) (finish : ℕ) (f : Field) (c : is_child f ≡ true) (at : ℕ) (u : Token) (so so₀ : Sofar) (b : Begun so so₀) where
  by_word : (x : Option ℕ) → kind_named f u.word ≡ x → (ts : List Token) → Yields (λ y rest so₁. Noded f so y so₁)
      (elim x [
        | Some k ↦ form read names finish at k ts so₀
        | None ↦ given (may_be f 17) (Word u.at) ts so₀ onward λ _ ts so. maybe_value u finish ts so onward λ v ts so. ends at (constant_row v) ts so
      ])
  by_word (Some k) e ts =
      let m = named_may f u.word k e in
      form_yields read reads names finish f k (is_a_kind f k c m) m at so so₀ b.begun b.rows b.least ts
  by_word None e ts =
      then_yields _ (given_yields _ _ ts so₀) (λ x ts₁ so₁ g.
      then_yields _ (maybe_yields u finish ts₁ so₁) (λ v ts₂ so₂ p.
      let d = begun_same b (p.1 ∙ g.1) in
      constant_yields f (may_variable f c g.0) g.0 at so so₂ d.begun d.rows d.least v p.0 ts₂))

  wordly_yields : (ts : List Token) → Yields (λ y rest so₁. Noded f so y so₁) (wordly read names finish f at u ts so₀)
  unfolding wordly
  wordly_yields ts = by_word (kind_named f u.word) refl ts

pub node_yields : (g : ℕ) (names : List Bytes) (finish : ℕ) → NodeClaim (node_f g names finish)
unfolding node_f
node_yields zero names finish f ts so c = halts
node_yields (suc g) names finish f ts so c =
    then_yields _ (begins_yields finish ts so) (λ x ts₁ so₁ b.
    then_yields _ (next_yields finish ts₁ so₁) (λ t ts₂ so₂ e.
    let b₁ = begun_same b e in
    by_test (same t.word open₀)
    (λ u. rw u (then_yields _ (next_yields finish ts₂ so₂) (λ w ts₃ so₃ d.
    wordly_yields (node_f g names finish) (node_yields g names finish) names finish f c t.at w so so₃ (begun_same b₁ d) ts₃)))
    (λ u. rw u (then_yields _ (given_yields _ _ ts₂ so₂) (λ w ts₃ so₃ m. bare_yields f c m.0 t finish ts₃ so so₃ (begun_same b₁ m.1))))))
