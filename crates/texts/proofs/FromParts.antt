-- A table that holds the records of a part, children first, is laid out well, if each variable's binder is open above it and each target is one.
-- Assumes nothing.
use mathlib.Core.Path.{◌≡◌, refl, sym, ap, subst, ◌∙◌}
use mathlib.Core.Bool.{true, false}
use mathlib.Core.Logic.{◌⊎◌, inl, inr}
use Prim.Native.Nat.{ℕ, suc, ◌+◌, ◌<◌, ◌≤◌}
use native.Mathlib.Omega.{arith}
use lib.Dec.{eqb}
use borrow.Author.Tests.{eqb-true, ltb-false, ne_eqb}
use Rattle.rules.specs.Bytes.{Bytes}
use Rattle.rules.specs.Layout.{kind_at, type_at, a_at, b_at, c_at, word_at, most_nodes}
use Rattle.rules.specs.Kinds.{row, fields_of}
use Rattle.rules.specs.Shape.{is_child, may_be, may_stop}
use Rattle.rules.specs.Format.{field_wrong, type_field_wrong}
use Rattle.rules.specs.declared.Field.{Field}
use Rattle.rules.specs.declared.Field.TheVariants.{Unused, Channel, PresentByte, Signal, Expression, FirstBranch, NextBranch, FirstCase, NextCase, Binder, Target}
use Rattle.rules.specs.declared.TypeField.{TypeField}
use Rattle.rules.specs.declared.TypeField.TheVariants.{NoType, AnyType, PlainType, ValueType}
use Rattle.rules.proofs.Static.{and_both}
use Rattle.rules.proofs.Kids.{not_not}
use Rattle.rules.proofs.ByKind.{choose}
use Rattle.written.specs.Parts.{Part, part, Slot, holds, child, size_p, size_k, last_p, field_k, row_p}
use Rattle.written.specs.Right.{kind_p, plain, stops, RightP, RightK, HoldsP, HoldsK}
use Rattle.written.proofs.Rows.{last_size}
use Rattle.texts.proofs.Gives.{false≢true}
use Rattle.texts.proofs.Decimals.{by_test}
use Rattle.texts.proofs.Laid as L
use Rattle.texts.proofs.Laid.{Opens, opened_by, present_of, inner_of, Laid, variable_laid, constant_laid, form_laid, Kid, unused_kid, channel_kid, present_kid, signal_kid, expression_kid, first_branch_kid, first_case_kid, next_branch_kid, next_case_kid, target_kid, After, none_after, last_after, next_after, HeadFits, value_head}
use Rattle.texts.proofs.KindTests.{kind_below, is_binder, is_target, is_present, is_value, lists_last, no_binder, no_target, no_present, no_child, one_word, word_named, in_list, expression_only}
use Rattle.texts.proofs.HeadTests.{head_fits}

-- What is open inside a form is not open behind it.
unfoldable pub opens_for : Field → TypeField → ℕ → Opens → Opens
opens_for f ty n opens = elim (may_stop f) [ true ↦ opens | false ↦ opened_by ty n opens ]

-- A variable's binder is open; a case's target is one.
abbrev pub OpenF : Opens → Opens → Field → ℕ → Type 0
OpenF targets opens Unused x = Unit {0}
OpenF targets opens Channel x = Unit {0}
OpenF targets opens PresentByte x = Unit {0}
OpenF targets opens Signal x = Unit {0}
OpenF targets opens Expression x = Unit {0}
OpenF targets opens FirstBranch x = Unit {0}
OpenF targets opens NextBranch x = Unit {0}
OpenF targets opens FirstCase x = Unit {0}
OpenF targets opens NextCase x = Unit {0}
OpenF targets opens Binder x = (opens x ≡ true) × (x < most_nodes)
OpenF targets opens Target x = targets x ≡ true

abbrev mutual
  pub OpenP : Part → Opens → Opens → ℕ → Type 0
  OpenP (part k t w a b c) targets opens lo =
      OpenK a targets (opens_for (fields_of k).a (fields_of k).ty (lo + (size_k a + size_k b + size_k c)) opens) (fields_of k).a lo
      × OpenK b targets (opens_for (fields_of k).b (fields_of k).ty (lo + (size_k a + size_k b + size_k c)) opens) (fields_of k).b (lo + size_k a)
      × OpenK c targets (opens_for (fields_of k).c (fields_of k).ty (lo + (size_k a + size_k b + size_k c)) opens) (fields_of k).c (lo + size_k a + size_k b)

  pub OpenK : Slot → Opens → Opens → Field → ℕ → Type 0
  OpenK (holds x) targets opens f lo = OpenF targets opens f x
  OpenK (child p) targets opens f lo = OpenP p targets opens lo

-- Fields, one by one.
pub next_child : (f : Field) → may_stop f ≡ true → is_child f ≡ true
unfolding may_stop is_child
next_child Unused e = e
next_child Channel e = e
next_child PresentByte e = e
next_child Signal e = refl
next_child Expression e = refl
next_child FirstBranch e = refl
next_child NextBranch e = refl
next_child FirstCase e = refl
next_child NextCase e = refl
next_child Binder e = e
next_child Target e = e

pub inner_same : (f : Field) (x : ℕ) → may_stop f ≡ false → is_target f ≡ false → inner_of f x ≡ x
unfolding may_stop is_target inner_of
inner_same Unused x e u = refl
inner_same Channel x e u = refl
inner_same PresentByte x e u = refl
inner_same Signal x e u = refl
inner_same Expression x e u = refl
inner_same FirstBranch x e u = refl
inner_same NextBranch x e u = absurd (false≢true (sym e))
inner_same FirstCase x e u = refl
inner_same NextCase x e u = absurd (false≢true (sym e))
inner_same Binder x e u = refl
inner_same Target x e u = absurd (false≢true (sym u))

pub present_same : (ty : TypeField) (b : ℕ) → is_value ty ≡ true → b ≡ present_of ty b
unfolding is_value present_of
present_same NoType b e = absurd (false≢true e)
present_same AnyType b e = absurd (false≢true e)
present_same PlainType b e = absurd (false≢true e)
present_same ValueType b e = refl

pub list_next : (f : Field) → L.is_list f ≡ false → may_stop f ≡ false
unfolding may_stop L.is_list
list_next Unused e = refl
list_next Channel e = refl
list_next PresentByte e = refl
list_next Signal e = refl
list_next Expression e = refl
list_next FirstBranch e = refl
list_next NextBranch e = e
list_next FirstCase e = refl
list_next NextCase e = e
list_next Binder e = refl
list_next Target e = refl

module _ (q : Bytes) (targets : Opens) where
  -- A field that holds a number.
  held_plain : (f : Field) (opens : Opens) (n x p i : ℕ) → is_child f ≡ false → field_wrong f x ≡ false → is_binder f ≡ false → (is_present f ≡ true → x ≡ p)
      → OpenF targets opens f x → Kid q targets opens f n x p i i
  unfolding is_child field_wrong is_binder is_present
  held_plain Unused opens n x p i e w b h o = unused_kid (eqb-true x 0 (not_not _ w))
  held_plain Channel opens n x p i e w b h o = channel_kid {x = x} (let l = ltb-false 7 x w in omega arith)
  held_plain PresentByte opens n x p i e w b h o = present_kid (h refl)
  held_plain Signal opens n x p i e w b h o = absurd (false≢true (sym e))
  held_plain Expression opens n x p i e w b h o = absurd (false≢true (sym e))
  held_plain FirstBranch opens n x p i e w b h o = absurd (false≢true (sym e))
  held_plain NextBranch opens n x p i e w b h o = absurd (false≢true (sym e))
  held_plain FirstCase opens n x p i e w b h o = absurd (false≢true (sym e))
  held_plain NextCase opens n x p i e w b h o = absurd (false≢true (sym e))
  held_plain Binder opens n x p i e w b h o = absurd (false≢true (sym b))
  held_plain Target opens n x p i e w b h o = target_kid o

  -- A next field, inside the parentheses.
  next_kid : (f : Field) (opens : Opens) (n x p i : ℕ) → may_stop f ≡ true → Kid q targets opens f n x p i i
  unfolding may_stop
  next_kid Unused opens n x p i e = absurd (false≢true e)
  next_kid Channel opens n x p i e = absurd (false≢true e)
  next_kid PresentByte opens n x p i e = absurd (false≢true e)
  next_kid Signal opens n x p i e = absurd (false≢true e)
  next_kid Expression opens n x p i e = absurd (false≢true e)
  next_kid FirstBranch opens n x p i e = absurd (false≢true e)
  next_kid NextBranch opens n x p i e = next_branch_kid
  next_kid FirstCase opens n x p i e = absurd (false≢true e)
  next_kid NextCase opens n x p i e = next_case_kid
  next_kid Binder opens n x p i e = absurd (false≢true e)
  next_kid Target opens n x p i e = absurd (false≢true e)

  -- A child.
  child_kid : (f : Field) (opens : Opens) (n x p i : ℕ) → is_child f ≡ true → may_stop f ≡ false → x < n → Laid q targets opens f i x → Kid q targets opens f n x p i (suc x)
  unfolding is_child may_stop
  child_kid Unused opens n x p i e u l d = absurd (false≢true e)
  child_kid Channel opens n x p i e u l d = absurd (false≢true e)
  child_kid PresentByte opens n x p i e u l d = absurd (false≢true e)
  child_kid Signal opens n x p i e u l d = signal_kid l d
  child_kid Expression opens n x p i e u l d = expression_kid l d
  child_kid FirstBranch opens n x p i e u l d = first_branch_kid l d
  child_kid NextBranch opens n x p i e u l d = absurd (false≢true (sym u))
  child_kid FirstCase opens n x p i e u l d = first_case_kid l d
  child_kid NextCase opens n x p i e u l d = absurd (false≢true (sym u))
  child_kid Binder opens n x p i e u l d = absurd (false≢true e)
  child_kid Target opens n x p i e u l d = absurd (false≢true e)

  -- A slot whose child, if it has one, is laid out.
  abbrev SlotLaid : Slot → Opens → Field → ℕ → Type 0
  SlotLaid (holds x) opens f lo = Unit {0}
  SlotLaid (child p) opens f lo = Laid q targets opens f lo (last_p lo p)

  -- In a field that is no next.
  slot_kid : (s : Slot) (f : Field) (opens : Opens) (lo n p j : ℕ) → RightK s f → OpenK s targets opens f lo → SlotLaid s opens f lo
      → may_stop f ≡ false → is_binder f ≡ false → (is_present f ≡ true → field_k lo s ≡ p) → j ≡ lo + size_k s → j ≤ n → Kid q targets opens f n (field_k lo s) p lo j
  unfolding field_k size_p
  slot_kid (holds x) f opens lo n p j (plain e w l) o d u b h z m =
      subst (λ (y : ℕ). Kid q targets opens f n x p lo y) (let v : lo ≡ j = omega arith in v) (held_plain f opens n x p lo e w b h o)
  slot_kid (holds x) f opens lo n p j (stops e w l) o d u b h z m = absurd (false≢true (sym u ∙ w))
  slot_kid (child s) f opens lo n p j r o d u b h z m =
      let l = last_size lo s in
      subst (λ (y : ℕ). Kid q targets opens f n (last_p lo s) p lo y) (let v : suc (last_p lo s) ≡ j = omega arith in v) (child_kid f opens n (last_p lo s) p lo r.0 u (omega arith) d)

  -- In a next field.
  slot_after : (s : Slot) (f : Field) (opens : Opens) (lo n j : ℕ) → RightK s f → SlotLaid s opens f lo
      → may_stop f ≡ true → is_child f ≡ true → j ≡ lo + size_k s → j ≤ n → After q targets opens f n (field_k lo s) lo j
  unfolding field_k size_p
  slot_after (holds x) f opens lo n j (plain e w l) d u c z m = absurd (false≢true (sym e ∙ c))
  slot_after (holds x) f opens lo n j (stops e w l) d u c z m = subst (λ (y : ℕ). After q targets opens f n x lo y) (let v : lo ≡ j = omega arith in v) (last_after u l)
  slot_after (child s) f opens lo n j r d u c z m =
      let l = last_size lo s in
      subst (λ (y : ℕ). After q targets opens f n (last_p lo s) lo y) (let v : suc (last_p lo s) ≡ j = omega arith in v) (next_after u (omega arith) d)

  -- A slot in a field that is for no child holds a number.
  no_rows : (s : Slot) (f : Field) → RightK s f → is_child f ≡ false → size_k s ≡ 0
  unfolding size_p
  no_rows (holds x) f r e = refl
  no_rows (child p) f r e = absurd (false≢true (sym e ∙ r.0))

  -- In a field that is for no child, wherever it stands.
  slot_held : (s : Slot) (f : Field) (opens : Opens) (lo n p i : ℕ) → RightK s f → OpenK s targets opens f lo → is_child f ≡ false → is_binder f ≡ false
      → (is_present f ≡ true → field_k lo s ≡ p) → Kid q targets opens f n (field_k lo s) p i i
  unfolding field_k
  slot_held (holds x) f opens lo n p i (plain e w l) o c b h = held_plain f opens n x p i e w b h o
  slot_held (holds x) f opens lo n p i (stops e w l) o c b h = absurd (false≢true (sym c ∙ e))
  slot_held (child s) f opens lo n p i r o c b h = absurd (false≢true (sym c ∙ r.0))

  unused_zero : (s : Slot) (f : Field) (lo : ℕ) → RightK s f → f ≡ Unused → field_k lo s ≡ 0
  unfolding field_k is_child field_wrong
  unused_zero (holds x) f lo (plain e w l) z = eqb-true x 0 (not_not _ (subst (λ (g : Field). field_wrong g x ≡ false) z w))
  unused_zero (holds x) f lo (stops e w l) z = absurd (false≢true (ap is_child (sym z) ∙ e))
  unused_zero (child p) f lo r z = absurd (false≢true (ap is_child (sym z) ∙ r.0))

  binder_open : (s : Slot) (f : Field) (opens : Opens) (lo : ℕ) → RightK s f → OpenK s targets opens f lo → f ≡ Binder → (opens (field_k lo s) ≡ true) × (field_k lo s < most_nodes)
  unfolding field_k is_child
  binder_open (holds x) f opens lo r o z = subst (λ (g : Field). OpenF targets opens g x) z o
  binder_open (child p) f opens lo r o z = absurd (false≢true (ap is_child (sym z) ∙ r.0))

  value_fits_lem : (ty : TypeField) (t b w : ℕ) → HeadFits ty t b w → ty ≡ ValueType → L.Fits t b w
  value_fits_lem ty t b w h e = of_value (subst (λ (x : TypeField). HeadFits x t b w) e h)
    where
      of_value : HeadFits ValueType t b w → L.Fits t b w
      of_value (value_head fits) = fits

  zero_type : (ty : TypeField) (t b w : ℕ) → type_field_wrong ty t b w ≡ false → ty ≡ NoType → (t ≡ 0) × (w ≡ 0)
  unfolding type_field_wrong
  zero_type ty t b w e z =
      let x = and_both (eqb t 0) (eqb w 0) (not_not _ (subst (λ (y : TypeField). type_field_wrong y t b w ≡ false) z e)) in
      (eqb-true t 0 x.0, eqb-true w 0 x.1)

  opens_in : (f : Field) (ty : TypeField) (n : ℕ) (opens : Opens) → may_stop f ≡ false → opens_for f ty n opens ≡ opened_by ty n opens
  unfolding opens_for
  opens_in f ty n opens e = rw (e, opens_for) refl

  opens_out : (f : Field) (ty : TypeField) (n : ℕ) (opens : Opens) → may_stop f ≡ true → opens_for f ty n opens ≡ opens
  unfolding opens_for
  opens_out f ty n opens e = rw (e, opens_for) refl

  module _ (k t w : ℕ) (a b c : Slot) (lo : ℕ) (f : Field) (opens : Opens)
      (h : HoldsP (part k t w a b c) q lo) (r : RightP (part k t w a b c)) (is_child_lem : is_child f ≡ true) (may : may_be f k ≡ true)
      (o : OpenP (part k t w a b c) targets opens lo) where
    abbrev n : ℕ
    n = lo + (size_k a + size_k b + size_k c)

    abbrev p : ℕ
    p = present_of (fields_of k).ty (b_at q n)

    below : k < 30
    below = kind_below k r.0.kind_right

    a_is : field_k lo a ≡ a_at q n
    unfolding row_p
    a_is = h.3.a_is

    b_is : field_k (lo + size_k a) b ≡ b_at q n
    unfolding row_p
    b_is = h.3.b_is

    c_is : field_k (lo + size_k a + size_k b) c ≡ c_at q n
    unfolding row_p
    c_is = h.3.c_is

    type_is : t ≡ type_at q n
    unfolding row_p
    type_is = h.3.type_is

    word_is : w ≡ word_at q n
    unfolding row_p
    word_is = h.3.word_is

    kind_is : kind_at q n ≡ k
    unfolding row_p
    kind_is = sym h.3.kind_is

    head : HeadFits (fields_of k).ty (type_at q n) (b_at q n) (word_at q n)
    head =
        subst (λ (z : ℕ). HeadFits (fields_of k).ty z (b_at q n) (word_at q n)) type_is
        (subst (λ (z : ℕ). HeadFits (fields_of k).ty t z (word_at q n)) b_is
        (subst (λ (z : ℕ). HeadFits (fields_of k).ty t (field_k (lo + size_k a) b) z) word_is
        (head_fits (fields_of k).ty t (field_k (lo + size_k a) b) w (r.0.type_right (lo + size_k a)) r.0.word_small)))

    -- Nodes that are one word have no child.
    one_alone : is_child (fields_of k).a ≡ false → is_child (fields_of k).b ≡ false → is_child (fields_of k).c ≡ false → lo ≡ n
    one_alone u v x = let i = no_rows a _ r.1 u in let j = no_rows b _ r.2 v in let l = no_rows c _ r.3 x in omega arith

    as_expression : (k ≡ 16) ⊎ (k ≡ 17) → lo ≡ n → Laid q targets opens Expression n n → Laid q targets opens f lo n
    as_expression is e d =
        subst (λ (g : Field). Laid q targets opens g lo n) (sym (expression_only f is_child_lem k is may))
        (subst (λ (i : ℕ). Laid q targets opens Expression i n) (sym e) d)

    of_variable : k ≡ 16 → Laid q targets opens f lo n
    unfolding fields_of row is_child may_stop opens_for opened_by
    of_variable e =
        let alone = one_alone (ap (λ (x : ℕ). is_child (fields_of x).a) e) (ap (λ (x : ℕ). is_child (fields_of x).b) e) (ap (λ (x : ℕ). is_child (fields_of x).c) e) in
        let open₁ = binder_open a (fields_of k).a _ lo r.1 o.0 (ap (λ (x : ℕ). (fields_of x).a) e) in
        let known : opens (a_at q n) ≡ true = ap opens (sym a_is) ∙ ap (λ (x : ℕ). opens_for (fields_of x).a (fields_of x).ty n opens (field_k lo a)) (sym e) ∙ open₁.0 in
        let z = zero_type (fields_of k).ty t (field_k (lo + size_k a) b) w (r.0.type_right (lo + size_k a)) (ap (λ (x : ℕ). (fields_of x).ty) e) in
        as_expression (inl e) alone
        (variable_laid (kind_is ∙ e) known (let l = open₁.1 in subst (λ (x : ℕ). x < 1008) a_is l) (sym type_is ∙ z.0)
        (sym b_is ∙ unused_zero b _ _ r.2 (ap (λ (x : ℕ). (fields_of x).b) e)) (sym c_is ∙ unused_zero c _ _ r.3 (ap (λ (x : ℕ). (fields_of x).c) e)) (sym word_is ∙ z.1))

    of_constant : k ≡ 17 → Laid q targets opens f lo n
    unfolding fields_of row is_child
    of_constant e =
        let alone = one_alone (ap (λ (x : ℕ). is_child (fields_of x).a) e) (ap (λ (x : ℕ). is_child (fields_of x).b) e) (ap (λ (x : ℕ). is_child (fields_of x).c) e) in
        as_expression (inr e) alone
        (constant_laid (kind_is ∙ e) (value_fits_lem _ _ _ _ head (ap (λ (x : ℕ). (fields_of x).ty) e))
        (sym a_is ∙ unused_zero a _ _ r.1 (ap (λ (x : ℕ). (fields_of x).a) e)) (sym c_is ∙ unused_zero c _ _ r.3 (ap (λ (x : ℕ). (fields_of x).c) e)))

    module _ (d16 : k ≡ 16 → ⊥) (d17 : k ≡ 17 → ⊥)
        (la : SlotLaid a (opens_for (fields_of k).a (fields_of k).ty n opens) (fields_of k).a lo)
        (lb : SlotLaid b (opens_for (fields_of k).b (fields_of k).ty n opens) (fields_of k).b (lo + size_k a))
        (lc : SlotLaid c (opens_for (fields_of k).c (fields_of k).ty n opens) (fields_of k).c (lo + size_k a + size_k b)) where
      abbrev inside : Opens
      inside = opened_by (fields_of k).ty n opens

      a_kid : Kid q targets inside (fields_of k).a n (a_at q n) p lo (lo + size_k a)
      a_kid =
          let none = list_next (fields_of k).a (lists_last k below).a_none in
          subst (λ (x : ℕ). Kid q targets inside (fields_of k).a n x p lo (lo + size_k a)) a_is
          (subst (λ (s : Opens). Kid q targets s (fields_of k).a n (field_k lo a) p lo (lo + size_k a)) (opens_in (fields_of k).a (fields_of k).ty n opens none)
          (slot_kid a (fields_of k).a _ lo n p (lo + size_k a) r.1 o.0 la none ((no_binder k below).0 d16)
          (λ e. absurd (false≢true (sym (no_present k below).0 ∙ e))) refl (omega arith)))

      c_plain : may_stop (fields_of k).c ≡ false
      c_plain = list_next (fields_of k).c (lists_last k below).c_none

      b_present : is_present (fields_of k).b ≡ true → field_k (lo + size_k a) b ≡ p
      b_present e = b_is ∙ present_same (fields_of k).ty (b_at q n) ((no_present k below).1 e)

      c_present : is_present (fields_of k).c ≡ true → field_k (lo + size_k a + size_k b) c ≡ p
      c_present e = absurd (false≢true (sym (no_present k below).2 ∙ e))

      b_opens : may_stop (fields_of k).b ≡ false → opens_for (fields_of k).b (fields_of k).ty n opens ≡ inside
      b_opens e = opens_in (fields_of k).b (fields_of k).ty n opens e

      c_opens : opens_for (fields_of k).c (fields_of k).ty n opens ≡ inside
      c_opens = opens_in (fields_of k).c (fields_of k).ty n opens c_plain

      whole : (i₂ i₃ : ℕ) → Kid q targets inside (fields_of k).b n (b_at q n) p (lo + size_k a) i₂ → Kid q targets inside (fields_of k).c n (c_at q n) p i₂ i₃
          → After q targets opens (fields_of k).b n (b_at q n) i₃ n → Laid q targets opens f lo n
      whole i₂ i₃ kb kc kd =
          let e₁ = ne_eqb k 16 d16 in
          let e₂ = ne_eqb k 17 d17 in
          form_laid k kind_is e₁ e₂ (word_named f is_child_lem k below may e₁ e₂) (one_word k below r.0.kind_right e₁ e₂) (lists_last k below)
          (in_list f is_child_lem k below may) head a_kid kb kc kd

      -- A form without a next.
      plain_form : may_stop (fields_of k).b ≡ false → Laid q targets opens f lo n
      plain_form none =
          whole (lo + size_k a + size_k b) n
          (subst (λ (x : ℕ). Kid q targets inside (fields_of k).b n x p (lo + size_k a) (lo + size_k a + size_k b)) b_is
          (subst (λ (s : Opens). Kid q targets s (fields_of k).b n (field_k (lo + size_k a) b) p (lo + size_k a) (lo + size_k a + size_k b)) (b_opens none)
          (slot_kid b (fields_of k).b _ (lo + size_k a) n p (lo + size_k a + size_k b) r.2 o.1 lb none (no_binder k below).1 b_present refl (omega arith))))
          (subst (λ (x : ℕ). Kid q targets inside (fields_of k).c n x p (lo + size_k a + size_k b) n) c_is
          (subst (λ (s : Opens). Kid q targets s (fields_of k).c n (field_k (lo + size_k a + size_k b) c) p (lo + size_k a + size_k b) n) c_opens
          (slot_kid c (fields_of k).c _ (lo + size_k a + size_k b) n p n r.3 o.2 lc c_plain (no_binder k below).2 c_present (omega arith) (omega arith))))
          (none_after none (inner_same (fields_of k).b (b_at q n) none (no_target k below).1))

      -- A branch or a case: its next stands behind it.
      listed_form : may_stop (fields_of k).b ≡ true → Laid q targets opens f lo n
      listed_form some =
          let none = no_child k below some in
          let z = no_rows c (fields_of k).c r.3 none in
          whole (lo + size_k a) (lo + size_k a) (next_kid (fields_of k).b inside n (b_at q n) p (lo + size_k a) some)
          (subst (λ (x : ℕ). Kid q targets inside (fields_of k).c n x p (lo + size_k a) (lo + size_k a)) c_is
          (subst (λ (s : Opens). Kid q targets s (fields_of k).c n (field_k (lo + size_k a + size_k b) c) p (lo + size_k a) (lo + size_k a)) c_opens
          (slot_held c (fields_of k).c _ (lo + size_k a + size_k b) n p (lo + size_k a) r.3 o.2 none (no_binder k below).2 c_present)))
          (subst (λ (x : ℕ). After q targets opens (fields_of k).b n x (lo + size_k a) n) b_is
          (subst (λ (s : Opens). After q targets s (fields_of k).b n (field_k (lo + size_k a) b) (lo + size_k a) n) (opens_out (fields_of k).b (fields_of k).ty n opens some)
          (slot_after b (fields_of k).b _ (lo + size_k a) n n r.2 lb some (next_child (fields_of k).b some) (omega arith) (omega arith))))

      of_form : Laid q targets opens f lo n
      of_form = by_test (may_stop (fields_of k).b) listed_form plain_form

    of_kind : SlotLaid a (opens_for (fields_of k).a (fields_of k).ty n opens) (fields_of k).a lo
        → SlotLaid b (opens_for (fields_of k).b (fields_of k).ty n opens) (fields_of k).b (lo + size_k a)
        → SlotLaid c (opens_for (fields_of k).c (fields_of k).ty n opens) (fields_of k).c (lo + size_k a + size_k b) → Laid q targets opens f lo n
    of_kind la lb lc = choose k 16 of_variable λ d16. choose k 17 of_constant λ d17. of_form d16 d17 la lb lc

  mutual
    unfolding last_p kind_p

    pub part_laid : (s : Part) (lo : ℕ) (f : Field) (opens : Opens) → HoldsP s q lo → RightP s → is_child f ≡ true → may_be f (kind_p s) ≡ true → OpenP s targets opens lo
        → Laid q targets opens f lo (last_p lo s)
    part_laid (part k t w a b c) lo f opens h r e m o =
        let n = lo + (size_k a + size_k b + size_k c) in
        of_kind k t w a b c lo f opens h r e m o
        (slot_laid a lo (fields_of k).a (opens_for (fields_of k).a (fields_of k).ty n opens) h.0 r.1 o.0)
        (slot_laid b (lo + size_k a) (fields_of k).b (opens_for (fields_of k).b (fields_of k).ty n opens) h.1 r.2 o.1)
        (slot_laid c (lo + size_k a + size_k b) (fields_of k).c (opens_for (fields_of k).c (fields_of k).ty n opens) h.2 r.3 o.2)

    slot_laid : (s : Slot) (lo : ℕ) (f : Field) (opens : Opens) → HoldsK s q lo → RightK s f → OpenK s targets opens f lo → SlotLaid s opens f lo
    slot_laid (holds x) lo f opens h r o = tt
    slot_laid (child s) lo f opens h r o = part_laid s lo f opens h r.2 r.0 r.1 o
