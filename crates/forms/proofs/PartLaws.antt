-- The parts of a form, and the fields of a node that is none.
-- Assumes nothing.
use Rattle.std.specs.Prelude.{if◌then◌else◌}
use mathlib.Core.Path.{◌≡◌, refl, sym, ap, ◌∙◌}
use mathlib.Core.Bool.{Bool, true, false, not}
use mathlib.Core.List.{[], ◌∷◌, ◌++◌, append_assoc}
use Prim.Native.Nat.{ℕ, ◌+◌, ◌*◌, ◌/◌, ◌%◌, ◌≤◌, min}
use native.Mathlib.Omega.{arith}
use lib.Dec.{eqb, ltb}
use lib.ListN.{length, replicate, get_or-eq_default}
use borrow.Author.Tests.{eq-eqb, ne_eqb}
use Rattle.rules.specs.Bytes.{Bytes, byte_at, u16_at, u32_at, ◌and◌, ◌or◌}
use Rattle.rules.specs.Layout.{record_at, block_at, kind_at, type_at, a_at, b_at, c_at, word_at, no_next}
use Rattle.rules.specs.Node.{IsNode}
use Rattle.rules.specs.Shape.{may_be, may_stop}
use Rattle.rules.specs.Kinds.{fields_of}
use Rattle.rules.specs.declared.Field.{Field}
use Rattle.rules.specs.declared.Field.TheVariants.{Unused, Channel, PresentByte, Signal, Expression, FirstBranch, NextBranch, FirstCase, NextCase, Binder, Target}
use Rattle.rules.specs.declared.TypeField.{TypeField}
use Rattle.rules.specs.declared.TypeField.TheVariants.{NoType, AnyType, PlainType, ValueType}
use Rattle.rules.proofs.Static.{not_both}
use Rattle.texts.specs.Spelling.{open₀, kind_word, type_word}
use Rattle.texts.specs.Numerals.{decimal}
use Rattle.texts.specs.Printer.{Pieces, tight, spaced, lined, variable_name, branch_name, label_pieces, type_pieces, value_pieces, opening, behind_pieces}
use Rattle.letters.specs.Wrote.{spread}
use Rattle.letters.proofs.WroteLaws.{spread_app, spread_one}
use Rattle.forms.specs.Laying.{is_inside, child_pieces, goes_on, channel_pieces, target_pieces, is_binding, is_valued, head_pieces}

-- Past the last record all fields are zero.
module _ (q : Bytes) (i : ℕ) (w : length q % 512 ≡ 0) (h : length q / 512 * 42 ≤ i) where
  past : (j : ℕ) → byte_at q (record_at i + j) ≡ 0
  unfolding byte_at record_at block_at
  past j = get_or-eq_default q 0 (omega arith)

  past_here : byte_at q (record_at i) ≡ 0
  past_here = ap (byte_at q) (let z : record_at i ≡ record_at i + 0 = omega arith in z) ∙ past 0

  past_16 : (j : ℕ) → u16_at q (record_at i + j) ≡ 0
  unfolding u16_at
  past_16 j = omega (arith, past j, past (j + 1), ap (byte_at q) (let z : record_at i + j + 1 ≡ record_at i + (j + 1) = omega arith in z))

  past_32 : (j : ℕ) → u32_at q (record_at i + j) ≡ 0
  unfolding u32_at
  past_32 j = omega (arith, past_16 j, past_16 (j + 2), ap (u16_at q) (let z : record_at i + j + 2 ≡ record_at i + (j + 2) = omega arith in z))

  pub no_node : IsNode q i (record { kind = 0; ty = 0; a = 0; b = 0; c = 0; word = 0 })
  unfolding kind_at type_at a_at b_at c_at word_at
  no_node = record { kind_is = sym past_here; type_is = sym (past 1); a_is = sym (past_16 2); b_is = sym (past_16 4); c_is = sym (past_16 6); word_is = sym (past_32 8) }

-- A piece by itself.
none_after : (l : Bytes) → l ++ [] ≡ l
none_after [] = refl
none_after (y ∷ l) = ap (λ (m : Bytes). y ∷ m) (none_after l)

one_word : (w : Bytes) → 32 ∷ w ≡ spread (spaced w ∷ [])
unfolding spaced spread
one_word w = ap (λ (l : Bytes). 32 ∷ l) (sym (none_after w))

module _ (f : Field) (isFirst : Bool) (k depth : ℕ) where
  abbrev open_by : Bool → Bytes
  open_by b = spread (elim b [ true ↦ spaced open₀ | false ↦ lined depth open₀ ] ∷ [])

  open_by_lem : {b : Bool} → (may_be f 17 or (isFirst and ltb k 4)) ≡ b → open_by b ≡ spread (opening f isFirst k depth ∷ [])
  unfolding opening
  open_by_lem e = sym (ap open_by e)

  pub open_same : (may_be f 17 or (isFirst and ltb k 4)) ≡ true → 32 ∷ 40 ∷ [] ≡ spread (opening f isFirst k depth ∷ [])
  unfolding spaced spread
  open_same e = open_by_lem e

  pub open_line : (may_be f 17 or (isFirst and ltb k 4)) ≡ false → (10 ∷ replicate (2 * min depth 40) 32) ++ (40 ∷ []) ≡ spread (opening f isFirst k depth ∷ [])
  unfolding lined spread
  open_line e = open_by_lem e

-- A branch's name, where one is said.
pub name_said : (said : Bool) (n : ℕ) → said ≡ true → 32 ∷ 107 ∷ decimal n ≡ spread (if said then spaced (branch_name n) ∷ [] else [])
unfolding branch_name
name_said said n e = rw e (one_word (branch_name n))

pub none_said : (said : Bool) (n : ℕ) → said ≡ false → [] ≡ spread (if said then spaced (branch_name n) ∷ [] else [])
unfolding spread
none_said said n e = rw e refl

module _ (k n : ℕ) where
  -- A branch's own name, and a case's target.
  pub label_is : spread (if eqb k 9 then spaced (branch_name n) ∷ [] else []) ≡ spread (label_pieces k n)
  unfolding label_pieces
  label_is = go (eqb k 9)
    where
      go : (b : Bool) → spread (if b then spaced (branch_name n) ∷ [] else []) ≡ spread (elim b [ true ↦ spaced (branch_name n) ∷ [] | false ↦ [] ])
      go true = refl
      go false = refl

  pub target_is : spread (if eqb k 10 then spaced (branch_name n) ∷ [] else []) ≡ spread (target_pieces k n)
  unfolding target_pieces
  target_is = refl

  -- A channel.
  pub is_channel : k ≡ 1 → 32 ∷ decimal n ≡ spread (channel_pieces k n)
  unfolding channel_pieces
  is_channel e = one_word (decimal n) ∙ ap (λ (b : Bool). spread (if b then spaced (decimal n) ∷ [] else [])) (sym (eq-eqb k 1 e))

  pub no_channel : (k ≡ 1 → ⊥) → [] ≡ spread (channel_pieces k n)
  unfolding channel_pieces spread
  no_channel e = ap (λ (b : Bool). spread (if b then spaced (decimal n) ∷ [] else [])) (sym (ne_eqb k 1 e))

-- A variable and its type, a value, or nothing.
module _ (n t m w : ℕ) where
  pub is_bound_lem : (f : TypeField) → is_binding f ≡ true → (32 ∷ 120 ∷ decimal n) ++ (32 ∷ type_word t) ≡ spread (type_pieces f n t m w)
  unfolding is_binding type_pieces spread spaced variable_name
  is_bound_lem NoType e = absurd (not_both e)
  is_bound_lem AnyType e = ap (λ (l : Bytes). (32 ∷ 120 ∷ decimal n) ++ (32 ∷ l)) (sym (none_after (type_word t)))
  is_bound_lem PlainType e = ap (λ (l : Bytes). (32 ∷ 120 ∷ decimal n) ++ (32 ∷ l)) (sym (none_after (type_word t)))
  is_bound_lem ValueType e = absurd (not_both e)

  pub is_value : (f : TypeField) → is_valued f ≡ true → spread (value_pieces t m w) ≡ spread (type_pieces f n t m w)
  unfolding is_valued type_pieces
  is_value NoType e = absurd (not_both e)
  is_value AnyType e = absurd (not_both e)
  is_value PlainType e = absurd (not_both e)
  is_value ValueType e = refl

  pub no_typed : (f : TypeField) → is_binding f ≡ false → is_valued f ≡ false → [] ≡ spread (type_pieces f n t m w)
  unfolding is_binding is_valued type_pieces spread
  no_typed NoType e g = refl
  no_typed AnyType e g = absurd (not_both (sym e))
  no_typed PlainType e g = absurd (not_both (sym e))
  no_typed ValueType e g = absurd (not_both (sym g))

-- What stands before a form's children.
pub headed : (f : Field) (isFirst : Bool) (depth k n t m w a : ℕ)
    → spread (opening f isFirst k depth ∷ []) ++ (kind_word k ++ (spread (label_pieces k n) ++ (spread (type_pieces (fields_of k).ty n t m w) ++ spread (channel_pieces k a))))
    ≡ spread (head_pieces f isFirst depth k n t m w a)
unfolding head_pieces tight spread
headed f isFirst depth k n t m w a =
    ap (λ (l : Bytes). spread (opening f isFirst k depth ∷ []) ++ (kind_word k ++ l)) (sym (spread_app (label_pieces k n) (type_pieces (fields_of k).ty n t m w ++ channel_pieces k a) ∙ ap (λ (l : Bytes). spread (label_pieces k n) ++ l) (spread_app (type_pieces (fields_of k).ty n t m w) (channel_pieces k a))))
    ∙ ap (λ (l : Bytes). l ++ (kind_word k ++ spread (label_pieces k n ++ (type_pieces (fields_of k).ty n t m w ++ channel_pieces k a)))) (spread_one (opening f isFirst k depth))
    ∙ append_assoc (opening f isFirst k depth).before (opening f isFirst k depth).word (kind_word k ++ spread (label_pieces k n ++ (type_pieces (fields_of k).ty n t m w ++ channel_pieces k a)))

-- A child, by whether it stands inside the parentheses.
module _ (kid : Pieces) (f : Field) (x : ℕ) where
  pub child_in : is_inside f ≡ true → kid f x ≡ child_pieces kid f x
  unfolding child_pieces
  child_in e = sym (ap (λ (b : Bool). if b then kid f x else []) e)

  pub child_out : is_inside f ≡ false → [] ≡ child_pieces kid f x
  unfolding child_pieces
  child_out e = sym (ap (λ (b : Bool). if b then kid f x else []) e)

-- A next, by whether there is one.
behind_if : (kid : Pieces) (f : Field) (x : ℕ) → behind_pieces kid f x ≡ (if goes_on f x then kid f x else [])
unfolding behind_pieces goes_on may_stop ◌and◌
behind_if kid Unused x = refl
behind_if kid Channel x = refl
behind_if kid PresentByte x = refl
behind_if kid Signal x = refl
behind_if kid Expression x = refl
behind_if kid FirstBranch x = refl
behind_if kid NextBranch x = go (eqb x no_next)
  where
    go : (b : Bool) → elim b [ true ↦ [] | false ↦ kid NextBranch x ] ≡ (if not b then kid NextBranch x else [])
    go true = refl
    go false = refl
behind_if kid FirstCase x = refl
behind_if kid NextCase x = go (eqb x no_next)
  where
    go : (b : Bool) → elim b [ true ↦ [] | false ↦ kid NextCase x ] ≡ (if not b then kid NextCase x else [])
    go true = refl
    go false = refl
behind_if kid Binder x = refl
behind_if kid Target x = refl

module _ (kid : Pieces) (f : Field) (x : ℕ) where
  pub next_on : goes_on f x ≡ true → kid f x ≡ behind_pieces kid f x
  next_on e = sym (behind_if kid f x ∙ ap (λ (b : Bool). if b then kid f x else []) e)

  pub next_none : goes_on f x ≡ false → [] ≡ behind_pieces kid f x
  next_none e = sym (behind_if kid f x ∙ ap (λ (b : Bool). if b then kid f x else []) e)
