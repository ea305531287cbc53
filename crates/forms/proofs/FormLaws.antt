-- A node's pieces from the parts that the code puts.
-- Assumes nothing.
use Rattle.std.specs.Prelude.{if◌then◌else◌}
use mathlib.Core.Path.{◌≡◌, refl, sym, ap, ◌∙◌}
use mathlib.Core.Bool.{Bool, true, false}
use mathlib.Core.List.{List, [], ◌∷◌, ◌++◌, append_assoc}
use Prim.Native.Nat.{ℕ, suc, ◌+◌, ◌-◌, ◌≤◌}
use native.Mathlib.Omega.{arith}
use lib.Dec.{eqb}
use borrow.Author.Tests.{eq-eqb, ne_eqb, eqb-true}
use Rattle.rules.specs.Bytes.{Bytes, ◌and◌}
use Rattle.rules.specs.Layout.{edition, nodes, kind_at, type_at, a_at, b_at, c_at, word_at}
use Rattle.rules.specs.Node.{IsNode}
use Rattle.rules.specs.Shape.{is_child, may_stop}
use Rattle.rules.specs.Kinds.{row, fields_of}
use Rattle.rules.specs.declared.Node.{Node}
use Rattle.rules.specs.declared.Field.{Field}
use Rattle.rules.specs.declared.Field.TheVariants.{Unused, Channel, PresentByte, Signal, Expression, FirstBranch, NextBranch, FirstCase, NextCase, Binder, Target}
use Rattle.rules.proofs.Static.{not_both}
use Rattle.kinds.specs.Rows.{row_of, a_in, b_in, c_in, as_child, child_number, child_numbered}
use Rattle.kinds.proofs.Digits.{a_of_lem, b_of, c_of_lem}
use Rattle.texts.specs.Spelling.{close₀, edition_word, kind_word}
use Rattle.texts.specs.Numerals.{decimal}
use Rattle.texts.specs.Printer.{Piece, Pieces, tight, spaced, variable_name, branch_name, label_pieces, type_pieces, value_pieces, opening, field_pieces, behind_pieces, form_pieces, pieces_as, pieces_f, pieces, laid, printed}
use Rattle.letters.specs.Wrote.{spread}
use Rattle.letters.specs.declared.Sheet.{Sheet}
use Rattle.letters.specs.Puts.{Puts}
use Rattle.letters.proofs.WroteLaws.{spread_app}
use Rattle.letters.proofs.PutsLaws.{puts_none, puts_as, puts_then}
use Rattle.forms.specs.Laying.{is_inside, child_pieces, channel_pieces, target_pieces, head_pieces}
use Rattle.forms.proofs.KindLaws.{is_said, said_a, said_b, said_c}

none_after : (l : List Piece) → l ++ [] ≡ l
none_after [] = refl
none_after (x ∷ l) = ap (λ (m : List Piece). x ∷ m) (none_after l)

-- A field that is not said is its child, and a field as a child is printed as it is.
not_said : (kid : Pieces) (f : Field) (x : ℕ) → is_said f ≡ false → child_pieces kid (as_child f) x ≡ field_pieces kid f x
unfolding child_pieces field_pieces as_child child_number child_numbered is_inside is_child may_stop ◌and◌ is_said
not_said kid Unused x e = refl
not_said kid Channel x e = absurd (not_both (sym e))
not_said kid PresentByte x e = refl
not_said kid Signal x e = refl
not_said kid Expression x e = refl
not_said kid FirstBranch x e = refl
not_said kid NextBranch x e = refl
not_said kid FirstCase x e = refl
not_said kid NextCase x e = refl
not_said kid Binder x e = refl
not_said kid Target x e = absurd (not_both (sym e))

next_child : (kid : Pieces) (f : Field) (x : ℕ) → behind_pieces kid (as_child f) x ≡ behind_pieces kid f x
unfolding behind_pieces as_child child_number child_numbered
next_child kid Unused x = refl
next_child kid Channel x = refl
next_child kid PresentByte x = refl
next_child kid Signal x = refl
next_child kid Expression x = refl
next_child kid FirstBranch x = refl
next_child kid NextBranch x = refl
next_child kid FirstCase x = refl
next_child kid NextCase x = refl
next_child kid Binder x = refl
next_child kid Target x = refl

module _ (kid : Pieces) (k x : ℕ) where
  one : (j : ℕ) → j ≡ 1 → (spaced (decimal x) ∷ []) ++ child_pieces kid (as_child (fields_of j).a) x ≡ field_pieces kid (fields_of j).a x
  unfolding child_pieces field_pieces as_child child_number child_numbered is_inside is_child may_stop ◌and◌ fields_of row
  one j e = rw e refl

  field_a : channel_pieces k x ++ child_pieces kid (a_in (row_of k)) x ≡ field_pieces kid (fields_of k).a x
  unfolding channel_pieces
  field_a = go (eqb k 1) refl
    where
      go : (b : Bool) → eqb k 1 ≡ b → (if b then spaced (decimal x) ∷ [] else []) ++ child_pieces kid (a_in (row_of k)) x ≡ field_pieces kid (fields_of k).a x
      go true e = ap (λ (f : Field). (spaced (decimal x) ∷ []) ++ child_pieces kid f x) (a_of_lem k) ∙ one k (eqb-true k 1 e)
      go false e = ap (λ (f : Field). child_pieces kid f x) (a_of_lem k) ∙ not_said kid (fields_of k).a x (sym (said_a k) ∙ e)

  field_b : child_pieces kid (b_in (row_of k)) x ≡ field_pieces kid (fields_of k).b x
  field_b = ap (λ (f : Field). child_pieces kid f x) (b_of k) ∙ not_said kid (fields_of k).b x (sym (said_b k))

  ten : (j : ℕ) → j ≡ 10 → child_pieces kid (as_child (fields_of j).c) x ++ (spaced (branch_name x) ∷ []) ≡ field_pieces kid (fields_of j).c x
  unfolding child_pieces field_pieces as_child child_number child_numbered is_inside is_child may_stop ◌and◌ fields_of row
  ten j e = rw e refl

  field_c : child_pieces kid (c_in (row_of k)) x ++ target_pieces k x ≡ field_pieces kid (fields_of k).c x
  unfolding target_pieces
  field_c = go (eqb k 10) refl
    where
      go : (b : Bool) → eqb k 10 ≡ b → child_pieces kid (c_in (row_of k)) x ++ (if b then spaced (branch_name x) ∷ [] else []) ≡ field_pieces kid (fields_of k).c x
      go true e = ap (λ (f : Field). child_pieces kid f x ++ (spaced (branch_name x) ∷ [])) (c_of_lem k) ∙ ten k (eqb-true k 10 e)
      go false e = none_after (child_pieces kid (c_in (row_of k)) x) ∙ ap (λ (f : Field). child_pieces kid f x) (c_of_lem k) ∙ not_said kid (fields_of k).c x (sym (said_c k) ∙ e)

  behind_b : behind_pieces kid (b_in (row_of k)) x ≡ behind_pieces kid (fields_of k).b x
  behind_b = ap (λ (f : Field). behind_pieces kid f x) (b_of k) ∙ next_child kid (fields_of k).b x

-- Pieces in the order in which the code puts them.
together : (o w : Piece) (l t ch a b c tg : List Piece) (z : List Piece)
    → (o ∷ w ∷ (l ++ (t ++ ch))) ++ (a ++ (b ++ (c ++ (tg ++ z)))) ≡ o ∷ w ∷ (l ++ t ++ (ch ++ a) ++ b ++ (c ++ tg) ++ z)
together o w l t ch a b c tg z = simp append_assoc

module _ (q : Bytes) (depth : ℕ) (isFirst : Bool) (f : Field) (i : ℕ) where
  -- No levels.
  pub no_levels : (s : Sheet) (level : ℕ) → level ≡ 0 → Puts s (spread (pieces_f level q depth isFirst f i)) s
  unfolding pieces_f spread
  no_levels s level e = puts_as (ap (λ (g : ℕ). spread (pieces_f g q depth isFirst f i)) (sym e)) (puts_none s)

  module _ (level : ℕ) (some : 1 ≤ level) where
    abbrev kid : Bool → Pieces
    kid = pieces_f (level - 1) q (depth + 1)

    abbrev sibling : Pieces
    sibling = pieces_f (level - 1) q depth false

    one_level : pieces_as kid sibling q depth isFirst f (kind_at q i) i ≡ pieces_f level q depth isFirst f i
    unfolding pieces_f
    one_level =
        ap (λ (d : ℕ). pieces_as (pieces_f (level - 1) q d) sibling q depth isFirst f (kind_at q i) i) (let z : depth + 1 ≡ suc depth = omega arith in z)
        ∙ ap (λ (g : ℕ). pieces_f g q depth isFirst f i) (let z : suc (level - 1) ≡ level = omega arith in z)

    abbrev by : Bool → Bool → List Piece
    by x y =
        elim x [
          | true ↦ spaced (variable_name (a_at q i)) ∷ []
          | false ↦
              elim y [
                | true ↦ value_pieces (type_at q i) (b_at q i) (word_at q i)
                | false ↦ opening f isFirst (kind_at q i) depth ∷ tight (kind_word (kind_at q i)) ∷ form_pieces kid sibling q (kind_at q i) i
              ]
        ]

    by_kind : {x y : Bool} → eqb (kind_at q i) 16 ≡ x → eqb (kind_at q i) 17 ≡ y → by x y ≡ pieces_f level q depth isFirst f i
    unfolding pieces_as
    by_kind e g = sym (λ j. by (e j) (g j)) ∙ one_level

    module _ (n : Node) (is : IsNode q i n) where
      pub a_variable : n.kind ≡ 16 → 32 ∷ 120 ∷ decimal n.a ≡ spread (pieces_f level q depth isFirst f i)
      unfolding spread spaced variable_name
      a_variable e =
          ap (λ (x : ℕ). 32 ∷ 120 ∷ decimal x) is.a_is ∙ ap (λ (l : Bytes). 32 ∷ 120 ∷ l) (sym (bytes_after (decimal (a_at q i))))
          ∙ ap spread (by_kind (eq-eqb (kind_at q i) 16 (sym is.kind_is ∙ e)) refl)
        where
          bytes_after : (l : Bytes) → l ++ [] ≡ l
          bytes_after [] = refl
          bytes_after (x ∷ l) = ap (λ (m : Bytes). x ∷ m) (bytes_after l)

      pub a_constant : n.kind ≡ 17 → spread (value_pieces n.ty n.b n.word) ≡ spread (pieces_f level q depth isFirst f i)
      a_constant e =
          let k : kind_at q i ≡ 17 = sym is.kind_is ∙ e in
          (λ j. spread (value_pieces (is.type_is j) (is.b_is j) (is.word_is j)))
          ∙ ap spread (by_kind (ne_eqb (kind_at q i) 16 (λ z. omega arith)) (eq-eqb (kind_at q i) 17 k))

      -- A form.
      abbrev Head : Node → List Piece
      Head m = head_pieces f isFirst depth m.kind i m.ty m.b m.word m.a

      abbrev Rest : Node → List Piece
      Rest m =
          child_pieces (kid true) (a_in (row_of m.kind)) m.a
          ++ (child_pieces (kid false) (b_in (row_of m.kind)) m.b
          ++ (child_pieces (kid false) (c_in (row_of m.kind)) m.c
          ++ (target_pieces m.kind m.c ++ (tight close₀ ∷ behind_pieces sibling (b_in (row_of m.kind)) m.b))))

      abbrev there : Node
      there = record { kind = kind_at q i; ty = type_at q i; a = a_at q i; b = b_at q i; c = c_at q i; word = word_at q i }

      node_is : n ≡ there
      node_is = λ j. record { kind = is.kind_is j; ty = is.type_is j; a = is.a_is j; b = is.b_is j; c = is.c_is j; word = is.word_is j }

      form_there : Head there ++ Rest there ≡ opening f isFirst (kind_at q i) depth ∷ tight (kind_word (kind_at q i)) ∷ form_pieces kid sibling q (kind_at q i) i
      unfolding head_pieces form_pieces
      form_there =
          let k : ℕ = kind_at q i in
          together (opening f isFirst k depth) (tight (kind_word k)) (label_pieces k i) (type_pieces (fields_of k).ty i (type_at q i) (b_at q i) (word_at q i)) (channel_pieces k (a_at q i))
          (child_pieces (kid true) (a_in (row_of k)) (a_at q i)) (child_pieces (kid false) (b_in (row_of k)) (b_at q i)) (child_pieces (kid false) (c_in (row_of k)) (c_at q i))
          (target_pieces k (c_at q i)) (tight close₀ ∷ behind_pieces sibling (b_in (row_of k)) (b_at q i))
          ∙ (λ j. opening f isFirst k depth ∷ tight (kind_word k) ∷ (label_pieces k i ++ type_pieces (fields_of k).ty i (type_at q i) (b_at q i) (word_at q i)
          ++ field_a (kid true) k (a_at q i) j ++ field_b (kid false) k (b_at q i) j ++ field_c (kid false) k (c_at q i) j
          ++ tight close₀ ∷ behind_b sibling k (b_at q i) j))

      form_pieces_lem : (n.kind ≡ 16 → ⊥) → (n.kind ≡ 17 → ⊥) → Head n ++ Rest n ≡ pieces_f level q depth isFirst f i
      form_pieces_lem e g =
          ap (λ (m : Node). Head m ++ Rest m) node_is ∙ form_there
          ∙ by_kind (ne_eqb (kind_at q i) 16 (λ z. e (is.kind_is ∙ z))) (ne_eqb (kind_at q i) 17 (λ z. g (is.kind_is ∙ z)))

      spread_rest : spread (Rest n)
          ≡ spread (child_pieces (kid true) (a_in (row_of n.kind)) n.a)
          ++ (spread (child_pieces (kid false) (b_in (row_of n.kind)) n.b)
          ++ (spread (child_pieces (kid false) (c_in (row_of n.kind)) n.c)
          ++ (spread (target_pieces n.kind n.c) ++ (41 ∷ spread (behind_pieces sibling (b_in (row_of n.kind)) n.b)))))
      unfolding spread tight
      spread_rest = simp spread_app

      pub a_form : {s s₁ s₂ s₃ s₄ s₅ s₆ s₇ : Sheet} (fa fb fc : Field) → (n.kind ≡ 16 → ⊥) → (n.kind ≡ 17 → ⊥)
          → fa ≡ a_in (row_of n.kind) → fb ≡ b_in (row_of n.kind) → fc ≡ c_in (row_of n.kind)
          → Puts s (spread (Head n)) s₁ → Puts s₁ (spread (child_pieces (kid true) fa n.a)) s₂ → Puts s₂ (spread (child_pieces (kid false) fb n.b)) s₃
          → Puts s₃ (spread (child_pieces (kid false) fc n.c)) s₄ → Puts s₄ (spread (target_pieces n.kind n.c)) s₅ → Puts s₅ (41 ∷ []) s₆
          → Puts s₆ (spread (behind_pieces sibling fb n.b)) s₇ → Puts s (spread (pieces_f level q depth isFirst f i)) s₇
      a_form fa fb fc e g ea eb ec w₀ w₁ w₂ w₃ w₄ w₅ w₆ =
          puts_as ((λ j. spread (Head n) ++ (spread (child_pieces (kid true) (ea j) n.a) ++ (spread (child_pieces (kid false) (eb j) n.b) ++ (spread (child_pieces (kid false) (ec j) n.c)
          ++ (spread (target_pieces n.kind n.c) ++ ((41 ∷ []) ++ spread (behind_pieces sibling (eb j) n.b)))))))
          ∙ ap (λ (l : Bytes). spread (Head n) ++ l) (sym spread_rest) ∙ sym (spread_app (Head n) (Rest n)) ∙ ap spread (form_pieces_lem e g))
          (puts_then w₀ (puts_then w₁ (puts_then w₂ (puts_then w₃ (puts_then w₄ (puts_then w₅ w₆))))))

-- The whole text.
laid_is : (xs : List Piece) → laid xs ≡ spread xs ++ (10 ∷ [])
unfolding laid spread
laid_is [] = refl
laid_is (x ∷ xs) = ap (λ (l : Bytes). x.before ++ x.word ++ l) (laid_is xs) ∙ (simp append_assoc)

pub whole_text : (q : Bytes) {s s₁ s₂ s₃ : Sheet} (e count : ℕ) → e ≡ edition q → count ≡ nodes q → Puts s (edition_word e) s₁
    → Puts s₁ (spread (pieces_f count q 0 false Signal (count - 1))) s₂ → Puts s₂ (10 ∷ []) s₃ → Puts s (printed q) s₃
unfolding printed pieces laid tight
whole_text q e count z c x y w =
    puts_as ((λ j. edition_word (z j) ++ (spread (pieces_f (c j) q 0 false Signal (c j - 1)) ++ (10 ∷ [])))
    ∙ ap (λ (l : Bytes). edition_word (edition q) ++ l) (sym (laid_is (pieces_f (nodes q) q 0 false Signal (nodes q - 1)))))
    (puts_then x (puts_then y w))
