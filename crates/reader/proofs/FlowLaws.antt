-- A form, part by part: where a part stops so does the form; else the form goes on behind it.
-- Assumes nothing.
use Rattle.std.specs.Prelude.{if◌then◌else◌}
use mathlib.Core.Path.{◌≡◌, refl, sym, ap, subst}
use mathlib.Core.Bool.{Bool, true, false}
use mathlib.Core.List.{List, []}
use Prim.Native.Nat.{ℕ, zero, suc}
use native.Mathlib.Omega.{arith}
use lib.Dec.{eqb, leb}
use lib.ListN.{get_or}
use borrow.Author.Tests.{eqb-true}
use Rattle.rules.specs.Bytes.{Bytes, ◌and◌ as ◌also◌}
use Rattle.rules.specs.Kinds.{fields_of, row}
use Rattle.rules.specs.declared.Field.{Field}
use Rattle.rules.specs.declared.Field.TheVariants.{Unused, Channel, PresentByte, Signal, Expression, FirstBranch, NextBranch, FirstCase, NextCase, Binder, Target}
use Rattle.rules.specs.declared.TypeField.TheVariants.{NoType, AnyType, PlainType, ValueType}
use Rattle.rules.specs.declared.Fields.{Fields}
use Rattle.texts.specs.Tokens.{Token, from}
use Rattle.texts.specs.Rows.{Sofar, Got, stopped, ◌onward◌}
use Rattle.texts.specs.Reader as R
use Rattle.texts.specs.Reader.{Held, Heading, Nodes, plainly}
use Rattle.labels.specs.Noted.{named_by}
use Rattle.reader.specs.Held.{why_in, gave_in, gave_head_in, heading_in, held_as, sofar_in}

-- What a part gave, and what then comes.
module _ {A B : Type 0} (f : ℕ → ℕ → A) (text : Bytes) (xs names : List ℕ) (k : A → List Token → Sofar → Got B) where
  pub onward_stop : (r : ℕ) (g : Got A) → gave_in f text xs names r ≡ g → r ≡ 0 → g onward k ≡ stopped (why_in xs)
  unfolding gave_in ◌onward◌
  onward_stop zero g e z = ap (λ (h : Got A). h onward k) (sym e)
  onward_stop (suc r) g e z = absurd (omega (arith, z))

  pub onward_on : (r : ℕ) (g : Got A) → gave_in f text xs names r ≡ g → (r ≡ 0 → ⊥) → g onward k ≡ k (f (get_or xs 3 0) (get_or xs 2 0)) (from text (get_or xs 2 0)) (sofar_in text xs names)
  unfolding gave_in ◌onward◌
  onward_on zero g e z = absurd (z refl)
  onward_on (suc r) g e z = ap (λ (h : Got A). h onward k) (sym e)

module _ {B : Type 0} (text : Bytes) (xs names : List ℕ) (k : Heading → List Token → Sofar → Got B) where
  pub headed_stop : (r : ℕ) (g : Got Heading) → gave_head_in text xs names r ≡ g → r ≡ 0 → g onward k ≡ stopped (why_in xs)
  unfolding gave_head_in ◌onward◌
  headed_stop zero g e z = ap (λ (h : Got Heading). h onward k) (sym e)
  headed_stop (suc r) g e z = absurd (omega (arith, z))

  pub headed_on : (r : ℕ) (g : Got Heading) → gave_head_in text xs names r ≡ g → (r ≡ 0 → ⊥) → g onward k ≡ k (heading_in text xs) (from text (get_or xs 2 0)) (sofar_in text xs names)
  unfolding gave_head_in ◌onward◌
  headed_on zero g e z = absurd (z refl)
  headed_on (suc r) g e z = ap (λ (h : Got Heading). h onward k) (sym e)

-- The rows of the table of kinds.
pick : {A : Type 0} (P : A → Type 0) (b : Bool) (x y : A) → (b ≡ true → P x) → P y → P (if b then x else y)
pick P true x y p q = p refl
pick P false x y p q = q

pub fields_all : (P : Fields → Type 0) (k : ℕ)
    → P (row NoType Channel Unused Unused)
    → P (row NoType Expression Unused Unused)
    → P (row ValueType Signal PresentByte Unused)
    → P (row AnyType Signal Signal Unused)
    → P (row PlainType Signal Signal Signal)
    → P (row NoType Signal FirstBranch Unused)
    → P (row NoType Signal FirstCase Unused)
    → P (row PlainType Signal NextBranch Unused)
    → (eqb k 10 ≡ true → P (row NoType Signal NextCase Target))
    → P (row NoType Binder Unused Unused)
    → P (row ValueType Unused PresentByte Unused)
    → P (row NoType Expression Expression Unused)
    → P (row NoType Expression Expression Expression)
    → P (row PlainType Expression Expression Expression)
    → P (row NoType Unused Unused Unused)
    → P (fields_of k)
unfolding fields_of
fields_all P k p1 p3 p4 p5 p6 p7 p8 p9 p10 p16 p17 p18 p27 p29 p2 =
    pick P (eqb k 1) _ _ (λ _. p1)
    (pick P (eqb k 3) _ _ (λ _. p3)
    (pick P (eqb k 4) _ _ (λ _. p4)
    (pick P (eqb k 5) _ _ (λ _. p5)
    (pick P (eqb k 6) _ _ (λ _. p6)
    (pick P (eqb k 7) _ _ (λ _. p7)
    (pick P (eqb k 8) _ _ (λ _. p8)
    (pick P (eqb k 9) _ _ (λ _. p9)
    (pick P (eqb k 10) _ _ p10
    (pick P (eqb k 16) _ _ (λ _. p16)
    (pick P (eqb k 17) _ _ (λ _. p17)
    (pick P (leb 18 k also leb k 23) _ _ (λ _. p18)
    (pick P (eqb k 24) _ _ (λ _. p3)
    (pick P (leb 25 k also leb k 26) _ _ (λ _. p18)
    (pick P (eqb k 27) _ _ (λ _. p27)
    (pick P (eqb k 28) _ _ (λ _. p3)
    (pick P (eqb k 29) _ _ (λ _. p29) p2))))))))))))))))

-- A number held.
unfoldable pub plain : ℕ → Held
plain x = record { number = x; name = [] }

module _ (text : Bytes) (k x at : ℕ) where
  pub held_a : (held_as text (fields_of k).a x at).number ≡ x
  unfolding held_as row
  held_a = fields_all (λ fs. (held_as text fs.a x at).number ≡ x) k refl refl refl refl refl refl refl refl (λ _. refl) refl refl refl refl refl refl

  pub held_b : (held_as text (fields_of k).b x at).number ≡ x
  unfolding held_as row
  held_b = fields_all (λ fs. (held_as text fs.b x at).number ≡ x) k refl refl refl refl refl refl refl refl (λ _. refl) refl refl refl refl refl refl

  pub held_c : (k ≡ 10 → ⊥) → held_as text (fields_of k).c x at ≡ plain x
  unfolding held_as row plain
  held_c d =
      fields_all (λ fs. held_as text fs.c x at ≡ plain x) k refl refl refl refl refl refl refl refl (λ e. absurd (d (eqb-true k 10 e))) refl refl refl refl refl refl

  pub held_target : k ≡ 10 → held_as text (fields_of k).c x at ≡ record { number = 0; name = named_by text x at }
  unfolding held_as row fields_of
  held_target e = ap (λ (m : ℕ). held_as text (fields_of m).c x at) e

-- The last field's present byte is not asked for.
pub present_c : (node : Nodes) (bs : List Bytes) (k p q finish : ℕ) (ts : List Token) (so : Sofar)
    → R.field node bs (fields_of k).c p finish ts so ≡ R.field node bs (fields_of k).c q finish ts so
unfolding R.field row
present_c node bs k p q finish ts so =
    fields_all (λ fs. R.field node bs fs.c p finish ts so ≡ R.field node bs fs.c q finish ts so) k refl refl refl refl refl refl refl refl (λ _. refl) refl refl refl refl refl refl

-- A field by another name.
pub field_as : (text : Bytes) (node : Nodes) (bs : List Bytes) (p finish : ℕ) (ts : List Token) (so : Sofar) (xs names : List ℕ) (r : ℕ) (f g : Field) → f ≡ g
    → gave_in (held_as text f) text xs names r ≡ R.field node bs f p finish ts so → gave_in (held_as text g) text xs names r ≡ R.field node bs g p finish ts so
field_as text node bs p finish ts so xs names r f g e q = subst (λ d. gave_in (held_as text d) text xs names r ≡ R.field node bs d p finish ts so) e q

pub behind_as : (node : Nodes) (p : ℕ) (ts : List Token) (so : Sofar) (x : Got ℕ) (f g : Field) → f ≡ g → x ≡ R.behind node f p ts so → x ≡ R.behind node g p ts so
behind_as node p ts so x f g e q = subst (λ d. x ≡ R.behind node d p ts so) e q
