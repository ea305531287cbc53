-- The pass over a node's fields: a field counts and is wrong as far as it names a child.
-- Assumes nothing.
use mathlib.Core.Path.{◌≡◌, refl, sym, ap, ◌∙◌}
use mathlib.Core.Bool.{Bool}
use Prim.Native.Nat.{ℕ}
use Rattle.rules.specs.Bytes.{Bytes, ◌and◌, ◌or◌}
use Rattle.rules.specs.Layout.{kind_at}
use Rattle.rules.specs.Node.{IsNode}
use Rattle.rules.specs.Kinds.{fields_of}
use Rattle.rules.specs.Shape.{is_child, child_wrong, children_wrong}
use Rattle.rules.specs.declared.Node.{Node}
use Rattle.rules.specs.declared.Field.{Field}
use Rattle.rules.specs.declared.Field.TheVariants.{Unused, Channel, PresentByte, Signal, Expression, FirstBranch, NextBranch, FirstCase, NextCase, Binder, Target}
use Rattle.kinds.specs.Rows.{child_number, child_numbered, as_child, row_of, a_in, b_in, c_in}
use Rattle.kinds.proofs.Digits.{a_of_lem, b_of, c_of_lem}
use Rattle.shape.specs.Counts.{counted, counted_in}

-- A field and what it is as a child are wrong alike, and counted alike.
abbrev Alike : Field → Field → Type 0
Alike g f =
    ((p : Bytes) (i x : ℕ) → child_wrong p i g x ≡ child_wrong p i f x) × ((l : Bytes) (x : ℕ) → counted l g x ≡ counted l f x)

alike : (f : Field) → Alike (as_child f) f
unfolding as_child child_numbered child_number child_wrong counted is_child ◌and◌
alike Unused = (λ p i x. refl, λ l x. refl)
alike Channel = (λ p i x. refl, λ l x. refl)
alike PresentByte = (λ p i x. refl, λ l x. refl)
alike Signal = (λ p i x. refl, λ l x. refl)
alike Expression = (λ p i x. refl, λ l x. refl)
alike FirstBranch = (λ p i x. refl, λ l x. refl)
alike NextBranch = (λ p i x. refl, λ l x. refl)
alike FirstCase = (λ p i x. refl, λ l x. refl)
alike NextCase = (λ p i x. refl, λ l x. refl)
alike Binder = (λ p i x. refl, λ l x. refl)
alike Target = (λ p i x. refl, λ l x. refl)

-- A child as the row of a kind says it.
as_field : (g f : Field) → g ≡ as_child f → Alike g f
as_field g f e = rw e (alike f)

-- What the pass over one node answers and leaves.
abbrev pub Passed : Bytes → ℕ → Bytes → Bool → Bytes → Type 0
Passed p i l r l' = (r ≡ children_wrong p i) × (l' ≡ counted_in p l i)

-- Three tests, and three counts one after the other.
three_tests : {a b c ab r x y z : Bool} → ab ≡ (a or b) → r ≡ (ab or c) → a ≡ x → b ≡ y → c ≡ z → r ≡ (x or y or z)
three_tests hab hr ea eb ec = cc

three_counts : (l : Bytes) {l₁ l₂ l₃ : Bytes} (f g h : Field) (x y z : ℕ) → l₁ ≡ counted l f x → l₂ ≡ counted l₁ g y → l₃ ≡ counted l₂ h z
    → l₃ ≡ counted (counted (counted l f x) g y) h z
three_counts l f g h x y z e₁ e₂ e₃ = cc

-- The three fields of a node, by its kind's row.
module _ {p : Bytes} {i : ℕ} {n : Node} (is : IsNode p i n) {row : ℕ} (said : row ≡ row_of n.kind) where
  pub passed : (l : Bytes) {l₁ l₂ l₃ : Bytes} {a b c ab r : Bool} {ga gb gc : Field} → ga ≡ a_in row → gb ≡ b_in row → gc ≡ c_in row
      → (a ≡ child_wrong p i ga n.a) × (l₁ ≡ counted l ga n.a)
      → (b ≡ child_wrong p i gb n.b) × (l₂ ≡ counted l₁ gb n.b)
      → (c ≡ child_wrong p i gc n.c) × (l₃ ≡ counted l₂ gc n.c)
      → ab ≡ (a or b) → r ≡ (ab or c) → Passed p i l r l₃
  unfolding children_wrong counted_in
  passed l {ga = ga} {gb = gb} {gc = gc} ea eb ec ha hb hc hab hr =
      let f = fields_of n.kind in
      let fa = as_field ga f.a (ea ∙ ap a_in said ∙ a_of_lem n.kind) in
      let fb = as_field gb f.b (eb ∙ ap b_in said ∙ b_of n.kind) in
      let fc = as_field gc f.c (ec ∙ ap c_in said ∙ c_of_lem n.kind) in
      let k : fields_of (kind_at p i) ≡ f = ap fields_of (sym is.kind_is) in (
        three_tests hab hr (ha.0 ∙ fa.0 p i n.a) (hb.0 ∙ fb.0 p i n.b) (hc.0 ∙ fc.0 p i n.c)
            ∙ rw (k, is.a_is, is.b_is, is.c_is),
        three_counts l f.a f.b f.c n.a n.b n.c (ha.1 ∙ fa.1 l n.a) (hb.1 ∙ fb.1 _ n.b) (hc.1 ∙ fc.1 _ n.c)
            ∙ rw (k, is.a_is, is.b_is, is.c_is),
      )
