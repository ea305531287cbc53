-- The children of a node of a shaped program: smaller, and of the sort that the field asks for. One law for all kinds.
-- Assumes nothing.
use mathlib.Core.Path.{◌≡◌, refl, sym, subst}
use mathlib.Core.Bool.{Bool, true, false, not}
use Prim.Native.Nat.{ℕ, ◌<◌}
use native.Mathlib.Omega.{arith}
use lib.Dec.{ltb}
use borrow.Author.Tests.{ltb-true, ne_eqb}
use Rattle.rules.specs.Bytes.{Bytes, ◌and◌, ◌or◌}
use Rattle.rules.specs.Layout.{nodes, kind_at, a_at, b_at, c_at}
use Rattle.rules.specs.declared.Field.{Field}
use Rattle.rules.specs.declared.Field.TheVariants.{Unused, Channel, PresentByte, Signal, Expression, FirstBranch, NextBranch, FirstCase, NextCase, Binder, Target}
use Rattle.rules.specs.Kinds.{is_signal, is_expression, is_branch, is_case, fields_of}
use Rattle.rules.specs.Shape.{is_child, may_be, may_stop, child_wrong, children_wrong}
use Rattle.rules.proofs.Static.{and_both, not_both}
use Rattle.rules.specs.Shaped.{Shaped, NodeOf}

-- Node x is a child of node n, of a sort.
pub record Child (sort : ℕ → Bool) (p : Bytes) (n x : ℕ) : Type 0 where
  pub less : x < n
  pub node : NodeOf sort p x

-- What a field says of the number in it.
abbrev pub Kid : Field → Bytes → ℕ → ℕ → Type 0
Kid Unused p n x = Unit {0}
Kid Channel p n x = Unit {0}
Kid PresentByte p n x = Unit {0}
Kid Signal p n x = Child is_signal p n x
Kid Expression p n x = Child is_expression p n x
Kid FirstBranch p n x = Child is_branch p n x
Kid NextBranch p n x = (x ≡ 65535 → ⊥) → Child is_branch p n x
Kid FirstCase p n x = Child is_case p n x
Kid NextCase p n x = (x ≡ 65535 → ⊥) → Child is_case p n x
Kid Binder p n x = Unit {0}
Kid Target p n x = Unit {0}

pub or_none : (a b : Bool) → (a or b) ≡ false → (a ≡ false) × (b ≡ false)
unfolding ◌or◌
or_none true b e = absurd (not_both (sym e))
or_none false b e = (refl, e)

pub not_not : (a : Bool) → not a ≡ false → a ≡ true
not_not true e = refl
not_not false e = absurd (not_both (sym e))

module _ (p : Bytes) (n : ℕ) (s : Shaped p) (h : n < nodes p) where
  child : (sort : ℕ → Bool) (x : ℕ) → (ltb x n and sort (kind_at p x)) ≡ true → Child sort p n x
  child sort x e =
      let b = and_both _ _ e in
      let l = ltb-true x n b.0 in
      record { less = l; node = record { shaped = s; inside = omega arith; sorted = b.1 } }

  kid : (f : Field) (x : ℕ) → child_wrong p n f x ≡ false → Kid f p n x
  unfolding child_wrong is_child may_stop may_be ◌and◌
  kid Unused x e = tt
  kid Channel x e = tt
  kid PresentByte x e = tt
  kid Signal x e = child is_signal x (not_not _ e)
  kid Expression x e = child is_expression x (not_not _ e)
  kid FirstBranch x e = child is_branch x (not_not _ e)
  kid NextBranch x e = λ d. child is_branch x (not_not _ (rw (ne_eqb x 65535 d) at e))
  kid FirstCase x e = child is_case x (not_not _ e)
  kid NextCase x e = λ d. child is_case x (not_not _ (rw (ne_eqb x 65535 d) at e))
  kid Binder x e = tt
  kid Target x e = tt

  -- The three fields of a node of kind k.
  pub kids : (k : ℕ) → kind_at p n ≡ k → Kid (fields_of k).a p n (a_at p n) × Kid (fields_of k).b p n (b_at p n) × Kid (fields_of k).c p n (c_at p n)
  unfolding children_wrong
  kids k e =
      let o = or_none _ _ (s.children n h) in
      let o' = or_none _ _ o.0 in
      rw (← e) (kid _ _ o'.0, kid _ _ o'.1, kid _ _ o.1)

-- The same child, by the field that was read.
pub read : {sort : ℕ → Bool} {p : Bytes} {n x y : ℕ} → x ≡ y → Child sort p n y → Child sort p n x
read {sort} {p} {n} e k = subst (Child sort p n) (sym e) k
