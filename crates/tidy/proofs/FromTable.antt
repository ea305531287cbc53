-- The tree at a node of an accepted program is what its records say.
-- Assumes nothing.
use Rattle.std.specs.Prelude.{if◌then◌else◌}
use mathlib.Core.Path.{◌≡◌, refl, sym, ap, ◌∙◌, subst}
use mathlib.Core.Bool.{Bool, true, false, not}
use Prim.Native.Nat.{ℕ, zero, suc, ◌≤◌, ◌<◌}
use native.Mathlib.Nat.{not-suc-le-zero}
use native.Mathlib.Omega.{arith}
use lib.Dec.{eqb, ltb}
use borrow.Author.Tests.{eqb-true, ltb-true, ltb-false}
use Rattle.rules.specs.Bytes.{Bytes, ◌and◌}
use Rattle.rules.specs.Layout.{nodes, kind_at, type_at, a_at, b_at, c_at, word_at}
use Rattle.rules.specs.Format.{field_wrong, type_field_wrong, node_wrong}
use Rattle.rules.specs.Kinds.{row, fields_of}
use Rattle.rules.specs.Shape.{is_child}
use Rattle.rules.specs.Shaped.{Shaped}
use Rattle.rules.specs.Accepted.{Formed}
use Rattle.rules.specs.declared.Field.{Field}
use Rattle.rules.specs.declared.Field.TheVariants.{Unused, Channel, PresentByte, Signal, Expression, FirstBranch, NextBranch, FirstCase, NextCase, Binder, Target}
use Rattle.rules.specs.declared.Fields.{Fields}
use Rattle.rules.specs.declared.TypeField.{TypeField}
use Rattle.rules.specs.declared.TypeField.TheVariants.{NoType, AnyType, PlainType, ValueType}
use Rattle.rules.proofs.Static.{and_both, not_both}
use Rattle.rules.proofs.Kids.{Kid, kids, or_none, not_not}
use Rattle.rules.proofs.Recorded.{node_right}
use Rattle.rules.proofs.ByKind.{choose}
use Rattle.tidy.specs.Twig.{Twig, twig, Limb, holds, child, held_in, plain_in, type_in, word_in, limb_of, twig_as, twig_at}
use Rattle.tidy.proofs.TwigLaws.{twig_law, limb_child}
use Rattle.tidy.proofs.Pruned.{top_t, IsHeld, IsChild, Flagged, Here, From, FromL}

-- A field, a type and a word that are not named are zero.
plain_right : (f : Field) (x : ℕ) → field_wrong f x ≡ false → plain_in f x ≡ x
unfolding field_wrong plain_in
plain_right Unused x e = sym (eqb-true x 0 (not_not _ e))
plain_right Channel x e = refl
plain_right PresentByte x e = refl
plain_right Signal x e = refl
plain_right Expression x e = refl
plain_right FirstBranch x e = refl
plain_right NextBranch x e = refl
plain_right FirstCase x e = refl
plain_right NextCase x e = refl
plain_right Binder x e = refl
plain_right Target x e = refl

type_right : (f : TypeField) (t b w : ℕ) → type_field_wrong f t b w ≡ false → (type_in f t ≡ t) × (word_in f w ≡ w)
unfolding type_field_wrong type_in word_in
type_right NoType t b w e = let z = and_both _ _ (not_not _ e) in (sym (eqb-true t 0 z.0), sym (eqb-true w 0 z.1))
type_right AnyType t b w e = let z = and_both _ _ (not_not _ e) in (refl, sym (eqb-true w 0 z.1))
type_right PlainType t b w e = let z = and_both _ _ (not_not _ e) in (refl, sym (eqb-true w 0 z.1))
type_right ValueType t b w e = (refl, refl)

-- A field for a child that holds no smaller number holds 65535.
kid_far : (f : Field) (p : Bytes) (n x : ℕ) → Kid f p n x → is_child f ≡ true → n ≤ x → x ≡ 65535
unfolding is_child
kid_far Unused p n x k e h = absurd (not_both e)
kid_far Channel p n x k e h = absurd (not_both e)
kid_far PresentByte p n x k e h = absurd (not_both e)
kid_far Signal p n x k e h = absurd (omega (arith, k.less))
kid_far Expression p n x k e h = absurd (omega (arith, k.less))
kid_far FirstBranch p n x k e h = absurd (omega (arith, k.less))
kid_far NextBranch p n x k e h = choose x 65535 (λ z. z) (λ d. absurd (omega (arith, (k d).less)))
kid_far FirstCase p n x k e h = absurd (omega (arith, k.less))
kid_far NextCase p n x k e h = choose x 65535 (λ z. z) (λ d. absurd (omega (arith, (k d).less)))
kid_far Binder p n x k e h = absurd (not_both e)
kid_far Target p n x k e h = absurd (not_both e)

module _ (p : Bytes) (n : ℕ) (f : Field) (x : ℕ) (right : field_wrong f x ≡ false) (kid : Kid f p n x) where
  limb_held : held_in (limb_of n f x (twig_at p)) ≡ x
  unfolding limb_of held_in
  limb_held = go (is_child f and ltb x n)
    where
      go : (b : Bool) → held_in (if b then child x (twig_at p x) else holds (plain_in f x)) ≡ x
      go true = refl
      go false = plain_right f x right

  limb_flag : Flagged (is_child f) (limb_of n f x (twig_at p))
  unfolding limb_of ◌and◌
  limb_flag = go (is_child f) refl (ltb x n) refl
    where
      go : (y : Bool) → is_child f ≡ y → (b : Bool) → ltb x n ≡ b → Flagged y (if y and b then child x (twig_at p x) else holds (plain_in f x))
      go true e true l = refl
      go true e false l = λ z. let w = kid_far f p n x kid e (ltb-false x n l) in let v = plain_right f x right in omega arith
      go false e b l = λ z. absurd (not_both z)

  limb_from : ((m : ℕ) → m < n → (top_t (twig_at p m) ≡ m) × From (twig_at p m) p) → FromL (limb_of n f x (twig_at p)) p n
  unfolding limb_of ◌and◌
  limb_from ih = go (is_child f) (ltb x n) refl
    where
      go : (y b : Bool) → ltb x n ≡ b → FromL (if y and b then child x (twig_at p x) else holds (plain_in f x)) p n
      go true true l = let h = ltb-true x n l in (h, (ih x h).0, (ih x h).1)
      go true false l = tt
      go false b l = tt

pub top_is : (p : Bytes) (n : ℕ) → top_t (twig_at p n) ≡ n
unfolding top_t twig_as
top_is p n = ap top_t (twig_law p n)

module _ (p : Bytes) (formed : Formed p) (shaped : Shaped p) where
  module _ (n : ℕ) (h : n < nodes p) where
    abbrev F : Fields
    F = fields_of (kind_at p n)

    wrongs : (type_field_wrong F.ty (type_at p n) (b_at p n) (word_at p n) ≡ false) × (field_wrong F.a (a_at p n) ≡ false) × (field_wrong F.b (b_at p n) ≡ false)
        × (field_wrong F.c (c_at p n) ≡ false)
    unfolding node_wrong
    wrongs =
        let o₁ = or_none _ _ (node_right p formed n h) in
        let o₂ = or_none _ _ o₁.0 in
        let o₃ = or_none _ _ o₂.0 in
        let o₄ = or_none _ _ o₃.0 in
        (o₄.1, o₃.1, o₂.1, o₁.1)

    kids₀ : Kid F.a p n (a_at p n) × Kid F.b p n (b_at p n) × Kid F.c p n (c_at p n)
    kids₀ = kids p n shaped h (kind_at p n) refl

    abbrev La : Limb
    La = limb_of n F.a (a_at p n) (twig_at p)

    abbrev Lb : Limb
    Lb = limb_of n F.b (b_at p n) (twig_at p)

    abbrev Lc : Limb
    Lc = limb_of n F.c (c_at p n) (twig_at p)

    held_16 : (k : ℕ) → k ≡ 16 → IsHeld (limb_of n (fields_of k).a (a_at p n) (twig_at p)) × IsHeld (limb_of n (fields_of k).b (b_at p n) (twig_at p))
        × IsHeld (limb_of n (fields_of k).c (c_at p n) (twig_at p))
    unfolding limb_of fields_of row is_child ◌and◌
    held_16 k e = rw e (tt, tt, tt)

    held_5 : (k : ℕ) → k ≡ 5 → IsHeld (limb_of n (fields_of k).c (c_at p n) (twig_at p))
    unfolding limb_of fields_of row is_child ◌and◌
    held_5 k e = rw e tt

    child_5 : kind_at p n ≡ 5 → IsChild Lb
    unfolding fields_of row is_child
    child_5 e = rw e (subst IsChild (sym (limb_child n Signal (b_at p n) (twig_at p) refl (kids p n shaped h 5 e).1.less)) tt)

    here_is : Here p n (kind_at p n) (type_in F.ty (type_at p n)) (word_in F.ty (word_at p n)) La Lb Lc
    here_is =
        let w = wrongs in
        let k = kids₀ in
        let t = type_right F.ty (type_at p n) (b_at p n) (word_at p n) w.0 in
        record {
          inside = h;
          small = omega (arith, shaped.small);
          kind_is = refl;
          type_is = t.0;
          word_is = t.1;
          a_is = limb_held p n F.a (a_at p n) w.1 k.0;
          b_is = limb_held p n F.b (b_at p n) w.2 k.1;
          c_is = limb_held p n F.c (c_at p n) w.3 k.2;
          a_flag = limb_flag p n F.a (a_at p n) w.1 k.0;
          b_flag = limb_flag p n F.b (b_at p n) w.2 k.1;
          c_flag = limb_flag p n F.c (c_at p n) w.3 k.2;
          variable = held_16 (kind_at p n);
          body = λ e. (child_5 e, held_5 (kind_at p n) e);
        }

    from_step : ((m : ℕ) → m < n → (top_t (twig_at p m) ≡ m) × From (twig_at p m) p) → From (twig_at p n) p
    unfolding twig_as
    from_step ih =
        let w = wrongs in
        let k = kids₀ in
        subst (λ (t : Twig). From t p) (sym (twig_law p n))
        (here_is, limb_from p n F.a (a_at p n) w.1 k.0 ih, limb_from p n F.b (b_at p n) w.2 k.1 ih, limb_from p n F.c (c_at p n) w.3 k.2 ih)

  from_all : (g n : ℕ) → n < g → n < nodes p → From (twig_at p n) p
  from_all zero n l h = absurd (not-suc-le-zero l)
  from_all (suc g) n l h = from_step n h (λ m i. (top_is p m, from_all g m (omega arith) (omega arith)))

  pub from_table : (n : ℕ) → n < nodes p → From (twig_at p n) p
  from_table n h = from_all (suc n) n (omega arith) h
