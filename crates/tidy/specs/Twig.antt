-- A table as a tree without regard to kinds: each node with its number and its record, each field a number or a child. What the walks of the
-- code go over.
-- Assumes nothing: these are definitions.
use Rattle.std.specs.Prelude.{ℕ, zero, suc, Bool, true, false, eqb, ltb, if◌then◌else◌}
use Rattle.rules.specs.Bytes.{Bytes, ◌and◌}
use Rattle.rules.specs.Layout.{kind_at, type_at, a_at, b_at, c_at, word_at}
use Rattle.rules.specs.Kinds.{fields_of}
use Rattle.rules.specs.Shape.{is_child}
use Rattle.rules.specs.declared.Field.{Field}
use Rattle.rules.specs.declared.Field.TheVariants.{Unused, Channel, PresentByte, Signal, Expression, FirstBranch, NextBranch, FirstCase, NextCase, Binder, Target}
use Rattle.rules.specs.declared.TypeField.{TypeField}
use Rattle.rules.specs.declared.TypeField.TheVariants.{NoType, AnyType, PlainType, ValueType}

mutual
  pub data Twig : Type 0 where
    twig : (n kind type word : ℕ) (a b c : Limb) → Twig

  pub data Limb : Type 0 where
    holds : (x : ℕ) → Limb
    child : (x : ℕ) (t : Twig) → Limb

-- The number in a field.
unfoldable pub held_in : Limb → ℕ
held_in (holds x) = x
held_in (child x t) = x

-- A field not named for its kind is zero, and so is a type or a word.
unfoldable pub plain_in : Field → ℕ → ℕ
plain_in Unused x = 0
plain_in Channel x = x
plain_in PresentByte x = x
plain_in Signal x = x
plain_in Expression x = x
plain_in FirstBranch x = x
plain_in NextBranch x = x
plain_in FirstCase x = x
plain_in NextCase x = x
plain_in Binder x = x
plain_in Target x = x

unfoldable pub type_in : TypeField → ℕ → ℕ
type_in NoType t = 0
type_in AnyType t = t
type_in PlainType t = t
type_in ValueType t = t

unfoldable pub word_in : TypeField → ℕ → ℕ
word_in NoType w = 0
word_in AnyType w = 0
word_in PlainType w = 0
word_in ValueType w = w

-- A field of node n: a child, if it is for one and its number is smaller.
unfoldable pub limb_of : ℕ → Field → ℕ → (ℕ → Twig) → Limb
limb_of n f x kid = if is_child f and ltb x n then child x (kid x) else holds (plain_in f x)

-- The tree of so many levels below node n; and of all.
unfoldable pub twig_as : Bytes → ℕ → (ℕ → Twig) → Twig
twig_as p n kid =
    let f = fields_of (kind_at p n) in
    twig n (kind_at p n) (type_in f.ty (type_at p n)) (word_in f.ty (word_at p n))
    (limb_of n f.a (a_at p n) kid) (limb_of n f.b (b_at p n) kid) (limb_of n f.c (c_at p n) kid)

unfoldable pub twig_f : ℕ → Bytes → ℕ → Twig
twig_f zero p n = twig n 0 0 0 (holds 0) (holds 0) (holds 0)
twig_f (suc f) p n = twig_as p n (λ m. twig_f f p m)

unfoldable pub twig_at : Bytes → ℕ → Twig
twig_at p n = twig_f (suc n) p n
