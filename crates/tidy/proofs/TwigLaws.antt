-- The tree at a node is read off its record and the trees at its children, however many levels were asked for.
-- Assumes nothing.
use Rattle.std.specs.Prelude.{if◌then◌else◌}
use mathlib.Core.Path.{◌≡◌, refl, sym, ap, ◌∙◌}
use mathlib.Core.Bool.{Bool, true, false}
use Prim.Native.Nat.{ℕ, zero, suc, ◌<◌, ◌≤◌}
use native.Mathlib.Nat.{not-suc-le-zero}
use native.Mathlib.Omega.{arith}
use lib.Dec.{ltb}
use borrow.Author.Tests.{ltb-true, lt-ltb, le-ltb}
use Rattle.rules.specs.Bytes.{Bytes, ◌and◌}
use Rattle.rules.specs.Layout.{kind_at, type_at, a_at, b_at, c_at, word_at}
use Rattle.rules.specs.Kinds.{fields_of}
use Rattle.rules.specs.Shape.{is_child}
use Rattle.rules.specs.declared.Field.{Field}
use Rattle.rules.specs.declared.Fields.{Fields}
use Rattle.tidy.specs.Twig.{Twig, twig, Limb, holds, child, plain_in, type_in, word_in, limb_of, twig_as, twig_f, twig_at}

limb_same : (n : ℕ) (f : Field) (x : ℕ) (k k' : ℕ → Twig) → ((m : ℕ) → m < n → k m ≡ k' m) → limb_of n f x k ≡ limb_of n f x k'
unfolding limb_of ◌and◌
limb_same n f x k k' h = go (is_child f) (ltb x n) refl
  where
    go : (y b : Bool) → ltb x n ≡ b
        → (if y and b then child x (k x) else holds (plain_in f x)) ≡ (if y and b then child x (k' x) else holds (plain_in f x))
    go true true e = ap (child x) (h x (ltb-true x n e))
    go true false e = refl
    go false b e = refl

as_same : (p : Bytes) (n : ℕ) (k k' : ℕ → Twig) → ((m : ℕ) → m < n → k m ≡ k' m) → twig_as p n k ≡ twig_as p n k'
unfolding twig_as
as_same p n k k' h = λ i.
    let f = fields_of (kind_at p n) in
    twig n (kind_at p n) (type_in f.ty (type_at p n)) (word_in f.ty (word_at p n))
    (limb_same n f.a (a_at p n) k k' h i) (limb_same n f.b (b_at p n) k k' h i) (limb_same n f.c (c_at p n) k k' h i)

enough : (p : Bytes) (f g n : ℕ) → n < f → n < g → twig_f f p n ≡ twig_f g p n
unfolding twig_f
enough p zero g n hf hg = absurd (not-suc-le-zero hf)
enough p (suc f) zero n hf hg = absurd (not-suc-le-zero hg)
enough p (suc f) (suc g) n hf hg = as_same p n (λ m. twig_f f p m) (λ m. twig_f g p m) λ m h. enough p f g m (omega arith) (omega arith)

pub twig_law : (p : Bytes) (n : ℕ) → twig_at p n ≡ twig_as p n (twig_at p)
unfolding twig_at twig_f
twig_law p n = as_same p n (λ m. twig_f n p m) (λ m. twig_f (suc m) p m) λ m h. enough p n (suc m) m h (omega arith)

-- A field that is for a child and holds a smaller number; one that does not.
pub limb_child : (n : ℕ) (f : Field) (x : ℕ) (k : ℕ → Twig) → is_child f ≡ true → x < n → limb_of n f x k ≡ child x (k x)
unfolding limb_of ◌and◌
limb_child n f x k e h = simp (e, lt-ltb x n h)

pub limb_plain : (n : ℕ) (f : Field) (x : ℕ) (k : ℕ → Twig) → is_child f ≡ false → limb_of n f x k ≡ holds (plain_in f x)
unfolding limb_of ◌and◌
limb_plain n f x k e = simp e

pub limb_none : (n : ℕ) (f : Field) (x : ℕ) (k : ℕ → Twig) → n ≤ x → limb_of n f x k ≡ holds (plain_in f x)
unfolding limb_of ◌and◌
limb_none n f x k h = go (is_child f)
  where
    go : (b : Bool) → (if b and ltb x n then child x (k x) else holds (plain_in f x)) ≡ holds (plain_in f x)
    go true = simp (le-ltb x n h)
    go false = refl
