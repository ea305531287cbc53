-- Walking nothing, a node, and one list behind another; what a node's list is.
-- Assumes nothing.
use Rattle.std.specs.Prelude.{if◌then◌else◌}
use mathlib.Core.Path.{◌≡◌, refl, sym, ap, ◌∙◌}
use mathlib.Core.Bool.{Bool, true, false}
use mathlib.Core.List.{List, [], ◌∷◌, ◌++◌}
use Prim.Native.Nat.{ℕ, suc, ◌+◌, ◌≤◌, ◌<◌}
use native.Mathlib.Omega.{arith}
use lib.Dec.{ltb}
use lib.ListN.{length, set, length-append}
use Rattle.rules.specs.Bytes.{Bytes, write_at, ◌and◌}
use Rattle.rules.specs.Layout.{kind_at, a_at, b_at, c_at}
use Rattle.rules.specs.Kinds.{fields_of}
use Rattle.rules.specs.Shape.{is_child}
use Rattle.rules.specs.Tree.{below}
use Rattle.rules.specs.Node.{IsNode}
use Rattle.rules.specs.declared.Field.{Field}
use Rattle.rules.specs.declared.Node.{Node}
use Rattle.rules.proofs.Nodes.{below_lt, below_ge}
use Rattle.tidy.specs.Twig.{holds, child, plain_in, limb_of, twig_as, twig_at}
use Rattle.tidy.proofs.TwigLaws.{twig_law}
use Rattle.tidy.proofs.RowLaws.{write_more}
use Rattle.inorder.specs.Walked.{list_t, list_l, order_at, order_by, numbers, Walked}

numbers_more : (xs ys new : List ℕ) (m k : ℕ) → k ≡ m + length xs → numbers ys k (numbers xs m new) ≡ numbers (xs ++ ys) m new
unfolding numbers
numbers_more [] ys new m k e = ap (λ (j : ℕ). numbers ys j new) (let z : k ≡ m = omega arith in z)
numbers_more (x ∷ xs) ys new m k e = numbers_more xs ys (set new x m) (suc m) k (omega arith)

pub walked_none : (at : ℕ) (order new : List ℕ) → Walked [] at at order order new new
unfolding write_at numbers
walked_none at order new = record { from = omega arith; listed = refl; numbered = refl }

pub walked_as : {xs ys : List ℕ} {at r : ℕ} {o o' n n' : List ℕ} → xs ≡ ys → Walked xs at r o o' n n' → Walked ys at r o o' n n'
walked_as e w = rw (← e) w

pub walked_then : {xs ys : List ℕ} {a b c : ℕ} {o o₁ o₂ n n₁ n₂ : List ℕ} → Walked xs a b o o₁ n n₁ → Walked ys b c o₁ o₂ n₁ n₂ → Walked (xs ++ ys) a c o o₂ n n₂
walked_then {xs} {ys} {a} {b} {c} {o} {o₁} {o₂} {n} {n₁} {n₂} w v = record {
  from = omega (arith, w.from, v.from, length-append xs ys);
  listed = v.listed ∙ ap (λ (l : List ℕ). write_at l b ys) w.listed ∙ write_more xs ys o a b w.from;
  numbered = v.numbered ∙ ap (λ (l : List ℕ). numbers ys b l) w.numbered ∙ numbers_more xs ys n a b w.from;
}

pub walked_one : (i at : ℕ) (order new : List ℕ) → Walked (i ∷ []) at (at + 1) order (set order at i) new (set new i at)
unfolding write_at numbers
walked_one i at order new = record { from = refl; listed = refl; numbered = refl }

-- A field that is not walked; and one that is.
pub not_child : (p : Bytes) (i m : ℕ) (yes₀ : Bool) → yes₀ ≡ false → [] ≡ order_by p i yes₀ m
unfolding order_by
not_child p i m yes₀ e = sym (ap (λ (b : Bool). if b then below i [] (λ j. order_at p j) m else []) e)

pub not_smaller : (p : Bytes) (i m : ℕ) (yes₀ : Bool) → yes₀ ≡ true → i ≤ m → [] ≡ order_by p i yes₀ m
unfolding order_by
not_smaller p i m yes₀ e h = sym (ap (λ (b : Bool). if b then below i [] (λ j. order_at p j) m else []) e ∙ below_ge i [] (λ j. order_at p j) m h)

pub is_child_lem : (p : Bytes) (i m : ℕ) (yes₀ : Bool) → yes₀ ≡ true → m < i → order_at p m ≡ order_by p i yes₀ m
unfolding order_by
is_child_lem p i m yes₀ e h = sym (ap (λ (b : Bool). if b then below i [] (λ j. order_at p j) m else []) e ∙ below_lt i [] (λ j. order_at p j) m h)

-- A node's list, by its fields.
by_limb : (p : Bytes) (n : ℕ) (f : Field) (x : ℕ) → list_l (limb_of n f x (twig_at p)) ≡ order_by p n (is_child f) x
unfolding limb_of list_t order_at order_by below ◌and◌
by_limb p n f x = go (is_child f) (ltb x n)
  where
    go : (y b : Bool) → list_l (if y and b then child x (twig_at p x) else holds (plain_in f x)) ≡ (if y then (if b then list_t (twig_at p x) else []) else [])
    go true true = refl
    go true false = refl
    go false b = refl

module _ (p : Bytes) (i : ℕ) (n : Node) (is : IsNode p i n) (ya yb yc : Bool)
    (ea : ya ≡ is_child (fields_of n.kind).a) (eb : yb ≡ is_child (fields_of n.kind).b) (ec : yc ≡ is_child (fields_of n.kind).c) where
  abbrev A : List ℕ
  A = order_by p i ya n.a

  abbrev B : List ℕ
  B = order_by p i yb n.b

  abbrev C : List ℕ
  C = order_by p i yc n.c

  abbrev by : Node → List ℕ
  by m =
      order_by p i (is_child (fields_of m.kind).a) m.a ++ (order_by p i (is_child (fields_of m.kind).b) m.b ++ (order_by p i (is_child (fields_of m.kind).c) m.c ++ i ∷ []))

  abbrev there : Node
  there = record { kind = kind_at p i; ty = n.ty; a = a_at p i; b = b_at p i; c = c_at p i; word = n.word }

  pub node_order : A ++ (B ++ (C ++ i ∷ [])) ≡ order_at p i
  unfolding order_at list_t twig_as
  node_order =
      (λ j. order_by p i (ea j) n.a ++ (order_by p i (eb j) n.b ++ (order_by p i (ec j) n.c ++ i ∷ [])))
      ∙ (λ j. by (record { kind = is.kind_is j; ty = n.ty; a = is.a_is j; b = is.b_is j; c = is.c_is j; word = n.word }))
      ∙ sym (ap list_t (twig_law p i)
      ∙ (λ j. by_limb p i (fields_of (kind_at p i)).a (a_at p i) j ++ (by_limb p i (fields_of (kind_at p i)).b (b_at p i) j ++ (by_limb p i (fields_of (kind_at p i)).c (c_at p i) j ++ i ∷ []))))

  -- The lists fit where the node's does.
  pub fits : (at : ℕ) → at + length (order_at p i) ≤ 1008 → at + length A + length B + length C + 1 ≤ 1008
  fits at h = omega (arith, ap length node_order, length-append A (B ++ (C ++ i ∷ [])), length-append B (C ++ i ∷ []), length-append C (i ∷ []))

  pub node_walked : {at b c d : ℕ} {o o₁ o₂ o₃ m m₁ m₂ m₃ : List ℕ} → Walked A at b o o₁ m m₁ → Walked B b c o₁ o₂ m₁ m₂ → Walked C c d o₂ o₃ m₂ m₃
      → Walked (order_at p i) at (d + 1) o (set o₃ d i) m (set m₃ i d)
  node_walked {d = d} {o₃ = o₃} {m₃ = m₃} x y z = walked_as node_order (walked_then x (walked_then y (walked_then z (walked_one i d o₃ m₃))))
