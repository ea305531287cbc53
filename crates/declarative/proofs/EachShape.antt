-- No fault of shape exactly when every node is as document 01 says.
-- Assumes nothing.
use Rattle.std.specs.Prelude.{if◌then◌else◌, None}
use mathlib.Core.Path.{◌≡◌, refl}
use mathlib.Core.Logic.{◌⊎◌, inl, inr}
use mathlib.Core.Bool.{Bool, true, false, not}
use Prim.Native.Nat.{ℕ, suc, ◌≤◌, ◌<◌}
use native.Mathlib.Omega.{arith}
use lib.Dec.{eqb, leb, ltb}
use borrow.Author.Tests.{leb-true, le-leb, ltb-true, lt-ltb, eqb-true, eqb-false, eq-eqb, ne_eqb}
use Rattle.rules.specs.Bytes.{Bytes, ◌and◌, first}
use Rattle.rules.specs.Layout.{nodes, kind_at, no_next}
use Rattle.rules.specs.Kinds.{is_signal, is_expression, is_branch, is_case}
use Rattle.rules.specs.Shape.{is_child, may_be, may_stop, child_wrong, children_wrong, named, shape_wrong}
use Rattle.rules.specs.declared.Field.{Field}
use Rattle.rules.specs.declared.Field.TheVariants.{Unused, Channel, PresentByte, Signal, Expression, FirstBranch, NextBranch, FirstCase, NextCase, Binder, Target}
use Rattle.rules.proofs.Static.{and_both}
use Rattle.rules.proofs.Kids.{or_none, not_not}
use Rattle.rules.proofs.ByKind.{choose}
use Rattle.declarative.specs.Shapes.{ChildRight, ChildrenRight, ShapeRight, WellShaped}
use Rattle.declarative.proofs.Free.{Finds, finds_first, nowhere_right, right_nowhere}
use Rattle.declarative.proofs.Joining.{and_true, or_false}

-- A denied test, and a test that holds, denied.
pub deny : {b : Bool} → b ≡ true → not b ≡ false
deny e = rw e

-- A number between two.
pub between : (a k b : ℕ) → (leb a k and leb k b) ≡ true → (a ≤ k) × (k ≤ b)
between a k b e = let h = and_both _ _ e in (leb-true a k h.0, leb-true k b h.1)

-- And the other way.
pub is_between : (a k b : ℕ) → (a ≤ k) × (k ≤ b) → (leb a k and leb k b) ≡ true
is_between a k b h = and_true (le-leb a k h.0) (le-leb k b h.1)

module _ (p : Bytes) (n : ℕ) where
  -- A child that is smaller and of a sort.
  some : {A : Type 0} (x : ℕ) (sort : Bool) → (sort ≡ true → A) → not (ltb x n and sort) ≡ false → (x < n) × A
  some x sort f e = let h = and_both _ _ (not_not _ e) in (ltb-true x n h.0, f h.1)

  -- And the other way.
  is_some : {A : Type 0} (x : ℕ) (sort : Bool) → (A → sort ≡ true) → (x < n) × A → not (ltb x n and sort) ≡ false
  is_some x sort f h = deny (and_true (lt-ltb x n h.0) (f h.1))

  -- One that may be none.
  next : {A : Type 0} (x : ℕ) (sort : Bool) → (sort ≡ true → A) → (not (eqb x no_next) and not (ltb x n and sort)) ≡ false
      → (x ≡ no_next) ⊎ ((x < n) × A)
  unfolding ◌and◌
  next x sort f e = choose x 65535 (λ q. inl q) (λ d. inr (some x sort f (simp (ne_eqb x 65535 d) at e)))

  -- And the other way.
  is_next : {A : Type 0} (x : ℕ) (sort : Bool) → (A → sort ≡ true) → (x ≡ no_next) ⊎ ((x < n) × A)
      → (not (eqb x no_next) and not (ltb x n and sort)) ≡ false
  unfolding ◌and◌
  is_next x sort f (inl q) = simp (eq-eqb x 65535 q)
  is_next x sort f (inr h) = go (not (eqb x no_next)) (is_some x sort f h)
    where
      go : (b : Bool) {c : Bool} → c ≡ false → (b and c) ≡ false
      go true e = e
      go false e = refl

  -- What a field without a fault says of its number.
  child_right : (f : Field) (x : ℕ) → child_wrong p n f x ≡ false → ChildRight f p n x
  unfolding child_wrong is_child may_stop may_be is_signal is_expression is_branch is_case ◌and◌
  child_right Unused x e = tt
  child_right Channel x e = tt
  child_right PresentByte x e = tt
  child_right Signal x e = some x (is_signal (kind_at p x)) (λ h. between 1 _ 8 h) e
  child_right Expression x e = some x (is_expression (kind_at p x)) (λ h. between 16 _ 29 h) e
  child_right FirstBranch x e = some x (is_branch (kind_at p x)) (λ h. eqb-true _ _ h) e
  child_right NextBranch x e = next x (is_branch (kind_at p x)) (λ h. eqb-true _ _ h) e
  child_right FirstCase x e = some x (is_case (kind_at p x)) (λ h. eqb-true _ _ h) e
  child_right NextCase x e = next x (is_case (kind_at p x)) (λ h. eqb-true _ _ h) e
  child_right Binder x e = tt
  child_right Target x e = tt

  -- And the other way.
  right_child : (f : Field) (x : ℕ) → ChildRight f p n x → child_wrong p n f x ≡ false
  unfolding child_wrong is_child may_stop may_be is_signal is_expression is_branch is_case ◌and◌
  right_child Unused x e = refl
  right_child Channel x e = refl
  right_child PresentByte x e = refl
  right_child Signal x e = is_some x (is_signal (kind_at p x)) (λ h. is_between 1 _ 8 h) e
  right_child Expression x e = is_some x (is_expression (kind_at p x)) (λ h. is_between 16 _ 29 h) e
  right_child FirstBranch x e = is_some x (is_branch (kind_at p x)) (λ h. eq-eqb _ _ h) e
  right_child NextBranch x e = is_next x (is_branch (kind_at p x)) (λ h. eq-eqb _ _ h) e
  right_child FirstCase x e = is_some x (is_case (kind_at p x)) (λ h. eq-eqb _ _ h) e
  right_child NextCase x e = is_next x (is_case (kind_at p x)) (λ h. eq-eqb _ _ h) e
  right_child Binder x e = refl
  right_child Target x e = refl

  -- All three fields.
  children_right : children_wrong p n ≡ false → ChildrenRight p n
  unfolding children_wrong
  children_right e =
      let o = or_none _ _ e in
      let o' = or_none _ _ o.0 in
      record { a = child_right _ _ o'.0; b = child_right _ _ o'.1; c = child_right _ _ o.1 }

  -- And the other way.
  right_children : ChildrenRight p n → children_wrong p n ≡ false
  unfolding children_wrong
  right_children h = or_false (or_false (right_child _ _ h.a) (right_child _ _ h.b)) (right_child _ _ h.c)

  -- A node without a fault keeps its own rule.
  shape_right : n < nodes p → shape_wrong p n ≡ false → ShapeRight p n
  unfolding shape_wrong is_signal
  shape_right l e = record {
    children = children_right (or_none _ _ e).0;
    once = λ h. eqb-true _ _ (not_not _ (simp (ne_eqb (suc n) (nodes p) (λ z. omega arith)) at (or_none _ _ e).1));
    last = λ q. between 1 _ 8 (not_not _ (simp (eq-eqb (suc n) (nodes p) q) at (or_none _ _ e).1));
  }

  -- And the other way.
  right_shape : n < nodes p → ShapeRight p n → shape_wrong p n ≡ false
  unfolding shape_wrong is_signal
  right_shape l w = or_false (right_children w.children) (go (eqb (suc n) (nodes p)) refl)
    where
      go : (b : Bool) → eqb (suc n) (nodes p) ≡ b → (if b then not (is_signal (kind_at p n)) else not (eqb (named p n) 1)) ≡ false
      go true e = deny (is_between 1 (kind_at p n) 8 (w.last (eqb-true (suc n) (nodes p) e)))
      go false e = let d = eqb-false (suc n) (nodes p) e in deny (eq-eqb _ _ (w.once (omega (arith, d))))

-- Below a bound no fault is found exactly when every node there keeps its own rule.
pub finds_shape : (p : Bytes) → Finds (first (shape_wrong p) (nodes p)) (ShapeRight p) (nodes p)
finds_shape p =
    finds_first (shape_wrong p) (nodes p) (ShapeRight p) (λ b h m i l. shape_right p m l (h m i l)) (λ b h m i l. right_shape p m l (h m i l))

-- No fault: every node is right.
pub each_shape : (p : Bytes) → first (shape_wrong p) (nodes p) ≡ None → WellShaped p
each_shape p e = record { each = nowhere_right _ _ _ (finds_shape p) e }

-- Every node is right: no fault.
pub shape_each : (p : Bytes) → WellShaped p → first (shape_wrong p) (nodes p) ≡ None
shape_each p w = right_nowhere _ _ _ (finds_shape p) w.each
