-- A field, and what the code takes it for by the row of its kind, are broken alike.
-- Assumes nothing.
use Rattle.std.specs.Prelude.{if◌then◌else◌}
use mathlib.Core.Path.{◌≡◌, refl, sym, ap, ◌∙◌, subst}
use mathlib.Core.Bool.{Bool, true, false}
use Prim.Native.Nat.{ℕ, ◌<◌}
use lib.Dec.{eqb, leb}
use borrow.Author.Tests.{eq-eqb, ne_eqb, eqb-true}
use Rattle.rules.specs.Bytes.{Bytes, ◌and◌}
use Rattle.rules.specs.Kinds.{row, fields_of}
use Rattle.rules.specs.Shape.{is_child, may_stop}
use Rattle.rules.specs.declared.Field.{Field}
use Rattle.rules.specs.declared.Field.TheVariants.{Unused, Channel, PresentByte, Signal, Expression, FirstBranch, NextBranch, FirstCase, NextCase, Binder, Target}
use Rattle.rules.specs.declared.TypeField.{TypeField}
use Rattle.rules.specs.declared.Fields.{Fields}
use Rattle.rules.proofs.Static.{not_both}
use Rattle.rules.proofs.ByKind.{choose}
use Rattle.kinds.specs.Rows.{child_number, child_numbered, as_child, row_of, a_in, b_in, c_in}
use Rattle.kinds.proofs.Digits.{a_of_lem, b_of, c_of_lem}
use Rattle.dropped.specs.Clauses.{unless, next_broken, field_broken}
use Rattle.reaching.specs.Leads.{InField}
use Rattle.pairing.specs.Asked.{a_of, c_of}

-- A field that names a node which is no child.
unfoldable points : Field → Bool
points Unused = false
points Channel = false
points PresentByte = false
points Signal = false
points Expression = false
points FirstBranch = false
points NextBranch = false
points FirstCase = false
points NextCase = false
points Binder = true
points Target = true

-- Of a node of kind k only a variable's a and a case's c do.
record PointsIn (k : ℕ) (r : Fields) : Type 0 where
  in_a : (k ≡ 16 → ⊥) → points r.a ≡ false
  not_b : points r.b ≡ false
  in_c : (k ≡ 10 → ⊥) → points r.c ≡ false

by_test : {k : ℕ} (b : Bool) (x y : Fields) → (b ≡ true → PointsIn k x) → PointsIn k y → PointsIn k (if b then x else y)
by_test true x y f g = f refl
by_test false x y f g = g

none : {k : ℕ} (t : TypeField) (x y z : Field) → points x ≡ false → points y ≡ false → points z ≡ false → PointsIn k (row t x y z)
unfolding row
none t x y z a b c = record { in_a = λ _. a; not_b = b; in_c = λ _. c }

points_in : (k : ℕ) → PointsIn k (fields_of k)
unfolding fields_of points row
points_in k =
    by_test (eqb k 1) _ _ (λ _. none _ _ _ _ refl refl refl)
    (by_test (eqb k 3) _ _ (λ _. none _ _ _ _ refl refl refl)
    (by_test (eqb k 4) _ _ (λ _. none _ _ _ _ refl refl refl)
    (by_test (eqb k 5) _ _ (λ _. none _ _ _ _ refl refl refl)
    (by_test (eqb k 6) _ _ (λ _. none _ _ _ _ refl refl refl)
    (by_test (eqb k 7) _ _ (λ _. none _ _ _ _ refl refl refl)
    (by_test (eqb k 8) _ _ (λ _. none _ _ _ _ refl refl refl)
    (by_test (eqb k 9) _ _ (λ _. none _ _ _ _ refl refl refl)
    (by_test (eqb k 10) _ _ (λ e. record { in_a = λ _. refl; not_b = refl; in_c = λ d. absurd (d (eqb-true k 10 e)) })
    (by_test (eqb k 16) _ _ (λ e. record { in_a = λ d. absurd (d (eqb-true k 16 e)); not_b = refl; in_c = λ _. refl })
    (by_test (eqb k 17) _ _ (λ _. none _ _ _ _ refl refl refl)
    (by_test (leb 18 k and leb k 23) _ _ (λ _. none _ _ _ _ refl refl refl)
    (by_test (eqb k 24) _ _ (λ _. none _ _ _ _ refl refl refl)
    (by_test (leb 25 k and leb k 26) _ _ (λ _. none _ _ _ _ refl refl refl)
    (by_test (eqb k 27) _ _ (λ _. none _ _ _ _ refl refl refl)
    (by_test (eqb k 28) _ _ (λ _. none _ _ _ _ refl refl refl)
    (by_test (eqb k 29) _ _ (λ _. none _ _ _ _ refl refl refl)
    (none _ _ _ _ refl refl refl)))))))))))))))))

-- Two fields that are broken alike; and a child of the one is a child of the other.
pub record Alike (g f : Field) : Type 0 where
  pub broken : (p : Bytes) (count : ℕ) (π : ℕ → ℕ) (d x y : ℕ) → field_broken p count π d g x y ≡ field_broken p count π d f x y
  pub inside : (p : Bytes) (y : ℕ) → InField p f y → InField p g y

same : {g f : Field} → g ≡ f → Alike g f
same e = record { broken = λ p count π d x y. ap (λ (h : Field). field_broken p count π d h x y) e; inside = λ p y h. subst (λ (k : Field). InField p k y) (sym e) h }

as_child_lem : (f : Field) → points f ≡ false → Alike (as_child f) f
unfolding as_child child_numbered child_number field_broken is_child may_stop points
as_child_lem Unused e = record { broken = λ p count π d x y. refl; inside = λ p y h. h }
as_child_lem Channel e = record { broken = λ p count π d x y. refl; inside = λ p y h. h }
as_child_lem PresentByte e = record { broken = λ p count π d x y. refl; inside = λ p y h. h }
as_child_lem Signal e = record { broken = λ p count π d x y. refl; inside = λ p y h. h }
as_child_lem Expression e = record { broken = λ p count π d x y. refl; inside = λ p y h. h }
as_child_lem FirstBranch e = record { broken = λ p count π d x y. refl; inside = λ p y h. h }
as_child_lem NextBranch e = record { broken = λ p count π d x y. refl; inside = λ p y h. h }
as_child_lem FirstCase e = record { broken = λ p count π d x y. refl; inside = λ p y h. h }
as_child_lem NextCase e = record { broken = λ p count π d x y. refl; inside = λ p y h. h }
as_child_lem Binder e = absurd (not_both (sym e))
as_child_lem Target e = absurd (not_both (sym e))

by_row : {g h f : Field} → g ≡ h → h ≡ as_child f → points f ≡ false → Alike g f
by_row {f = f} e q n = subst (λ (k : Field). Alike k f) (sym (e ∙ q)) (as_child_lem f n)

-- The three fields of a kind.
module _ (k : ℕ) {r : ℕ} (said : r ≡ row_of k) where
  binder : k ≡ 16 → Binder ≡ (fields_of k).a
  unfolding fields_of row
  binder z = ap (λ (j : ℕ). (fields_of j).a) (sym z)

  pub a_alike : {g : Field} → g ≡ a_of k r → Alike g (fields_of k).a
  unfolding a_of
  a_alike {g} e =
      choose k 16
      (λ z. same (e ∙ (let w : a_of k r ≡ Binder = simp (eq-eqb k 16 z) in w) ∙ binder z))
      (λ d. by_row e ((let w : a_of k r ≡ a_in r = simp (ne_eqb k 16 d) in w) ∙ ap a_in said ∙ a_of_lem k) ((points_in k).in_a d))

  pub b_alike : {g : Field} → g ≡ b_in r → Alike g (fields_of k).b
  b_alike e = by_row e (ap b_in said ∙ b_of k) (points_in k).not_b

  target : k ≡ 10 → Target ≡ (fields_of k).c
  unfolding fields_of row
  target z = ap (λ (j : ℕ). (fields_of j).c) (sym z)

  pub c_alike : {g : Field} → g ≡ c_of k r → Alike g (fields_of k).c
  unfolding c_of
  c_alike {g} e =
      choose k 10
      (λ z. same (e ∙ (let w : c_of k r ≡ Target = simp (eq-eqb k 10 z) in w) ∙ target z))
      (λ d. by_row e ((let w : c_of k r ≡ c_in r = simp (ne_eqb k 10 d) in w) ∙ ap c_in said ∙ c_of_lem k) ((points_in k).in_c d))
