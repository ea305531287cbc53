-- An expression of each kind in a shaped program: its children, and its tree over theirs.
-- Assumes nothing.
use mathlib.Core.Path.{◌≡◌, refl, ◌∙◌}
use mathlib.Core.Bool.{Bool, true, false}
use Prim.Native.Nat.{ℕ, ◌≤◌, ◌<◌}
use native.Mathlib.Omega.{arith}
use lib.Dec.{eqb, leb}
use borrow.Author.Tests.{leb-true, leb-false, le-leb, lt-leb, ne_eqb}
use Rattle.rules.specs.Bytes.{Bytes, ◌and◌}
use Rattle.rules.specs.Layout.{kind_at, type_at, a_at, b_at, c_at}
use Rattle.rules.specs.declared.Field.TheVariants.{Expression}
use Rattle.rules.specs.Kinds.{row, is_expression, fields_of}
use Rattle.rules.specs.Shaped.{NodeOf}
use Rattle.rules.specs.Tree.{operation, negation, choice, just, taking, expr_at}
use Rattle.rules.proofs.Static.{and_both}
use Rattle.rules.proofs.Nodes.{expr_negation, expr_choice, expr_operation, expr_just, expr_taking}
use Rattle.rules.proofs.Kids.{Child, kids}

module _ (p : Bytes) (n : ℕ) (w : NodeOf is_expression p n) where
  pub negation_kid : kind_at p n ≡ 24 → Child is_expression p n (a_at p n)
  unfolding fields_of row ◌and◌
  negation_kid e = (kids p n w.shaped w.inside 24 e).0

  pub negation_tree : kind_at p n ≡ 24 → expr_at p n ≡ negation n (expr_at p (a_at p n))
  negation_tree e = expr_negation p n e (negation_kid e).less

  pub just_kid : kind_at p n ≡ 28 → Child is_expression p n (a_at p n)
  unfolding fields_of row ◌and◌
  just_kid e = (kids p n w.shaped w.inside 28 e).0

  pub just_tree : kind_at p n ≡ 28 → expr_at p n ≡ just n (expr_at p (a_at p n))
  just_tree e = expr_just p n e (just_kid e).less

  pub choice_kids : kind_at p n ≡ 27 → Child is_expression p n (a_at p n) × Child is_expression p n (b_at p n) × Child is_expression p n (c_at p n)
  unfolding fields_of row ◌and◌
  choice_kids e = kids p n w.shaped w.inside 27 e

  pub choice_tree : kind_at p n ≡ 27 → expr_at p n ≡ choice n (expr_at p (a_at p n)) (expr_at p (b_at p n)) (expr_at p (c_at p n))
  choice_tree e = let k = choice_kids e in expr_choice p n e k.0.less k.1.less k.2.less

  pub taking_kids : kind_at p n ≡ 29 → Child is_expression p n (a_at p n) × Child is_expression p n (b_at p n) × Child is_expression p n (c_at p n)
  unfolding fields_of row ◌and◌
  taking_kids e = kids p n w.shaped w.inside 29 e

  pub taking_tree : kind_at p n ≡ 29
      → expr_at p n ≡ taking n (type_at p n) (expr_at p (a_at p n)) (expr_at p (b_at p n)) (expr_at p (c_at p n))
  taking_tree e = let k = taking_kids e in expr_taking p n e k.0.less k.1.less k.2.less

-- No kind but the operations is left.
pub record IsOperation (k : ℕ) : Type 0 where
  pub no16 : k ≡ 16 → ⊥
  pub no17 : k ≡ 17 → ⊥
  pub no24 : k ≡ 24 → ⊥
  pub no27 : k ≡ 27 → ⊥
  pub no28 : k ≡ 28 → ⊥
  pub no29 : k ≡ 29 → ⊥

not_less : (k m : ℕ) → m < k → eqb k m ≡ false
not_less k m h = ne_eqb k m λ e. omega arith

operation_fields : (k : ℕ) → is_expression k ≡ true → IsOperation k → ((fields_of k).a ≡ Expression) × ((fields_of k).b ≡ Expression)
unfolding is_expression fields_of row ◌and◌
operation_fields k h o =
    let b = and_both _ _ h in
    let l = leb-true 16 k b.0 in
    let g = leb-true k 29 b.1 in
    split l g (leb k 23) refl
  where
    low : 16 ≤ k → k ≤ 23 → ((fields_of k).a ≡ Expression) × ((fields_of k).b ≡ Expression)
    low l u =
        let m : 18 ≤ k = omega (arith, o.no16, o.no17) in
        simp (
          not_less k 1 (omega arith),
          not_less k 3 (omega arith),
          not_less k 4 (omega arith),
          not_less k 5 (omega arith),
          not_less k 6 (omega arith),
          not_less k 7 (omega arith),
          not_less k 8 (omega arith),
          not_less k 9 (omega arith),
          not_less k 10 (omega arith),
          not_less k 16 (omega arith),
          not_less k 17 (omega arith),
          le-leb 18 k m,
          le-leb k 23 u,
        ) (refl, refl)

    high : k ≤ 29 → 23 < k → ((fields_of k).a ≡ Expression) × ((fields_of k).b ≡ Expression)
    high g u =
        let m : k ≤ 26 = omega (arith, o.no27, o.no28, o.no29) in
        let m' : 25 ≤ k = omega (arith, o.no24) in
        simp (
          not_less k 1 (omega arith),
          not_less k 3 (omega arith),
          not_less k 4 (omega arith),
          not_less k 5 (omega arith),
          not_less k 6 (omega arith),
          not_less k 7 (omega arith),
          not_less k 8 (omega arith),
          not_less k 9 (omega arith),
          not_less k 10 (omega arith),
          not_less k 16 (omega arith),
          not_less k 17 (omega arith),
          not_less k 24 (omega arith),
          le-leb 18 k (omega arith),
          lt-leb k 23 u,
          le-leb 25 k m',
          le-leb k 26 m,
        ) (refl, refl)

    split : 16 ≤ k → k ≤ 29 → (b : Bool) → leb k 23 ≡ b → ((fields_of k).a ≡ Expression) × ((fields_of k).b ≡ Expression)
    split l g true e = low l (leb-true k 23 e)
    split l g false e = high g (leb-false k 23 e)

module _ (p : Bytes) (n : ℕ) (w : NodeOf is_expression p n) (o : IsOperation (kind_at p n)) where
  pub operation_kids : Child is_expression p n (a_at p n) × Child is_expression p n (b_at p n)
  operation_kids =
      let k = kids p n w.shaped w.inside (kind_at p n) refl in
      let f = operation_fields (kind_at p n) w.sorted o in
      (rw f.0 at k.0, rw f.1 at k.1)

  pub operation_tree : expr_at p n ≡ operation n (kind_at p n) (expr_at p (a_at p n)) (expr_at p (b_at p n))
  operation_tree =
      let k = operation_kids in
      expr_operation p n o.no16 o.no17 o.no24 o.no27 o.no28 o.no29 k.0.less k.1.less

pub left : {A : Type 0} {k m : ℕ} → m ≡ k
    → ((((((A × (m ≡ 16 → ⊥)) × (m ≡ 17 → ⊥)) × (m ≡ 24 → ⊥)) × (m ≡ 27 → ⊥)) × (m ≡ 28 → ⊥)) × (m ≡ 29 → ⊥))
    → IsOperation k
left e r = record {
  no16 = λ h. r.0.0.0.0.0.1 (e ∙ h);
  no17 = λ h. r.0.0.0.0.1 (e ∙ h);
  no24 = λ h. r.0.0.0.1 (e ∙ h);
  no27 = λ h. r.0.0.1 (e ∙ h);
  no28 = λ h. r.0.1 (e ∙ h);
  no29 = λ h. r.1 (e ∙ h);
}
