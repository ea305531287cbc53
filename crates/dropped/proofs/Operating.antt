-- The fields of an operation, kind by kind.
-- Assumes nothing.
use mathlib.Core.Path.{◌≡◌, refl, sym, subst}
use mathlib.Core.Bool.{true}
use Prim.Native.Nat.{ℕ}
use native.Mathlib.Omega.{arith}
use borrow.Author.Tests.{leb-true}
use Rattle.rules.specs.Bytes.{◌and◌}
use Rattle.rules.specs.Kinds.{is_expression, fields_of, row}
use Rattle.rules.specs.declared.Field.TheVariants.{Unused, Expression}
use Rattle.rules.specs.declared.TypeField.TheVariants.{NoType}
use Rattle.rules.proofs.Static.{and_both}
use Rattle.rules.proofs.Expressions.{IsOperation}
use Rattle.rules.proofs.Signals.{less}
use Rattle.rules.proofs.ByKind.{choose}

-- An operation has no type field; its first two fields are expressions, and it has no third.
pub record Operates (k : ℕ) : Type 0 where
  pub untyped : (fields_of k).ty ≡ NoType
  pub first_kid : (fields_of k).a ≡ Expression
  pub second_kid : (fields_of k).b ≡ Expression
  pub no_third : (fields_of k).c ≡ Unused

pub operates : (k : ℕ) → is_expression k ≡ true → IsOperation k → Operates k
unfolding is_expression fields_of row ◌and◌
operates k h o =
    let b = and_both _ _ h in
    let l = leb-true 16 k b.0 in
    let u26 = less 26 (less 27 (less 28 (leb-true k 29 b.1) o.no29) o.no28) o.no27 in
    choose k 26 (λ e. is k 26 e (record { untyped = refl; first_kid = refl; second_kid = refl; no_third = refl })) λ d26. let u25 = less 25 u26 d26 in
    choose k 25 (λ e. is k 25 e (record { untyped = refl; first_kid = refl; second_kid = refl; no_third = refl })) λ d25. let u23 = less 23 (less 24 u25 d25) o.no24 in
    choose k 23 (λ e. is k 23 e (record { untyped = refl; first_kid = refl; second_kid = refl; no_third = refl })) λ d23. let u22 = less 22 u23 d23 in
    choose k 22 (λ e. is k 22 e (record { untyped = refl; first_kid = refl; second_kid = refl; no_third = refl })) λ d22. let u21 = less 21 u22 d22 in
    choose k 21 (λ e. is k 21 e (record { untyped = refl; first_kid = refl; second_kid = refl; no_third = refl })) λ d21. let u20 = less 20 u21 d21 in
    choose k 20 (λ e. is k 20 e (record { untyped = refl; first_kid = refl; second_kid = refl; no_third = refl })) λ d20. let u19 = less 19 u20 d20 in
    choose k 19 (λ e. is k 19 e (record { untyped = refl; first_kid = refl; second_kid = refl; no_third = refl })) λ d19. let u18 = less 18 u19 d19 in
    choose k 18 (λ e. is k 18 e (record { untyped = refl; first_kid = refl; second_kid = refl; no_third = refl })) λ d18.
    let u16 = less 16 (less 17 u18 d18) o.no17 in
    absurd (o.no16 (let z : k ≡ 16 = omega arith in z))
  where
    is : (k m : ℕ) → k ≡ m → Operates m → Operates k
    is k m e r = subst Operates (sym e) r
