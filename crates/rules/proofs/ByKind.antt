-- The kinds of expression and of signal, one by one: how a proof goes by the kind of a node whose sort is known. And what two kids an
-- operation has.
-- Assumes nothing.
use mathlib.Core.Path.{◌≡◌, refl}
use mathlib.Core.Bool.{Bool, true, false, not}
use Prim.Native.Nat.{ℕ, ◌≤◌, ◌<◌}
use native.Mathlib.Omega.{arith}
use lib.Dec.{eqb}
use borrow.Author.Tests.{leb-true, eqb-true, eqb-false, ne_eqb}
use Rattle.rules.specs.Bytes.{◌and◌, ◌or◌, first_from}
use Rattle.rules.specs.Layout.{has_cell}
use Rattle.rules.specs.Kinds.{row, is_signal, is_expression, fields_of}
use Rattle.rules.specs.Shape.{is_child}
use Rattle.rules.proofs.Static.{and_both}
use Rattle.rules.proofs.Kids.{or_none, not_not}
use Rattle.rules.proofs.Expressions.{IsOperation}
use Rattle.rules.proofs.Signals.{less}
use Rattle.rules.proofs.Established.{nowhere_from}

pub data ExpressionKind (k : ℕ) : Type 0 where
  is_variable : k ≡ 16 → ExpressionKind k
  is_constant : k ≡ 17 → ExpressionKind k
  is_negation : k ≡ 24 → ExpressionKind k
  is_choice : k ≡ 27 → ExpressionKind k
  is_just : k ≡ 28 → ExpressionKind k
  is_taking : k ≡ 29 → ExpressionKind k
  is_operation : IsOperation k → ExpressionKind k

pub data SignalKind (k : ℕ) : Type 0 where
  is_input : k ≡ 1 → SignalKind k
  is_time : k ≡ 2 → SignalKind k
  is_ext : k ≡ 3 → SignalKind k
  is_delay : k ≡ 4 → SignalKind k
  is_let : k ≡ 5 → SignalKind k
  is_switch : k ≡ 6 → SignalKind k
  is_group : k ≡ 7 → SignalKind k
  is_until : k ≡ 8 → SignalKind k

-- A number is another, or is not.
pub choose : {A : Type 0} (k m : ℕ) → (k ≡ m → A) → ((k ≡ m → ⊥) → A) → A
choose {A} k m f g = go (eqb k m) refl
  where
    go : (b : Bool) → eqb k m ≡ b → A
    go true e = f (eqb-true k m e)
    go false e = g (eqb-false k m e)

pub expression_kind : (k : ℕ) → ExpressionKind k
expression_kind k =
    choose k 16 is_variable λ d16. choose k 17 is_constant λ d17. choose k 24 is_negation λ d24.
    choose k 27 is_choice λ d27. choose k 28 is_just λ d28. choose k 29 is_taking λ d29.
    is_operation (record { no16 = d16; no17 = d17; no24 = d24; no27 = d27; no28 = d28; no29 = d29 })

pub signal_kind : (k : ℕ) → is_signal k ≡ true → SignalKind k
unfolding is_signal
signal_kind k h =
    let b = and_both _ _ h in
    let l = leb-true 1 k b.0 in
    let u8 = leb-true k 8 b.1 in
    choose k 8 is_until λ d8. let u7 = less 7 u8 d8 in
    choose k 7 is_group λ d7. let u6 = less 6 u7 d7 in
    choose k 6 is_switch λ d6. let u5 = less 5 u6 d6 in
    choose k 5 is_let λ d5. let u4 = less 4 u5 d5 in
    choose k 4 is_delay λ d4. let u3 = less 3 u4 d4 in
    choose k 3 is_ext λ d3. let u2 = less 2 u3 d3 in
    choose k 2 is_time λ d2. let u1 = less 1 u2 d2 in
    is_input (omega arith)

-- An operation has no cell, and its first two fields name its two kids.
pub record TwoKids (k : ℕ) : Type 0 where
  pub no_cell : has_cell k ≡ false
  pub first_kid : is_child (fields_of k).a ≡ true
  pub second_kid : is_child (fields_of k).b ≡ true
  pub no_third : is_child (fields_of k).c ≡ false

-- The kinds up to 29, tried one after the other.
operation_test : ℕ → Bool
operation_test k = is_expression k and not (eqb k 16 or eqb k 17 or eqb k 24 or eqb k 27 or eqb k 28 or eqb k 29)

kids_test : ℕ → Bool
kids_test k = has_cell k or not (is_child (fields_of k).a) or not (is_child (fields_of k).b) or is_child (fields_of k).c

tried : (k : ℕ) → k < 30 → (operation_test k and kids_test k) ≡ false
unfolding operation_test kids_test ◌and◌ ◌or◌ is_expression fields_of row is_child has_cell first_from
tried k h = nowhere_from (λ (j : ℕ). operation_test j and kids_test j) 30 0 k refl (omega arith) (omega arith)

and_false : (a b : Bool) → a ≡ true → (a and b) ≡ false → b ≡ false
unfolding ◌and◌
and_false true b e f = f
and_false false b e f = absurd (let z : ◌≡◌ {A = ℕ} 0 1 = cc in omega arith)

most_expression : (k : ℕ) → is_expression k ≡ true → k ≤ 29
unfolding is_expression
most_expression k h = leb-true k 29 (and_both _ _ h).1

operation_test_lem : (k : ℕ) → is_expression k ≡ true → IsOperation k → operation_test k ≡ true
unfolding operation_test ◌and◌ ◌or◌
operation_test_lem k h o =
    simp (
      h,
      ne_eqb k 16 o.no16,
      ne_eqb k 17 o.no17,
      ne_eqb k 24 o.no24,
      ne_eqb k 27 o.no27,
      ne_eqb k 28 o.no28,
      ne_eqb k 29 o.no29,
    )

pub two_kids : (k : ℕ) → is_expression k ≡ true → IsOperation k → TwoKids k
unfolding kids_test
two_kids k h o =
    let c = or_none _ _ (and_false _ (kids_test k) (operation_test_lem k h o) (tried k (omega (arith, most_expression k h)))) in
    let b = or_none _ _ c.0 in
    let a = or_none _ _ b.0 in
    record { no_cell = a.0; first_kid = not_not _ a.1; second_kid = not_not _ b.1; no_third = c.1 }
