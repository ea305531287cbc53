-- The fields that are for a child, by ranges of kinds.
-- Assumes nothing.
use Rattle.std.specs.Prelude.{None}
use mathlib.Core.Path.{◌≡◌, refl, sym, ap, ◌∙◌}
use mathlib.Core.Bool.{Bool, true, false}
use Prim.Native.Nat.{ℕ, ◌≤◌, ◌<◌}
use native.Mathlib.Omega.{arith}
use lib.Dec.{eqb, leb, ltb}
use borrow.Author.Tests.{lt-leb, le-leb, ltb-true, ltb-false, ne_eqb}
use Rattle.rules.specs.Bytes.{◌and◌, ◌or◌, first_from}
use Rattle.rules.specs.Kinds.{row, fields_of}
use Rattle.rules.specs.Shape.{is_child}
use Rattle.rules.specs.declared.Field.TheVariants.{Unused}
use Rattle.rules.specs.declared.TypeField.TheVariants.{NoType}
use Rattle.rules.proofs.Established.{nowhere_from}

-- Two tests differ.
abbrev differ : Bool → Bool → Bool
differ true true = false
differ true false = true
differ false true = true
differ false false = false

same : (a b : Bool) → differ a b ≡ false → a ≡ b
same true true e = refl
same true false e = e
same false true e = sym e
same false false e = refl

abbrev ranges_a : ℕ → Bool
ranges_a k = (leb 3 k and leb k 10) or (leb 18 k and leb k 29)

abbrev ranges_b : ℕ → Bool
ranges_b k = ((leb 5 k and leb k 10) or ((leb 18 k and leb k 23) or (leb 25 k and leb k 27))) or eqb k 29

abbrev ranges_c : ℕ → Bool
ranges_c k = (eqb k 6 or eqb k 27) or eqb k 29

-- No kind above 29 has a field.
no_fields : (k : ℕ) → 30 ≤ k → fields_of k ≡ row NoType Unused Unused Unused
unfolding fields_of ◌and◌
no_fields k h =
    simp (
      ne_eqb k 1 (λ e. omega arith),
      ne_eqb k 3 (λ e. omega arith),
      ne_eqb k 4 (λ e. omega arith),
      ne_eqb k 5 (λ e. omega arith),
      ne_eqb k 6 (λ e. omega arith),
      ne_eqb k 7 (λ e. omega arith),
      ne_eqb k 8 (λ e. omega arith),
      ne_eqb k 9 (λ e. omega arith),
      ne_eqb k 10 (λ e. omega arith),
      ne_eqb k 16 (λ e. omega arith),
      ne_eqb k 17 (λ e. omega arith),
      ne_eqb k 24 (λ e. omega arith),
      ne_eqb k 27 (λ e. omega arith),
      ne_eqb k 28 (λ e. omega arith),
      ne_eqb k 29 (λ e. omega arith),
      le-leb 18 k (omega arith),
      lt-leb k 23 (omega arith),
      le-leb 25 k (omega arith),
      lt-leb k 26 (omega arith),
    )

-- A test by ranges that agrees on the kinds up to 29, and holds of no other.
by_ranges : (ranges test : ℕ → Bool) → first_from (λ j. differ (ranges j) (test j)) 0 30 ≡ None → ((k : ℕ) → 30 ≤ k → ranges k ≡ test k) → (k : ℕ) → ranges k ≡ test k
by_ranges ranges test near far k = go (ltb k 30) refl
  where
    go : (b : Bool) → ltb k 30 ≡ b → ranges k ≡ test k
    go true e = same _ _ (nowhere_from (λ j. differ (ranges j) (test j)) 30 0 k near (omega arith) (omega (arith, ltb-true k 30 e)))
    go false e = far k (ltb-false k 30 e)

far_a : (k : ℕ) → 30 ≤ k → ranges_a k ≡ is_child (fields_of k).a
unfolding ◌and◌ ◌or◌ is_child row
far_a k h = simp (no_fields k h, le-leb 3 k (omega arith), lt-leb k 10 (omega arith), le-leb 18 k (omega arith), lt-leb k 29 (omega arith))

far_b : (k : ℕ) → 30 ≤ k → ranges_b k ≡ is_child (fields_of k).b
unfolding ◌and◌ ◌or◌ is_child row
far_b k h =
    simp (
      no_fields k h,
      le-leb 5 k (omega arith),
      lt-leb k 10 (omega arith),
      le-leb 18 k (omega arith),
      lt-leb k 23 (omega arith),
      le-leb 25 k (omega arith),
      lt-leb k 27 (omega arith),
      ne_eqb k 29 (λ e. omega arith),
    )

far_c : (k : ℕ) → 30 ≤ k → ranges_c k ≡ is_child (fields_of k).c
unfolding ◌and◌ ◌or◌ is_child row
far_c k h = simp (no_fields k h, ne_eqb k 6 (λ e. omega arith), ne_eqb k 27 (λ e. omega arith), ne_eqb k 29 (λ e. omega arith))

pub in_a : (k : ℕ) → ranges_a k ≡ is_child (fields_of k).a
unfolding ◌and◌ ◌or◌ is_child fields_of row first_from
in_a = by_ranges ranges_a (λ k. is_child (fields_of k).a) refl far_a

pub in_b : (k : ℕ) → ranges_b k ≡ is_child (fields_of k).b
unfolding ◌and◌ ◌or◌ is_child fields_of row first_from
in_b = by_ranges ranges_b (λ k. is_child (fields_of k).b) refl far_b

pub in_c : (k : ℕ) → ranges_c k ≡ is_child (fields_of k).c
unfolding ◌and◌ ◌or◌ is_child fields_of row first_from
in_c = by_ranges ranges_c (λ k. is_child (fields_of k).c) refl far_c
