-- What codes 1 and 5 establish: a shaped program, whose root is a signal.
-- Assumes nothing.
use Rattle.std.specs.Prelude.{Option, Some, None}
use mathlib.Core.Path.{◌≡◌, refl, sym, ap, ◌∙◌}
use mathlib.Core.Bool.{Bool, true, false}
use Prim.Native.Nat.{ℕ, zero, suc, ◌+◌, ◌-◌, ◌<◌, ◌≤◌}
use native.Mathlib.Omega.{arith}
use lib.Dec.{eqb}
use lib.ListN.{length}
use borrow.Author.Tests.{eqb-true, eqb-false, ltb-false, eq-eqb}
use Rattle.rules.specs.Bytes.{Bytes, first_from, first}
use Rattle.rules.specs.Layout.{nodes, records, blocks, place_or, kind_at}
use Rattle.rules.specs.Format.{length_wrong}
use Rattle.rules.specs.Kinds.{is_signal}
use Rattle.rules.specs.Shape.{shape_wrong}
use Rattle.rules.specs.Shaped.{Shaped, NodeOf}
use Rattle.rules.proofs.Kids.{or_none, not_not}

-- no place: the test fails at every one
nowhere_step : (test : ℕ → Bool) (left k n : ℕ) (b d : Bool) → test k ≡ b → eqb k n ≡ d
    → ◌≡◌ {A = Option ℕ} (elim b [ true ↦ Some k | false ↦ first_from test (suc k) left ]) None
    → (first_from test (suc k) left ≡ None → (k ≡ n → ⊥) → test n ≡ false) → test n ≡ false
nowhere_step test left k n true d q r f more = absurd (let z : ◌≡◌ {A = ℕ} 0 1 = cc in omega arith)
nowhere_step test left k n false true q r f more = ap test (sym (eqb-true k n r)) ∙ q
nowhere_step test left k n false false q r f more = more f (eqb-false k n r)

pub nowhere_from : (test : ℕ → Bool) (left k n : ℕ) → first_from test k left ≡ None → k ≤ n → n < k + left → test n ≡ false
unfolding first_from
nowhere_from test zero k n e l h = absurd (omega arith)
nowhere_from test (suc left) k n e l h =
    nowhere_step test left k n (test k) (eqb k n) refl refl e
    λ f d. nowhere_from test left (suc k) n f (omega (arith, d)) (omega arith)

-- a first place is below the count
at_step : (test : ℕ → Bool) (left k count : ℕ) (b : Bool) → k ≤ count → place_or (first_from test (suc k) left) count ≤ count
    → place_or (elim b [ true ↦ Some k | false ↦ first_from test (suc k) left ]) count ≤ count
unfolding place_or
at_step test left k count true l h = l
at_step test left k count false l h = h

none_most : (count : ℕ) → place_or None count ≤ count
unfolding place_or
none_most count = omega arith

at_below : (test : ℕ → Bool) (left k count : ℕ) → k + left ≤ count → place_or (first_from test k left) count ≤ count
unfolding first_from
at_below test zero k count h = none_most count
at_below test (suc left) k count h = at_step test left k count (test k) (omega arith) (at_below test left (suc k) count (omega arith))

pub nodes_within : (p : Bytes) → nodes p ≤ records p
unfolding nodes first
nodes_within p = at_below (λ r. eqb (kind_at p r) 0) (records p) 0 (records p) (omega arith)

pub most_nodes : (p : Bytes) → length p ≤ 12288 → nodes p ≤ 1008
unfolding records blocks
most_nodes p h = omega (arith, nodes_within p)

pub shaped : (p : Bytes) → length_wrong p ≡ false → first (shape_wrong p) (nodes p) ≡ None → Shaped p
unfolding length_wrong first shape_wrong
shaped p l e =
    let o = or_none _ _ l in
    let most = ltb-false 12288 (length p) (or_none _ _ o.0).1 in
    let w = eqb-true _ _ (not_not _ o.1) in
    record {
      whole = w;
      small = most_nodes p most;
      within = nodes_within p;
      children = λ n h. (or_none _ _ (nowhere_from (shape_wrong p) (nodes p) 0 n e (omega arith) (omega arith))).0;
    }

-- the root of such a program
pub root_signal : (p : Bytes) → length_wrong p ≡ false → first (shape_wrong p) (nodes p) ≡ None → 0 < nodes p → NodeOf is_signal p (nodes p - 1)
unfolding first shape_wrong
root_signal p l e h =
    let f = (or_none _ _ (nowhere_from (shape_wrong p) (nodes p) 0 (nodes p - 1) e (omega arith) (omega arith))).1 in
    let q : suc (nodes p - 1) ≡ nodes p = omega arith in
    record { shaped = shaped p l e; inside = omega arith; sorted = not_not _ (simp (eq-eqb _ _ q) at f) }
