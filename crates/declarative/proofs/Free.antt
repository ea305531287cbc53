-- Places that are not below a bound: how a fault's place is taken apart and put together, and what a definition that finds the smallest place
-- is to show.
-- Assumes nothing.
use Rattle.std.specs.Prelude.{Option, Some, None, ℕ}
use mathlib.Core.Path.{◌≡◌, refl, sym, ap, subst, ◌∙◌}
use mathlib.Core.Bool.{Bool, true, false}
use Prim.Native.Nat.{ℕ, zero, suc, min, ◌+◌, ◌≤◌, ◌<◌}
use native.Mathlib.Nat.{min-eq_left, min-eq_right}
use native.Mathlib.Omega.{arith}
use lib.Dec.{ltb}
use borrow.Author.Tests.{ltb-true, ltb-false}
use Rattle.rules.specs.Bytes.{first, first_from}
use Rattle.rules.specs.Places.{sooner, wrong_if, wrong_unless}
use Rattle.rules.proofs.Static.{not_both}
use Rattle.rules.proofs.ByKind.{choose}
use Rattle.declarative.specs.Smallest.{Smallest}

-- A number is below another, or is not.
pub side : {A : Type 0} (j m : ℕ) → (j < m → A) → (m ≤ j → A) → A
side {A} j m f g = go (ltb j m) refl
  where
    go : (b : Bool) → ltb j m ≡ b → A
    go true e = f (ltb-true j m e)
    go false e = g (ltb-false j m e)

-- The place, if there is one, is at least b.
abbrev AtLeast : ℕ → Option ℕ → Type 0
AtLeast b (Some n) = b ≤ n
AtLeast b None = Unit {0}

pub record Free (b : ℕ) (q : Option ℕ) : Type 0 where
  pub least : AtLeast b q

-- No place is below any bound; below 0 there is none.
pub free_nowhere : {b : ℕ} → Free b None
free_nowhere = record { least = tt }

pub free_zero : (q : Option ℕ) → Free 0 q
free_zero (Some n) = record { least = omega arith }
free_zero None = free_nowhere

-- The smaller of two places is so where both are.
pub free_both : {b : ℕ} (q r : Option ℕ) → Free b (sooner q r) → Free b q × Free b r
unfolding sooner
free_both None r f = (free_nowhere, f)
free_both (Some m) None f = (f, free_nowhere)
free_both {b} (Some m) (Some n) f =
    let h : b ≤ min m n = f.least in
    side m n
    (λ l. let e : min m n ≡ m = min-eq_left (omega arith) in (record { least = omega arith }, record { least = omega arith }))
    (λ l. let e : min m n ≡ n = min-eq_right l in (record { least = omega arith }, record { least = omega arith }))

-- And the other way.
pub free_sooner : {b : ℕ} {q r : Option ℕ} → Free b q → Free b r → Free b (sooner q r)
unfolding sooner
free_sooner {b} {q} {r} f g = go q r f g
  where
    go : (q r : Option ℕ) → Free b q → Free b r → Free b (sooner q r)
    go None r f g = g
    go (Some m) None f g = f
    go (Some m) (Some n) f g =
        let h : b ≤ m = f.least in
        let i : b ≤ n = g.least in
        side m n
        (λ l. let e : min m n ≡ m = min-eq_left (omega arith) in record { least = omega arith })
        (λ l. let e : min m n ≡ n = min-eq_right l in record { least = omega arith })

-- A rule of a place below the bound is kept,
pub free_holds : {b : ℕ} (t : Bool) (n : ℕ) → n < b → Free b (wrong_unless t n) → t ≡ true
unfolding wrong_unless
free_holds true n l f = refl
free_holds {b} false n l f = let h : b ≤ n = f.least in absurd (omega arith)

-- in either form;
pub free_kept : {b : ℕ} (t : Bool) (n : ℕ) → n < b → Free b (wrong_if t n) → t ≡ false
unfolding wrong_if
free_kept {b} true n l f = let h : b ≤ n = f.least in absurd (omega arith)
free_kept false n l f = refl

-- and where it is kept below the bound no place is named there,
pub free_right : {b : ℕ} (t : Bool) (n : ℕ) → (n < b → t ≡ true) → Free b (wrong_unless t n)
unfolding wrong_unless
free_right true n h = free_nowhere
free_right {b} false n h = side n b (λ l. absurd (let z : false ≡ true = h l in not_both z)) (λ l. record { least = l })

-- in either form.
pub free_unbroken : {b : ℕ} (t : Bool) (n : ℕ) → (n < b → t ≡ true → ⊥) → Free b (wrong_if t n)
unfolding wrong_if
free_unbroken {b} true n h = side n b (λ l. absurd (h l refl)) (λ l. record { least = l })
free_unbroken false n h = free_nowhere

-- One step of the search for the first place where a test holds.
from_none : {b : ℕ} (test : ℕ → Bool) (k : ℕ) → Free b (first_from test k 0)
unfolding first_from
from_none test k = free_nowhere

from_more : {b : ℕ} (test : ℕ → Bool) (left k : ℕ) → (k < b → test k ≡ false) → Free b (first_from test (suc k) left)
    → Free b (first_from test k (suc left))
unfolding first_from
from_more {b} test left k h f = go (test k) refl
  where
    go : (t : Bool) → test k ≡ t → Free b (first_from test k (suc left))
    go true e = side k b (λ l. absurd (not_both (sym (h l) ∙ e))) (λ l. rw (e, first_from) (record { least = l }))
    go false e = rw (e, first_from) f

more_from : {b : ℕ} (test : ℕ → Bool) (left k : ℕ) → Free b (first_from test k (suc left))
    → (k < b → test k ≡ false) × (k < b → Free b (first_from test (suc k) left))
unfolding first_from
more_from {b} test left k f = go (test k) refl
  where
    go : (t : Bool) → test k ≡ t → (k < b → test k ≡ false) × (k < b → Free b (first_from test (suc k) left))
    go true e =
        let g : Free b (Some k) = rw (e, first_from) at f in
        let h : b ≤ k = g.least in (λ l. absurd (omega arith), λ l. absurd (omega arith))
    go false e = (λ l. e, λ l. rw (e, first_from) at f)

-- The first place where a test holds is not below a bound where it holds nowhere below it,
from_free : {b : ℕ} (test : ℕ → Bool) (left k : ℕ) → ((n : ℕ) → n < b → k ≤ n → n < k + left → test n ≡ false) → Free b (first_from test k left)
from_free test zero k h = from_none test k
from_free {b} test (suc left) k h =
    from_more test left k (λ l. h k l (omega arith) (omega arith)) (from_free test left (suc k) (λ n i l g. h n i (omega arith) (omega arith)))

-- and the other way.
free_from : {b : ℕ} (test : ℕ → Bool) (left k n : ℕ) → Free b (first_from test k left) → n < b → k ≤ n → n < k + left → test n ≡ false
free_from test zero k n f i l g = absurd (omega arith)
free_from {b} test (suc left) k n f i l g =
    let h = more_from test left k f in
    choose n k (λ (z : n ≡ k). ap test z ∙ h.0 (omega arith))
    (λ d. free_from test left (suc k) n (h.1 (omega arith)) i (omega (arith, d)) (omega arith))

-- A place that a definition finds, and a rule of each place below count: below any bound no place is found exactly when all places there keep
-- the rule.
pub record Finds (q : Option ℕ) (Right : ℕ → Type 0) (count : ℕ) : Type 0 where
  pub only_if : (b : ℕ) → Free b q → (m : ℕ) → m < b → m < count → Right m
  pub if₀ : (b : ℕ) → ((m : ℕ) → m < b → m < count → Right m) → Free b q

-- The first place where a test holds, of a rule that each place keeps exactly where the test does not hold.
pub finds_first : (test : ℕ → Bool) (count : ℕ) (Right : ℕ → Type 0)
    → ((b : ℕ) → ((m : ℕ) → m < b → m < count → test m ≡ false) → (m : ℕ) → m < b → m < count → Right m)
    → ((b : ℕ) → ((m : ℕ) → m < b → m < count → Right m) → (m : ℕ) → m < b → m < count → test m ≡ false)
    → Finds (first test count) Right count
unfolding first
finds_first test count Right f g = record {
  only_if = λ b h. f b (λ m i l. free_from test count 0 m h i (omega arith) (omega arith));
  if₀ = λ b h. from_free test count 0 (λ n i l k. g b h n i (omega arith));
}

module _ (q : Option ℕ) (Right : ℕ → Type 0) (count : ℕ) (found : Finds q Right count) where
  -- Nowhere: every place keeps its rule.
  pub nowhere_right : q ≡ None → (m : ℕ) → m < count → Right m
  nowhere_right e m l = found.only_if count (subst (Free count) (sym e) free_nowhere) m l l

  -- And the other way.
  pub right_nowhere : ((m : ℕ) → m < count → Right m) → q ≡ None
  right_nowhere h = go q refl
    where
      go : (r : Option ℕ) → q ≡ r → q ≡ None
      go None e = e
      go (Some n) e =
          let f : Free (suc n) (Some n) = subst (Free (suc n)) e (found.if₀ (suc n) (λ m i l. h m l)) in
          let z : suc n ≤ n = f.least in
          absurd (omega arith)

  -- A place that is found is the smallest whose rule breaks.
  pub found_smallest : (n : ℕ) → q ≡ Some n → Smallest Right count n
  found_smallest n e =
      let own : Free n (Some n) = record { least = omega arith } in
      let below = found.only_if n (subst (Free n) (sym e) own) in
      let more : Free (suc n) q → ⊥ = λ f.
      let g : Free (suc n) (Some n) = subst (Free (suc n)) e f in
      let z : suc n ≤ n = g.least in omega arith in
      let i : n < count = side n count (λ l. l) (λ l. absurd (more (found.if₀ (suc n) (λ m h j. below m (omega arith) j)))) in
      record {
        inside = i;
        at_fault = λ r. more (found.if₀ (suc n)
            (λ m h j. choose m n (λ (z : m ≡ n). subst Right (sym z) r) (λ d. below m (omega (arith, d)) j)));
        none_smaller = λ m h. below m h (omega arith);
      }

  -- And the other way.
  pub smallest_found : (n : ℕ) → Smallest Right count n → q ≡ Some n
  smallest_found n s = go q refl
    where
      broken : Free (suc n) q → ⊥
      broken f = s.at_fault (found.only_if (suc n) f n (omega arith) s.inside)

      go : (r : Option ℕ) → q ≡ r → q ≡ Some n
      go None e = absurd (broken (subst (Free (suc n)) (sym e) free_nowhere))
      go (Some m) e =
          let f : Free n (Some m) = subst (Free n) e (found.if₀ n (λ k h l. s.none_smaller k h)) in
          let h : n ≤ m = f.least in
          choose m n (λ z. e ∙ ap Some z) λ d.
          let g : Free (suc n) (Some m) = record { least = omega (arith, d) } in
          absurd (broken (subst (Free (suc n)) (sym e) g))
