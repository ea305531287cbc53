-- Putting "no fault" together: the converse of rules' Static.
-- Assumes nothing.
use Rattle.std.specs.Prelude.{Option, None, ℕ}
use mathlib.Core.Path.{◌≡◌, refl}
use mathlib.Core.Logic.{◌⊎◌, inl, inr}
use mathlib.Core.Bool.{Bool, true, false}
use Prim.Native.Nat.{ℕ}
use Rattle.rules.specs.Bytes.{◌and◌, ◌or◌}
use Rattle.rules.specs.Places.{sooner, wrong_if, wrong_unless}

-- A test of two that holds, holds in one of them.
or_either : (a b : Bool) → (a or b) ≡ true → (a ≡ true) ⊎ (b ≡ true)
unfolding ◌or◌
or_either true b e = inl refl
or_either false b e = inr e

-- What one of two tests gives.
pub by_either : {A : Type 0} (a b : Bool) → (a or b) ≡ true → (a ≡ true → A) → (b ≡ true → A) → A
by_either a b e f g = elim (or_either a b e) [ inl h ↦ f h | inr h ↦ g h ]

-- Two tests that hold; two that do not.
pub and_true : {a b : Bool} → a ≡ true → b ≡ true → (a and b) ≡ true
unfolding ◌and◌
and_true e f = rw (e, f)

-- Two tests that do not.
pub or_false : {a b : Bool} → a ≡ false → b ≡ false → (a or b) ≡ false
unfolding ◌or◌
or_false e f = rw (e, f)

-- Two places that are nowhere.
pub sooner_nowhere : {q r : Option ℕ} → q ≡ None → r ≡ None → sooner q r ≡ None
unfolding sooner
sooner_nowhere e f = rw (e, f)

-- A test that does not hold is no fault.
pub unbroken : (t : Bool) (n : ℕ) → (t ≡ true → ⊥) → wrong_if t n ≡ None
unfolding wrong_if
unbroken true n h = absurd (h refl)
unbroken false n h = refl

-- A rule that holds is no fault.
pub right : {t : Bool} (n : ℕ) → t ≡ true → wrong_unless t n ≡ None
unfolding wrong_unless
right n e = rw e
