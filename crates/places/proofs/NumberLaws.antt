-- A place as a number: which numbers are places, and the smaller of two numbers is the smaller of two places.
-- Assumes nothing.
use Rattle.std.specs.Prelude.{Option, Some, None, ℕ}
use mathlib.Core.Path.{◌≡◌, refl, sym, ap, ◌∙◌}
use mathlib.Core.Bool.{Bool, true, false}
use Prim.Native.Nat.{ℕ, ◌≤◌, ◌<◌}
use native.Mathlib.Omega.{arith}
use native.Mathlib.Nat.{min-eq_left, min-eq_right}
use lib.Dec.{ltb}
use borrow.Author.Tests.{ltb-true, ltb-false, lt-ltb, le-ltb}
use Rattle.rules.specs.Places.{sooner}
use Rattle.places.specs.Numbers.{place_in}

-- A number below 65,535 is a place.
pub placed : (m : ℕ) → m < 65535 → place_in m ≡ Some m
unfolding place_in
placed m h = rw (lt-ltb m 65535 h)

-- From there on it is none.
pub unplaced : (m : ℕ) → 65535 ≤ m → place_in m ≡ None
unfolding place_in
unplaced m h = rw (le-ltb m 65535 h)

-- The number that the code answers for no place.
pub no_place : place_in 65535 ≡ None
unfolding place_in
no_place = refl

-- Of two numbers that both are places, the smaller is the smaller place.
both_placed : (x y : ℕ) → x ≤ y → y < 65535 → (place_in x ≡ sooner (place_in x) (place_in y)) × (place_in x ≡ sooner (place_in y) (place_in x))
unfolding sooner
both_placed x y l h =
    let px : place_in x ≡ Some x = placed x (omega (arith, l, h)) in
    let py : place_in y ≡ Some y = placed y h in
    rw (px, py) (ap Some (sym (min-eq_left l)), ap Some (sym (min-eq_right l)))

-- Where the larger number is no place, the smaller one alone counts.
one_placed : (x y : ℕ) → 65535 ≤ y → (place_in x ≡ sooner (place_in x) (place_in y)) × (place_in x ≡ sooner (place_in y) (place_in x))
unfolding sooner
one_placed x y h = rw (unplaced y h) (go (place_in x), refl)
  where
    go : (q : Option ℕ) → q ≡ sooner q None
    go None = refl
    go (Some m) = refl

-- The smaller of two numbers is the smaller of their places, in either order.
pub smaller_sooner : (x y : ℕ) → x ≤ y → (place_in x ≡ sooner (place_in x) (place_in y)) × (place_in x ≡ sooner (place_in y) (place_in x))
smaller_sooner x y l = go (ltb y 65535) refl
  where
    go : (b : Bool) → ltb y 65535 ≡ b → (place_in x ≡ sooner (place_in x) (place_in y)) × (place_in x ≡ sooner (place_in y) (place_in x))
    go true e = both_placed x y l (ltb-true y 65535 e)
    go false e = one_placed x y (ltb-false y 65535 e)
