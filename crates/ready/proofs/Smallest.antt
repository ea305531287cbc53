-- Laws of the smaller of two places.
-- Assumes nothing.
use Rattle.std.specs.Prelude.{Option, Some, None, ℕ}
use mathlib.Core.Path.{◌≡◌, refl, sym, ap, ◌∙◌}
use mathlib.Core.Bool.{Bool, true, false}
use Prim.Native.Nat.{ℕ, min}
use native.Mathlib.Omega.{arith}
use native.Mathlib.Nat.{min_comm, min-le_left, min-le_right, le-min, le_antisymm, min-eq_left}
use Rattle.rules.specs.Bytes.{◌or◌}
use Rattle.rules.specs.Places.{sooner, wrong_if}

-- Two pairs of equal places.
pub each : {q r s t : Option ℕ} → q ≡ r → s ≡ t → sooner q s ≡ sooner r t
each e f = rw (e, f) refl

swapped : (q r : Option ℕ) → sooner q r ≡ sooner r q
unfolding sooner
swapped None None = refl
swapped None (Some n) = refl
swapped (Some m) None = refl
swapped (Some m) (Some n) = ap Some (min_comm m n)

min_grouped : (a b c : ℕ) → min (min a b) c ≡ min a (min b c)
min_grouped a b c =
    le_antisymm
    (le-min (omega (arith, min-le_left (min a b) c, min-le_left a b)) (le-min (omega (arith, min-le_left (min a b) c, min-le_right a b)) (min-le_right (min a b) c)))
    (le-min (le-min (min-le_left a (min b c)) (omega (arith, min-le_right a (min b c), min-le_left b c))) (omega (arith, min-le_right a (min b c), min-le_right b c)))

pub grouped : (q r s : Option ℕ) → sooner (sooner q r) s ≡ sooner q (sooner r s)
unfolding sooner
grouped None r s = refl
grouped (Some m) None s = refl
grouped (Some m) (Some n) None = refl
grouped (Some m) (Some n) (Some o) = ap Some (min_grouped m n o)

-- The second of three, first.
pub ahead : (q r s : Option ℕ) → sooner q (sooner r s) ≡ sooner r (sooner q s)
ahead q r s = sym (grouped q r s) ∙ each (swapped q r) refl ∙ grouped r q s

-- A rule broken in one of two places.
pub either_wrong : (s t : Bool) (n : ℕ) → wrong_if (s or t) n ≡ sooner (wrong_if s n) (wrong_if t n)
unfolding wrong_if sooner ◌or◌
either_wrong true true n = ap Some (sym (min-eq_left (omega arith)))
either_wrong true false n = refl
either_wrong false t n = refl

-- Two parts, each with its own place of n.
pub joined : (s t : Bool) (n : ℕ) (x y : Option ℕ)
    → sooner (sooner (wrong_if s n) x) (sooner (wrong_if t n) y) ≡ sooner (wrong_if (s or t) n) (sooner x y)
joined s t n x y =
    grouped (wrong_if s n) x (sooner (wrong_if t n) y)
    ∙ each refl (ahead x (wrong_if t n) y)
    ∙ sym (grouped (wrong_if s n) (wrong_if t n) (sooner x y))
    ∙ each (sym (either_wrong s t n)) refl

or_grouped : (s t u : Bool) → (s or (t or u)) ≡ (s or t or u)
unfolding ◌or◌
or_grouped true t u = refl
or_grouped false t u = refl

-- Three parts.
pub joined_three : (s t u : Bool) (n : ℕ) (x y z : Option ℕ)
    → sooner (sooner (wrong_if s n) x) (sooner (sooner (wrong_if t n) y) (sooner (wrong_if u n) z)) ≡ sooner (wrong_if (s or t or u) n) (sooner x (sooner y z))
joined_three s t u n x y z =
    each refl (joined t u n y z)
    ∙ joined s (t or u) n x (sooner y z)
    ∙ each (ap (λ (b : Bool). wrong_if b n) (or_grouped s t u)) refl
