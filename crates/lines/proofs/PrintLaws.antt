-- How a word prints by its sign. Assumes nothing.
use Prim.Native.Nat.{ℕ, suc, ◌+◌, ◌-◌, ◌^◌, ◌≤◌, ◌<◌}
use mathlib.Core.Path.{◌≡◌, ap}
use mathlib.Core.List.{◌∷◌}
use native.Mathlib.Omega.{arith}
use borrow.Author.Tests.{lt-ltb, le-ltb}
use Rattle.rules.specs.Words.{signed}
use Rattle.wire.specs.Text.{decimal}
use Rattle.lines.specs.Print.{integer}

-- a word below the half is its own number
pub natural : (w : ℕ) → w < 2147483648 → integer (signed w) ≡ decimal w
unfolding integer signed
natural w h = rw (lt-ltb w 2147483648 h)

-- any other is that of its complement, with a sign
pub negative : (w : ℕ) → 2147483648 ≤ w → w < 2 ^ 32 → integer (signed w) ≡ 45 ∷ decimal (4294967295 - w + 1)
unfolding integer signed
negative w h fits =
    let e : suc (4294967296 - suc w) ≡ 4294967295 - w + 1 = omega arith in
    rw (le-ltb w 2147483648 h) (ap (λ (k : ℕ). 45 ∷ decimal k) e)
