-- What divide promises of its quotients (document 02, c).
-- Assumes nothing: these are statements.
use Rattle.std.specs.Prelude.{◌≡◌, ℕ, ◌<◌, ℤ, ◌≢◌}
use Rattle.rules.specs.Words.{wrap, signed, quotient_of, Divided}
use Rattle.rules.specs.declared.Value.TheVariants.{Present}

-- q is the quotient of the words x and y, as integers and without wrapping: with some remainder that is zero or of the divisor's sign, and smaller in size
-- than it, quotient times divisor plus remainder is the number divided; and no other integer has such a remainder.
pub record Quotient (x y q : ℕ) : Type 0 where
  pub remains : (r : ℤ) × Divided (signed x) (signed y) (signed q) r
  pub only : (z r : ℤ) → Divided (signed x) (signed y) z r → z ≡ signed q

-- For every divisor but zero, and every pair but -2147483648 by -1, divide answers present and the quotient.
unfoldable pub DivideLaw : Type 0
DivideLaw =
    (x y : ℕ) → x < wrap → y < wrap → (y ≢ 0) → ((x ≡ 2147483648) × (y ≡ 4294967295) → ⊥)
    → (q : ℕ) × (q < wrap) × (quotient_of x y ≡ Present 7 q) × Quotient x y q
