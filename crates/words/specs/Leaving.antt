-- What leaving the range means (document 02, f).
-- Assumes nothing: these are definitions and statements.
use Rattle.std.specs.Prelude.{◌≡◌, ℕ, ◌<◌, ◌≤◌, Bool, true, false, ◌↔◌, nat_le, nat_lt, if◌then◌else◌}
use Rattle.std.specs.Int.Signed.{mag}
use Rattle.rules.specs.Words.{wrap}
use Rattle.rules.specs.Operations.{exact_of, leaves_range}

-- The integers of two words stand on two sides of zero (which counts as not below).
unfoldable pub astride_of : ℕ → ℕ → Bool
astride_of x y = if nat_lt x 2147483648 then nat_le 2147483648 y else nat_lt y 2147483648

-- A sum, a difference or a product (kinds 18-20) leaves the range exactly where the exact result of the operands' integers is not one of -2147483648 to
-- 2147483647 (mag z is n both for n and for -(n + 1)); of quotients (kind 21), -2147483648 by -1 leaves it and no other.
pub record LeavingLaw : Type 0 where
  pub within : (k x y : ℕ) → 18 ≤ k → k ≤ 20 → (leaves_range k x y ≡ false) ↔ (mag (exact_of k x y) < 2147483648)
  pub quotient : (x y : ℕ) → x < wrap → y < wrap → (leaves_range 21 x y ≡ true) ↔ ((x ≡ 2147483648) × (y ≡ 4294967295))
