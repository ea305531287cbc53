-- The flags of a record's byte 20.
-- Assumes nothing.
use mathlib.Core.Path.{◌≡◌, ap}
use Prim.Native.Nat.{ℕ, ◌-◌, ◌%◌, ◌≤◌, ◌<◌}
use native.Mathlib.Nat.{div-eq_of_lt, lt_of_lt_of_le}
use native.Mathlib.Omega.{arith}
use lib.Pow.{pow_mono}
use Rattle.rules.specs.Bytes.{Bytes, byte_at}
use Rattle.rules.specs.Layout.{flag_on}

-- A byte has eight bits.
pub no_flag : (rec : Bytes) (c : ℕ) → byte_at rec 20 < 256 → 12 ≤ c → flag_on rec (c - 4) ≡ 0
unfolding flag_on
no_flag rec c b h =
    let m : 8 ≤ c - 4 = omega arith in
    ap (λ (n : ℕ). n % 2) (div-eq_of_lt (lt_of_lt_of_le b (pow_mono m)))
