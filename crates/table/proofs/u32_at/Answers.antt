use mathlib.Core.Path.{◌≡◌, ap}
use Prim.Native.Nat.{ℕ, ◌+◌}
use native.Mathlib.Omega.{arith}
use Rattle.rules.specs.Bytes.{u16_at, u32_at, byte_at}
use Rattle.table.proofs.u32_at.Goals as goal

pub returns : goal.returns
unfolding u32_at u16_at byte_at
returns c = let last : c.args.at + 2 + 1 ≡ c.args.at + 3 = omega arith in
    omega (arith, c.from_le_bytes.ensures, ap (λ (k : ℕ). byte_at c.args.p.now k) last)
