use mathlib.Core.Path.{◌≡◌, ap}
use Prim.Native.Nat.{ℕ, ◌+◌}
use native.Mathlib.Omega.{arith}
use Rattle.rules.specs.Bytes.{byte_at, u16_at, u32_at}
use Rattle.inputs.proofs.word_at.Goals as goal

pub returns-then-at-rec : goal.returns-then-at-rec
returns-then-at-rec c = c.u32_at.ensures

pub returns : goal.returns
unfolding u32_at u16_at
returns c = let last : c.args.at + 2 + 1 ≡ c.args.at + 3 = omega arith in
    omega (arith, c.from_le_bytes.ensures, c.byte_at.ensures, c.byte_at-2.ensures, c.byte_at-3.ensures, c.byte_at-4.ensures, ap (λ (k : ℕ). byte_at c.args.rec.now k) last)
