use native.Mathlib.Omega.{arith}
use Rattle.rules.specs.Bytes.{u16_at, byte_at}
use Rattle.table.proofs.half_at.Goals as goal

pub returns : goal.returns
unfolding u16_at byte_at
returns c = omega (arith, c.from_le_bytes.ensures)
