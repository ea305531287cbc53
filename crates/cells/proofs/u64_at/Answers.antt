use native.Mathlib.Omega.{arith}
use Rattle.rules.specs.Bytes.{u64_at}
use Rattle.cells.proofs.u64_at.Goals as goal

pub returns : goal.returns
unfolding u64_at
returns c = omega (arith, c.u32_at.ensures, c.u32_at-2.ensures, c.from.ensures, c.from-2.ensures)
