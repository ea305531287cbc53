use mathlib.Core.Path.{refl}
use Rattle.rules.specs.Bytes.{byte_at}
use Rattle.table.proofs.read.Goals as goal

pub returns : goal.returns
unfolding byte_at
returns c = (refl, refl, c.u16_at.ensures, c.u16_at-2.ensures, c.u16_at-3.ensures, c.u32_at.ensures)
