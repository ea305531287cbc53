use Rattle.std.proofs.lemmas.Grind.{common_steps}
use native.Mathlib.Omega.{arith}
use Rattle.rules.specs.Bytes.{byte_at}
use Rattle.inputs.proofs.byte_at.Goals as goal

pub returns : goal.returns
unfolding byte_at
returns c = grind (arith, common_steps, c.get.ensures.lookup, c.copied.ensures, c.unwrap_or.ensures)
