use mathlib.Core.Path.{refl}
use native.Mathlib.Omega.{arith}
use Rattle.kinds.specs.Rows.{named_in}
use Rattle.kinds.proofs.named_in.Goals as goal

pub returns : goal.returns
unfolding named_in
returns c = (refl, omega arith)
