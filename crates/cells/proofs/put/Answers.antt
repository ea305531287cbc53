use Rattle.cells.proofs.Written.{write_step, write_starts, write_ends}
use native.Mathlib.Omega.{arith}
use lib.ListN.{length-set}
use mathlib.Core.Path.{refl}
use Rattle.cells.proofs.put.Goals as goal

pub loop-k-init : goal.loop-k-init
loop-k-init c = (refl, write_starts _ _ _ _)

pub loop-k-preserved : goal.loop-k-preserved
loop-k-preserved c = (simp length-set c.loop-k.invariant.0, write_step _ _ _ _ _ _ _ (omega arith) c.loop-k.invariant.1)

pub shape_of-s : goal.shape_of-s
shape_of-s c = c.loop-k.invariant.0

pub returns : goal.returns
returns c = write_ends _ _ _ _ _ _ _ (omega arith) c.loop-k.invariant.1
