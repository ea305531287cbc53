use Prim.Native.Nat.{◌*◌, ◌/◌}
use lib.ListN.{length}
use native.Mathlib.Omega.{arith}
use Rattle.peeking.proofs.CallLaws.{out_off, out_on, wide}
use Rattle.peeking.proofs.rooms_fit.Goals as goal

pub overflow_mul-result-then-out-left : goal.overflow_mul-result-then-out-left
overflow_mul-result-then-out-left c = omega (arith, wide (8 * length c.args.list.now) (length c.args.recs.now / 40) (omega (arith, c.requires)))

pub returns-then-out-left : goal.returns-then-out-left
returns-then-out-left c = out_on _ _ _ _ c.if-out-left.true

pub returns : goal.returns
returns c = out_off _ _ _ _ c.if-out-left.false
