use mathlib.Core.Path.{sym}
use lib.ListN.{get_or-eq_default}
use Rattle.dropped.specs.Pairing.{old_of}
use Rattle.reaching.proofs.ReachLaws.{entry_in}
use native.Mathlib.Omega.{arith}
use Rattle.reaching.proofs.old_of.Goals as goal

pub overflow_cast-result : goal.overflow_cast-result
overflow_cast-result c = omega (arith, c.shared_slice_known-1.given c.args.i)

pub returns-then-i-pairing : goal.returns-then-i-pairing
unfolding old_of
returns-then-i-pairing c = entry_in c.args.pairing.now _ 0 65535 c.if-i-pairing.true

pub returns-else-i-pairing : goal.returns-else-i-pairing
unfolding old_of
returns-else-i-pairing c = sym (get_or-eq_default c.args.pairing.now 65535 c.if-i-pairing.false)
