use Prim.Native.Nat.{◌-◌}
use lib.ListN.{length}
use Rattle.labels.proofs.NoteLaws.{Noting}
use Rattle.labels.proofs.note_branches.Given as goal

abbrev pub invariant-loop-w : goal.invariant-loop-w
invariant-loop-w l = Noting l.text l.table l.state l.at

abbrev pub decreases-loop-w : goal.decreases-loop-w
decreases-loop-w l = length l.text - l.at
