use Rattle.std.proofs.Common.{◌≤◌}
use Rattle.spots.proofs.mark_part.Given as goal

abbrev pub invariant-loop-byte : goal.invariant-loop-byte
invariant-loop-byte l = l.n ≤ 100
