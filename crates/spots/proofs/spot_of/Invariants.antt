use Rattle.std.proofs.Common.{◌≡◌, ◌+◌, ◌≤◌}
use Rattle.spots.specs.Standing.{lines_before, line_start}
use Rattle.spots.proofs.spot_of.Given as goal

abbrev pub invariant-loop-i : goal.invariant-loop-i
invariant-loop-i l = (l.spot.line ≡ lines_before l.text l.i + 1) × (l.spot.start ≡ line_start l.text l.i) × (l.spot.line ≤ l.i + 1)
