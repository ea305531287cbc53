use Prim.Native.Nat.{◌+◌, ◌*◌}
use Rattle.explain.proofs.+part_parts_trace.Given as goal

abbrev pub decreases-part : goal.decreases-part
decreases-part l = 3 * l.i

abbrev pub decreases-parts : goal.decreases-parts
decreases-parts l = 3 * l.i + 1

abbrev pub decreases-trace : goal.decreases-trace
decreases-trace l = 3 * l.i + 2
