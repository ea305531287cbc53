use Prim.Native.Nat.{◌+◌, ◌*◌}
use Rattle.evaluate.proofs.+eval_s_inside_s_part_through.Given as goal

abbrev pub decreases-part : goal.decreases-part
decreases-part l = 3 * l.i + 1

abbrev pub decreases-through : goal.decreases-through
decreases-through l = 3 * l.i + 1

abbrev pub decreases-eval_s : goal.decreases-eval_s
decreases-eval_s l = 3 * l.i

abbrev pub decreases-inside_s : goal.decreases-inside_s
decreases-inside_s l = 3 * l.k + 2
