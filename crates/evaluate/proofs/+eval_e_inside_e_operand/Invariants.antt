use Prim.Native.Nat.{◌+◌, ◌*◌}
use Rattle.evaluate.proofs.+eval_e_inside_e_operand.Given as goal

abbrev pub decreases-operand : goal.decreases-operand
decreases-operand l = 2 * l.i + 1

abbrev pub decreases-eval_e : goal.decreases-eval_e
decreases-eval_e l = 2 * l.i

abbrev pub decreases-inside_e : goal.decreases-inside_e
decreases-inside_e l = 2 * l.k + 1
