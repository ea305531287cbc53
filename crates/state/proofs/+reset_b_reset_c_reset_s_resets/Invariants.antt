use Prim.Native.Nat.{◌+◌, ◌*◌}
use Rattle.state.proofs.+reset_b_reset_c_reset_s_resets.Given as goal

abbrev pub decreases-resets : goal.decreases-resets
decreases-resets l = 2 * l.i + 1

abbrev pub decreases-reset_b : goal.decreases-reset_b
decreases-reset_b l = 2 * l.j

abbrev pub decreases-reset_c : goal.decreases-reset_c
decreases-reset_c l = 2 * l.j

abbrev pub decreases-reset_s : goal.decreases-reset_s
decreases-reset_s l = 2 * l.i
