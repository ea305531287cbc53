use Prim.Native.Nat.{◌+◌, ◌*◌}
use Rattle.mending.proofs.+mend_b_mend_c_mend_group_mend_s_mend_switch.Given as goal

abbrev pub decreases-mend_b : goal.decreases-mend_b
decreases-mend_b l = 2 * l.j + 1

abbrev pub decreases-mend_c : goal.decreases-mend_c
decreases-mend_c l = 2 * l.j + 1

abbrev pub decreases-mend_group : goal.decreases-mend_group
decreases-mend_group l = 2 * l.i

abbrev pub decreases-mend_s : goal.decreases-mend_s
decreases-mend_s l = 2 * l.i + 1

abbrev pub decreases-mend_switch : goal.decreases-mend_switch
decreases-mend_switch l = 2 * l.i
