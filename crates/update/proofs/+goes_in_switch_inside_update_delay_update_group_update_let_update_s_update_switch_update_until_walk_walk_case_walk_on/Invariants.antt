use Prim.Native.Nat.{◌+◌, ◌*◌}
use Rattle.update.proofs.+goes_in_switch_inside_update_delay_update_group_update_let_update_s_update_switch_update_until_walk_walk_case_walk_on.Given as goal

abbrev pub decreases-goes : goal.decreases-goes
decreases-goes l = 5 * l.i + 3

abbrev pub decreases-in_switch : goal.decreases-in_switch
decreases-in_switch l = 5 * l.i

abbrev pub decreases-inside : goal.decreases-inside
decreases-inside l = 5 * l.k + 4

abbrev pub decreases-update_delay : goal.decreases-update_delay
decreases-update_delay l = 5 * l.i + 1

abbrev pub decreases-update_group : goal.decreases-update_group
decreases-update_group l = 5 * l.i + 1

abbrev pub decreases-update_let : goal.decreases-update_let
decreases-update_let l = 5 * l.i + 1

abbrev pub decreases-update_s : goal.decreases-update_s
decreases-update_s l = 5 * l.i + 2

abbrev pub decreases-update_switch : goal.decreases-update_switch
decreases-update_switch l = 5 * l.i + 1

abbrev pub decreases-update_until : goal.decreases-update_until
decreases-update_until l = 5 * l.i + 1

abbrev pub decreases-walk : goal.decreases-walk
decreases-walk l = 5 * l.j + 2

abbrev pub decreases-walk_case : goal.decreases-walk_case
decreases-walk_case l = 5 * l.j + 1

abbrev pub decreases-walk_on : goal.decreases-walk_on
decreases-walk_on l = 5 * l.j
