use Prim.Native.Nat.{◌*◌, ◌+◌}
use Rattle.scope.proofs.+inside_g_inside_s_scope_b_scope_c_scope_s.Given as goal

abbrev pub decreases-inside_g : goal.decreases-inside_g
decreases-inside_g l = 3 * l.i

abbrev pub decreases-inside_s : goal.decreases-inside_s
decreases-inside_s l = 3 * l.k + 2

abbrev pub decreases-scope_b : goal.decreases-scope_b
decreases-scope_b l = 3 * l.j

abbrev pub decreases-scope_c : goal.decreases-scope_c
decreases-scope_c l = 3 * l.j

abbrev pub decreases-scope_s : goal.decreases-scope_s
decreases-scope_s l = 3 * l.i + 1
