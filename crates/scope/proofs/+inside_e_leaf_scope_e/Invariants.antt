use Prim.Native.Nat.{◌*◌, ◌+◌}
use Rattle.scope.proofs.+inside_e_leaf_scope_e.Given as goal

abbrev pub decreases-leaf : goal.decreases-leaf
decreases-leaf l = 2 * l.i + 1

abbrev pub decreases-inside_e : goal.decreases-inside_e
decreases-inside_e l = 2 * l.k + 1

abbrev pub decreases-scope_e : goal.decreases-scope_e
decreases-scope_e l = 2 * l.i
