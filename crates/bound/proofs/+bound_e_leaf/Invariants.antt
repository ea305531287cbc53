use Prim.Native.Nat.{◌+◌, ◌*◌}
use Rattle.bound.proofs.+bound_e_leaf.Given as goal

abbrev pub decreases-bound_e : goal.decreases-bound_e
decreases-bound_e l = 2 * l.i

abbrev pub decreases-leaf : goal.decreases-leaf
decreases-leaf l = 2 * l.i + 1
