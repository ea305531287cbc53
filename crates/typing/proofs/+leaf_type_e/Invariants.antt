use Prim.Native.Nat.{◌+◌, ◌*◌}
use Rattle.typing.proofs.+leaf_type_e.Given as goal

abbrev pub decreases-leaf : goal.decreases-leaf
decreases-leaf l = 2 * l.i + 1

abbrev pub decreases-type_e : goal.decreases-type_e
decreases-type_e l = 2 * l.i
