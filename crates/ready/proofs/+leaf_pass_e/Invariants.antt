use Prim.Native.Nat.{◌+◌, ◌*◌}
use Rattle.ready.proofs.+leaf_pass_e.Given as goal

abbrev pub decreases-pass_e : goal.decreases-pass_e
decreases-pass_e l = 2 * l.i

abbrev pub decreases-leaf : goal.decreases-leaf
decreases-leaf l = 2 * l.i + 1
