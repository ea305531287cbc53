use Prim.Native.Nat.{◌+◌, ◌*◌}
use Rattle.inorder.proofs.Listing.+limb_walk.Given as goal

abbrev pub decreases-limb : goal.decreases-limb
decreases-limb l = 2 * l.i

abbrev pub decreases-walk : goal.decreases-walk
decreases-walk l = 2 * l.i + 1
