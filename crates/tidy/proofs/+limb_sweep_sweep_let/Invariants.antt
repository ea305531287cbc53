use Prim.Native.Nat.{◌+◌, ◌*◌, ◌-◌}
use Rattle.tidy.proofs.+limb_sweep_sweep_let.Given as goal

abbrev pub decreases-limb : goal.decreases-limb
decreases-limb l = 3 * l.i

abbrev pub decreases-sweep : goal.decreases-sweep
decreases-sweep l = 3 * l.i + 2

abbrev pub decreases-sweep_let : goal.decreases-sweep_let
decreases-sweep_let l = 3 * l.i + 1
