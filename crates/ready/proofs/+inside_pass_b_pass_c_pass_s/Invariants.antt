use Prim.Native.Nat.{◌*◌, ◌+◌}
use Rattle.ready.proofs.+inside_pass_b_pass_c_pass_s.Given as goal

abbrev pub decreases-inside : goal.decreases-inside
decreases-inside l = 2 * l.k + 1

abbrev pub decreases-pass_b : goal.decreases-pass_b
decreases-pass_b l = 2 * l.j

abbrev pub decreases-pass_c : goal.decreases-pass_c
decreases-pass_c l = 2 * l.j

abbrev pub decreases-pass_s : goal.decreases-pass_s
decreases-pass_s l = 2 * l.i
