use Prim.Native.Nat.{◌≤◌, ◌-◌}
use Rattle.rules.specs.Format.{sum_wrong}
use Rattle.format.proofs.SearchLaws.{Ahead}
use Rattle.format.proofs.first_sum.Given as goal

abbrev pub invariant-loop-j : goal.invariant-loop-j
invariant-loop-j l = Ahead (sum_wrong l.p) l.count l.j
