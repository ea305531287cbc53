use Prim.Native.Nat.{◌≤◌, ◌-◌}
use Rattle.rules.specs.Format.{number_wrong}
use Rattle.format.proofs.SearchLaws.{Ahead}
use Rattle.format.proofs.first_number.Given as goal

abbrev pub invariant-loop-j : goal.invariant-loop-j
invariant-loop-j l = Ahead (number_wrong l.p) l.count l.j
