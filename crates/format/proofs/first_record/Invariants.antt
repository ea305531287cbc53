use Prim.Native.Nat.{◌≤◌, ◌-◌}
use Rattle.rules.specs.Format.{record_wrong}
use Rattle.format.proofs.SearchLaws.{Ahead}
use Rattle.format.proofs.first_record.Given as goal

abbrev pub invariant-loop-r : goal.invariant-loop-r
invariant-loop-r l = Ahead (record_wrong l.p) l.count l.r
