use Rattle.format.proofs.SumLaws.{added, from}
use Rattle.rules.specs.Format.{weighed}
use Prim.Native.Nat.{◌-◌, ◌*◌, ◌≤◌}
use mathlib.Core.Path.{◌≡◌}
use Rattle.format.proofs.check_sum.Given as goal

abbrev pub invariant-loop-i : goal.invariant-loop-i
invariant-loop-i l = (l.bytes ≤ 255 * (508 - l.i)) × (l.sum ≤ 129540 * (508 - l.i)) × (l.bytes ≡ added (from l.p l.at l.i)) × (l.sum ≡ weighed 0 (from l.p l.at l.i))
