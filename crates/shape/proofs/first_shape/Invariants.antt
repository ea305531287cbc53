use Rattle.rules.specs.Shape.{shape_wrong}
use Rattle.rules.specs.Bytes.{first, first_from}
use Prim.Native.Nat.{◌≤◌, ◌-◌}
use mathlib.Core.Path.{◌≡◌}
use Rattle.shape.proofs.first_shape.Given as goal

abbrev pub invariant-loop-j : goal.invariant-loop-j
invariant-loop-j l = first_from (shape_wrong l.p) l.j (l.count - l.j) ≡ first (shape_wrong l.p) l.count
