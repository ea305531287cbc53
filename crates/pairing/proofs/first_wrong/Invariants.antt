use Rattle.dropped.specs.Pairing.{entry_wrong}
use Rattle.rules.specs.Bytes.{first, first_from}
use Prim.Native.Nat.{◌-◌}
use mathlib.Core.Path.{◌≡◌}
use Rattle.pairing.proofs.first_wrong.Given as goal

abbrev pub invariant-loop-i : goal.invariant-loop-i
invariant-loop-i l = first_from (entry_wrong l.p l.q l.pairing) l.i (l.count - l.i) ≡ first (entry_wrong l.p l.q l.pairing) l.count
