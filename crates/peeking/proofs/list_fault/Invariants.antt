use Rattle.watched.specs.Watch.{entry_off}
use Rattle.rules.specs.Bytes.{first, first_from}
use lib.ListN.{length}
use Prim.Native.Nat.{◌-◌}
use mathlib.Core.Path.{◌≡◌}
use Rattle.peeking.proofs.list_fault.Given as goal

abbrev pub invariant-loop-j : goal.invariant-loop-j
invariant-loop-j l = first_from (entry_off l.p l.list) l.j (length l.list - l.j) ≡ first (entry_off l.p l.list) (length l.list)
