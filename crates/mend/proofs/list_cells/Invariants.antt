use Rattle.rules.specs.Bytes.{write_at}
use Rattle.mends.specs.Changes.{changed_from}
use lib.ListN.{length}
use Prim.Native.Nat.{◌+◌}
use mathlib.Core.Path.{◌≡◌}
use Rattle.mend.proofs.list_cells.Given as goal

abbrev pub invariant-loop-k : goal.invariant-loop-k
invariant-loop-k l = (length l.list ≡ length l.initial.list)
    × (l.found ≡ l.from + length (changed_from l.old l.st 0 l.k)) × (l.list ≡ write_at l.initial.list l.from (changed_from l.old l.st 0 l.k))
