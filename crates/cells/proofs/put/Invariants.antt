use Rattle.rules.specs.Bytes.{bytes_of, write_at}
use lib.ListN.{length}
use Prim.Native.Nat.{◌+◌, ◌-◌}
use mathlib.Core.Path.{◌≡◌}
use Rattle.cells.proofs.put.Given as goal

abbrev pub invariant-loop-k : goal.invariant-loop-k
invariant-loop-k l = (length l.s ≡ length l.initial.s) × (write_at l.s (l.at + l.k) (bytes_of (l.count - l.k) l.left) ≡ write_at l.initial.s l.at (bytes_of l.count l.x))
