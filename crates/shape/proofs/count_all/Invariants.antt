use mathlib.Core.Path.{◌≡◌}
use Prim.Native.Nat.{◌≤◌, ◌-◌}
use lib.ListN.{length}
use Rattle.shape.specs.Counts.{marked_to, last_wrong}
use Rattle.shape.proofs.count_all.Given as goal

abbrev pub invariant-loop-m : goal.invariant-loop-m
invariant-loop-m l = (length l.counts ≡ length l.initial.counts) × (l.counts ≡ marked_to l.p l.initial.counts l.m) × (l.wrong ≡ last_wrong l.p l.m)
