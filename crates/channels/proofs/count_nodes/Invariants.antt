use mathlib.Core.Bool.{Bool}
use Prim.Native.Nat.{ℕ}
use lib.Dec.{eqb}
use Rattle.rules.specs.Bytes.{Bytes}
use Rattle.rules.specs.Layout.{kind_at}
use Rattle.format.proofs.SearchLaws.{Ahead}
use Rattle.channels.proofs.count_nodes.Given as goal

-- The record is of kind 0.
abbrev pub ends : Bytes → ℕ → Bool
ends p r = eqb (kind_at p r) 0

abbrev pub invariant-loop-r : goal.invariant-loop-r
invariant-loop-r l = Ahead (ends l.p) l.count l.r
