-- The scope of a program is that of its last node, with no binder marked and no group above.
-- Assumes nothing.
use mathlib.Core.Path.{◌≡◌, ap, ◌∙◌}
use mathlib.Core.List.{[]}
use Prim.Native.Nat.{ℕ, ◌-◌}
use lib.ListN.{replicate}
use Rattle.rules.specs.Bytes.{Bytes}
use Rattle.rules.specs.Layout.{nodes, edition}
use Rattle.rules.specs.Tree.{signal_at, root}
use Rattle.rules.specs.Scope.{Offers, unmarked, scope_s, scope_fault}
use Rattle.scope.specs.Open.{offers_below}
use Rattle.scope.proofs.DoorLaws.{none_offered}

pub root_scope : (p : Bytes) (count : ℕ) → count ≡ nodes p
    → scope_s (edition p) (replicate 1008 0) (offers_below p (replicate 1008 0) count) (signal_at p (count - 1)) ≡ scope_fault p
unfolding scope_fault unmarked root
root_scope p count e =
    ap (λ (o : Offers). scope_s (edition p) (replicate 1008 0) o (signal_at p (count - 1))) (none_offered p count)
    ∙ ap (λ (k : ℕ). scope_s (edition p) (replicate 1008 0) [] (signal_at p (k - 1))) e
