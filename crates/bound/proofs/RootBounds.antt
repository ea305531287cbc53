-- The bound of a program is that of its last node.
-- Assumes nothing.
use mathlib.Core.Path.{◌≡◌, ap}
use Prim.Native.Nat.{ℕ, ◌+◌, ◌-◌, ◌≤◌}
use Rattle.rules.specs.Bytes.{Bytes}
use Rattle.rules.specs.Layout.{nodes}
use Rattle.rules.specs.Kinds.{is_signal}
use Rattle.rules.specs.Shaped.{NodeOf}
use Rattle.rules.specs.Size.{size_s}
use Rattle.rules.specs.Tree.{signal_at, root}
use Rattle.rules.specs.Bound.{bound_s, bound_u, bound}
use Rattle.bound.specs.SmallTree.{nodes_s, eval_in, update_in, SmallTree, BoundsOf}

module _ (p : Bytes) (count : ℕ) (e : count ≡ nodes p) where
  root_at : signal_at p (count - 1) ≡ root p
  unfolding root
  root_at = ap (λ (k : ℕ). signal_at p (k - 1)) e

  pub root_small : NodeOf is_signal p (count - 1) → size_s (root p) ≤ 1008 → SmallTree is_signal nodes_s p (count - 1)
  root_small w h = record { node = w; small = rw root_at h }

  pub root_bound : (b : ℕ) → BoundsOf (bound_s (signal_at p (count - 1))) (bound_u (signal_at p (count - 1))) b → eval_in b + update_in b ≡ bound p
  unfolding bound
  root_bound b k = rw (k.eval_is, k.update_is, root_at)
