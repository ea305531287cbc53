-- What the shape of a table gives its tree.
-- Assumes nothing: these are definitions.
use Rattle.std.specs.Prelude.{ℕ, ◌≤◌}
use Rattle.rules.specs.Bytes.{Bytes}
use Rattle.rules.specs.Layout.{most_nodes, cells, type_at, checks_of}
use Rattle.rules.specs.Tree.{root}
use Rattle.rules.specs.Size.{times_s}
use Rattle.promises.specs.Sits.{SitsS}

-- The tree's numbers, types and values are those of the table, no cell stands in it twice, and the sum of the checks is at most 791,230,320, so that
-- nothing wraps in its 4 bytes.
pub record Seated (p : Bytes) : Type 0 where
  pub sits : SitsS most_nodes (cells p) (type_at p) (root p)
  pub stamp_small : checks_of p ≤ 791230320
  pub once : (k : ℕ) → times_s k (root p) ≤ 1
