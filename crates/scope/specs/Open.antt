-- The groups that a case may leave for, in lent numbers by node: a group is open while the recursion is inside it, and then its first branch has
-- the group's number and one.
-- Assumes nothing: these are definitions.
use Rattle.std.specs.Prelude.{Bool, List, [], ◌∷◌, ℕ, zero, suc, eqb, get_or, if◌then◌else◌}
use Rattle.rules.specs.Bytes.{Bytes, ◌and◌}
use Rattle.rules.specs.Layout.{kind_at, b_at}
use Rattle.rules.specs.Scope.{Offers}
use Rattle.rules.specs.Tree.{branches_at}

unfoldable pub is_open : Bytes → List ℕ → ℕ → Bool
is_open p doors n = eqb (kind_at p n) 7 and eqb (get_or doors (b_at p n) 0) (suc n)

-- The open groups of so many numbers from low on: the nearest first, since a node's number is below those of the nodes above it.
unfoldable pub open_from : Bytes → List ℕ → ℕ → ℕ → Offers
open_from p doors low zero = []
open_from p doors low (suc left) =
    if is_open p doors low then branches_at p (b_at p low) ∷ open_from p doors (suc low) left else open_from p doors (suc low) left

-- Those below a limit: the number of the last node at which the way up ends (above the root the count of nodes), or of the only group that counts
-- and one.
unfoldable pub offers_below : Bytes → List ℕ → ℕ → Offers
offers_below p doors limit = open_from p doors 0 limit

-- The limit below group n: in edition one only the group itself counts.
unfoldable pub limit_below : ℕ → ℕ → ℕ → ℕ
limit_below zero n limit = suc n
limit_below (suc ed) n limit = limit
