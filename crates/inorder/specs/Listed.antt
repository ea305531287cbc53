-- The walk of a listing: the nodes of a list are listed behind those that it has, and numbered.
-- Assumes nothing: these are definitions.
use Rattle.std.specs.Prelude.{ℕ, List}
use Rattle.inorder.specs.Walked.{Walked}
use Rattle.inorder.specs.declared.Listing.{Listing}

abbrev pub Listed : List ℕ → Listing → Listing → Type 0
Listed xs s s' = Walked xs s.count s'.count s.order s'.order s.places s'.places
