-- The set of lets that a pass carries, as marks: a region is what is needed at once with its top node, and the mark of a let
-- is the number of the region that its definition is in, or 0.
-- Assumes nothing: these are definitions.
use Rattle.std.specs.Prelude.{◌≡◌, Bool, List, ℕ, ◌≤◌, ◌<◌, eqb, length, get_or}
use Rattle.rules.specs.Bytes.{Bytes}
use Rattle.rules.specs.Layout.{nodes}
use Rattle.rules.specs.Shaped.{NodeOf}
use Rattle.ready.specs.Found.{Lets}

unfoldable pub marked_in : List ℕ → ℕ → Lets
marked_in marks region x = eqb (get_or marks x 0) region

-- Node i of a region. No mark but 0 is below the region's number, so that of a child of i, with one more, is a new one.
pub record Entered (sort : ℕ → Bool) (p : Bytes) (marks : List ℕ) (region i : ℕ) : Type 0 where
  pub node : NodeOf sort p i
  pub room : length marks ≡ 1008
  pub above : i < region
  pub within : region ≤ nodes p
  pub new : (x : ℕ) → 0 < get_or marks x 0 → region ≤ get_or marks x 0
