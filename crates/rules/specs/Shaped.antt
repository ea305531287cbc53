-- A program whose length and shape are right, and a node of a sort in it: what a recursion over children carries.
-- Assumes nothing: these are definitions.
use Rattle.std.specs.Prelude.{◌≡◌, Bool, true, false, ℕ, ◌≤◌, ◌<◌, ◌%◌, length}
use Rattle.rules.specs.Bytes.{Bytes}
use Rattle.rules.specs.Layout.{nodes, records, kind_at}
use Rattle.rules.specs.Shape.{children_wrong}

pub record Shaped (p : Bytes) : Type 0 where
  pub whole : length p % 512 ≡ 0
  pub small : nodes p ≤ 1008
  pub within : nodes p ≤ records p
  pub children : (n : ℕ) → n < nodes p → children_wrong p n ≡ false

-- Node i is of a sort.
pub record NodeOf (sort : ℕ → Bool) (p : Bytes) (i : ℕ) : Type 0 where
  pub shaped : Shaped p
  pub inside : i < nodes p
  pub sorted : sort (kind_at p i) ≡ true
