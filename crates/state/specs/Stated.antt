-- What a recursion over a program and a state carries.
-- Assumes nothing: these are definitions.
use Rattle.std.specs.Prelude.{Bool, List, ℕ, ◌≤◌}
use Rattle.rules.specs.Bytes.{Bytes}
use Rattle.rules.specs.Layout.{state_length}
use Rattle.rules.specs.Shaped.{NodeOf}
use Rattle.cells.specs.Indexed.{Indexed}

-- Node i is of a sort, the cells' numbers are in a table, and a state of so many bytes has every cell.
pub record Stated (sort : ℕ → Bool) (p : Bytes) (index : List ℕ) (size i : ℕ) : Type 0 where
  pub node : NodeOf sort p i
  pub indexed : Indexed p index
  pub enough : state_length p ≤ size
