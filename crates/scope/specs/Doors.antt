-- What a recursion for scope carries: the table of the lists' first branches, and the doors of the groups that it is inside of.
-- Assumes nothing: these are definitions.
use Rattle.std.specs.Prelude.{◌≡◌, List, false, ℕ, suc, ◌≤◌, ◌<◌, length, get_or}
use Rattle.rules.specs.Bytes.{Bytes}
use Rattle.rules.specs.Layout.{nodes, kind_at, b_at}
use Rattle.rules.specs.Kinds.{is_signal}
use Rattle.rules.specs.Shaped.{NodeOf}
use Rattle.cells.specs.Indexed.{Listed}
use Rattle.scope.specs.Open.{is_open}

-- At node i: every open group has a number above i, and every door is that of the group that it names.
pub record Doors (p : Bytes) (homes doors : List ℕ) (limit i : ℕ) : Type 0 where
  pub listed : Listed p homes
  pub wide : length doors ≡ 1008
  pub inside : limit ≤ nodes p
  pub less : i < limit
  pub above : (m : ℕ) → m ≤ i → is_open p doors m ≡ false
  pub held : (g m : ℕ) → get_or doors g 0 ≡ suc m → NodeOf is_signal p m × (kind_at p m ≡ 7) × (b_at p m ≡ g)
