-- The kinds that have a cell. Assumes nothing.
use Rattle.std.proofs.Common.{◌≡◌, ◌≢◌, ℕ, true, false, refl}
use borrow.Author.Tests.{ne_eqb}
use Rattle.rules.specs.Bytes.{◌or◌}
use Rattle.rules.specs.Layout.{has_cell}

pub continue_has : (k : ℕ) → k ≡ 4 → true ≡ has_cell k
unfolding has_cell ◌or◌
continue_has k e = rw e refl

pub switch_has : (k : ℕ) → k ≡ 6 → true ≡ has_cell k
unfolding has_cell ◌or◌
switch_has k e = rw e refl

pub group_has : (k : ℕ) → k ≡ 7 → true ≡ has_cell k
unfolding has_cell ◌or◌
group_has k e = rw e refl

pub other_has_none : (k : ℕ) → k ≢ 4 → k ≢ 6 → k ≢ 7 → false ≡ has_cell k
unfolding has_cell ◌or◌
other_has_none k a b c = rw (ne_eqb k 4 a, ne_eqb k 6 b, ne_eqb k 7 c) refl

-- What has a cell, for the code.
pub ruleset with_cells = (continue_has, switch_has, group_has, other_has_none)
