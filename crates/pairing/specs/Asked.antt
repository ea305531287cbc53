-- What the fields of a node hold, by the row of its kind. A row has the children alone; beside them a variable's binder, in a, and a case's target,
-- in c, are looked at.
-- Assumes nothing: these are definitions.
use Rattle.std.specs.Prelude.{ℕ, eqb, if◌then◌else◌}
use Rattle.rules.specs.declared.Field.{Field}
use Rattle.rules.specs.declared.Field.TheVariants.{Binder, Target}
use Rattle.kinds.specs.Rows.{a_in, c_in}

unfoldable pub a_of : ℕ → ℕ → Field
a_of k row = if eqb k 16 then Binder else a_in row

unfoldable pub c_of : ℕ → ℕ → Field
c_of k row = if eqb k 10 then Target else c_in row
