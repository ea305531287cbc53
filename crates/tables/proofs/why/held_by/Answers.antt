use Rattle.rules.specs.Layout.{a_at, b_at, c_at}
use Rattle.tables.specs.Fields.{held_by}
use Rattle.tables.proofs.why.held_by.Goals as goal

pub returns-then-i-records : goal.returns-then-i-records
unfolding held_by a_at b_at c_at
returns-then-i-records c = λ h. cc
