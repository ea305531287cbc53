use Rattle.rules.specs.Kinds.{row}
use Rattle.kinds.proofs.row.Goals as goal

pub returns : goal.returns
unfolding row
returns c = c.row_number.ensures
