use Rattle.rules.specs.Layout.{cell}
use Rattle.cells.proofs.cell.Goals as goal

pub returns : goal.returns
unfolding cell
returns c = cc
