use Rattle.rules.specs.Layout.{cell}
use mathlib.Core.Path.{ap, ◌∙◌}
use Rattle.cells.proofs.own_cell.Goals as goal

pub cell-requires : goal.cell-requires
cell-requires c = rw c.number_of-k.ensures c.requires.1

pub returns : goal.returns
returns c = c.cell.ensures ∙ ap (cell c.args.st.now) c.number_of-k.ensures
