use Rattle.rules.specs.Layout.{hold}
use Rattle.moves.proofs.hold.Goals as goal

pub set_cell-requires : goal.set_cell-requires
set_cell-requires c = rw c.number_of.ensures c.requires.0.room

pub returns : goal.returns
unfolding hold
returns c = rw (c.set_cell.ensures, c.number_of.ensures, c.requires.1)
