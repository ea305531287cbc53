use Rattle.state.proofs.set_own.Goals as goal

pub set_cell-requires : goal.set_cell-requires
set_cell-requires c = rw c.number_of-k.ensures c.requires.1

pub returns : goal.returns
returns c = cc
