use Rattle.printing.specs.Turns.{opening_line}
use Rattle.printing.proofs.opening.Goals as goal

pub returns-in-Ok : goal.returns-in-Ok
unfolding opening_line
returns-in-Ok c = rw c.in-Ok.is c.first_line.ensures

pub returns-in-Err : goal.returns-in-Err
unfolding opening_line
returns-in-Err c = rw c.in-Err.is c.refused_line.ensures
