use Rattle.wire.specs.Lines.{new_line}
use mathlib.Core.Path.{sym}
use Rattle.wire.proofs.answer.new_line.Goals as goal

pub returns : goal.returns
unfolding new_line
returns c = rw (sym c.code_of.ensures, sym c.place_of-place.ensures) c.coded_line.ensures
