use mathlib.Core.Path.{sym}
use Rattle.wire.specs.Lines.{refused_line}
use Rattle.wire.proofs.answer.refused_line.Goals as goal

pub returns : goal.returns
unfolding refused_line
returns c = rw (sym c.code_of-code.ensures, sym c.place_of-place.ensures) c.coded_line.ensures
