use mathlib.Core.Path.{sym}
use Rattle.lines.specs.Print.{refused_line}
use Rattle.lines.proofs.PenLaws.{puts_behind}
use Rattle.lines.proofs.line.refused_line.Goals as goal

pub returns-clause-line_after : goal.returns-clause-line_after
unfolding refused_line
returns-clause-line_after c = rw (sym c.code_of-code.ensures, sym c.place_of-place.ensures) ((puts_behind (puts_behind c.word.ensures c.field.ensures.puts) c.field-2.ensures.puts).put.holds)
