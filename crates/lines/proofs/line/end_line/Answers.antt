use Rattle.lines.specs.Print.{end_line}
use Rattle.lines.proofs.PenLaws.{puts_behind}
use Rattle.lines.proofs.line.end_line.Goals as goal

pub returns-clause-line_after : goal.returns-clause-line_after
unfolding end_line
returns-clause-line_after c = (puts_behind (puts_behind c.word.ensures c.field.ensures.puts) c.field-2.ensures.puts).put.holds
