use Rattle.lines.specs.Print.{first_line}
use Rattle.lines.proofs.PenLaws.{puts_behind}
use Rattle.lines.proofs.line.first_line.Goals as goal

pub returns-clause-line_after : goal.returns-clause-line_after
unfolding first_line
returns-clause-line_after c = (puts_behind (puts_behind (puts_behind (puts_behind (puts_behind c.word.ensures c.field.ensures.puts) c.field-2.ensures.puts) c.field-3.ensures.puts) c.type_words.ensures.puts) c.word-2.ensures).put.holds
