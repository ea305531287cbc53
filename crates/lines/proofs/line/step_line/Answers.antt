use Rattle.lines.specs.Print.{step_line}
use Rattle.lines.proofs.PenLaws.{puts_behind}
use Rattle.lines.proofs.line.step_line.Goals as goal

pub returns-clause-line_after : goal.returns-clause-line_after
unfolding step_line
returns-clause-line_after c = (puts_behind (puts_behind (puts_behind c.field.ensures.puts c.value_words.ensures.puts) c.word.ensures) c.field-2.ensures.puts).put.holds
