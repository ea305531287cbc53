use Rattle.lines.specs.Shown.{shown_line}
use Rattle.lines.proofs.PenLaws.{puts_behind}
use Rattle.lines.proofs.shown.shown_line.Goals as goal

pub returns-clause-line_after : goal.returns-clause-line_after
unfolding shown_line
returns-clause-line_after c = (puts_behind (puts_behind c.step_words.ensures.puts c.row_words.ensures.puts) c.word.ensures).put.holds
