use Rattle.lines.specs.Channels.{channels_line}
use Rattle.lines.proofs.PenLaws.{puts_behind}
use Rattle.lines.proofs.named.channels_line.Goals as goal

pub returns-clause-line_after : goal.returns-clause-line_after
unfolding channels_line
returns-clause-line_after c = (puts_behind (puts_behind c.word.ensures c.some_or_none.ensures.puts) c.word-2.ensures).put.holds
