use Rattle.texts.specs.Tokens.{part}
use mathlib.Core.Path.{◌∙◌}
use Rattle.reader.proofs.RowLaws as L
use Rattle.reader.proofs.ends_list.Goals as goal

pub returns-in-None : goal.returns-in-None
unfolding part
returns-in-None c = L.list_none _ _ _ c.word_from.ensures c.in-None.is

pub returns-in-Some : goal.returns-in-Some
unfolding part
returns-in-Some c = c.is_byte.ensures ∙ L.list_some _ _ _ c.word_from.ensures _ c.in-Some.is
