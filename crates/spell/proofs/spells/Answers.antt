use mathlib.Core.Path.{ap, ◌∙◌}
use mathlib.Core.List.{[]}
use lib.Dec.{eqb}
use lib.Pointwise.{pointwise}
use Rattle.texts.specs.Spelled.{spelled}
use Rattle.texts.specs.Spelling.{kind_word, type_word, edition_word}
use Rattle.spell.specs.Vocabulary.{listed, counted}
use Rattle.spell.proofs.PartLaws.{same_pointwise}
use Rattle.spell.proofs.WordLaws.{spread, rows_from, row_word}
use Rattle.spell.proofs.spells.Goals as goal

pub returns : goal.returns
unfolding rows_from spread counted listed kind_word type_word edition_word spelled
returns c = c.eq.ensures ∙ ap (pointwise eqb c.args.word.now) (row_word c.args.row _ [] c.requires c.size.ensures.0) ∙ same_pointwise _ _
