use mathlib.Core.List.{[]}
use native.Mathlib.Omega.{arith}
use Rattle.texts.specs.Spelled.{spelled}
use Rattle.texts.specs.Spelling.{kind_word, type_word, edition_word}
use Rattle.spell.specs.Vocabulary.{listed, counted}
use Rattle.spell.proofs.WordLaws.{spread, rows_from, row_byte}
use Rattle.spell.proofs.letter.Goals as goal

pub returns : goal.returns
unfolding rows_from spread counted listed kind_word type_word edition_word spelled
returns c = row_byte c.args.row c.args.i [] (omega arith) (omega arith)
