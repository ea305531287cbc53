use Rattle.texts.specs.Numerals.{decimal}
use Rattle.letters.proofs.PutsLaws.{puts_then}
use Rattle.letters.proofs.Sheet.number.Goals as goal

pub returns : goal.returns
unfolding decimal
returns c = puts_then c.put.ensures c.digits.ensures
