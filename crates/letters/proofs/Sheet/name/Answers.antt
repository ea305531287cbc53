use Rattle.texts.specs.Numerals.{decimal}
use Rattle.letters.proofs.PutsLaws.{puts_then}
use Rattle.letters.proofs.Sheet.name.Goals as goal

pub returns : goal.returns
unfolding decimal
returns c = puts_then c.put.ensures (puts_then c.put-2.ensures c.digits.ensures)
