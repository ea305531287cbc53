use native.Mathlib.Omega.{arith}
use Rattle.spell.specs.Vocabulary.{counted}
use Rattle.spell.proofs.WordLaws.{short}
use Rattle.spell.proofs.size.Goals as goal

pub returns : goal.returns
unfolding counted
returns c = (c.letter.ensures, rw c.letter.ensures (short _ (omega arith)))
