use lib.ListN.{take}
use Rattle.spell.specs.Vocabulary.{listed}
use Rattle.letters.specs.Wrote.{Wrote}
use Rattle.letters.proofs.put_word.Given as goal

abbrev pub invariant-loop-i : goal.invariant-loop-i
invariant-loop-i l = Wrote l.initial.room l.at (take l.i (listed l.row)) l.room l.to
