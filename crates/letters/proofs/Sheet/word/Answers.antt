use mathlib.Core.Path.{refl}
use Rattle.letters.proofs.Sheet.word.Goals as goal

pub returns : goal.returns
returns c = record { wrote = c.put_word-self.ensures; lent = refl; long = c.put_word-self.auto.room }
