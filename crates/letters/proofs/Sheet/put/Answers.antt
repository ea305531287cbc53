use mathlib.Core.Path.{refl}
use Rattle.letters.proofs.Sheet.put.Goals as goal

pub returns : goal.returns
returns c = record { wrote = c.put_byte-self.ensures; lent = refl; long = c.put_byte-self.auto.room }
