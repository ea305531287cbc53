use mathlib.Core.Path.{refl}
use Rattle.letters.proofs.Sheet.spaces.Goals as goal

pub returns : goal.returns
returns c = record { wrote = c.put_spaces-self.ensures; lent = refl; long = c.put_spaces-self.auto.room }
