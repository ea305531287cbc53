use mathlib.Core.Path.{refl}
use Rattle.reader.specs.Held.{appended}
use Rattle.reader.proofs.RowLaws as L
use Rattle.reader.proofs.append.Goals as goal

pub returns : goal.returns
unfolding appended
returns c = (refl, L.append_stored _ _ _ _ _ _)
