use Rattle.reader.specs.Held.{names_put}
use Rattle.reader.proofs.RowLaws as L
use Rattle.reader.proofs.put_names.Goals as goal

pub returns : goal.returns
unfolding names_put
returns c = L.stored_four _ _ _ _ _ _
