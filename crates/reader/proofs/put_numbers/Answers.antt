use Rattle.reader.specs.Held.{numbers_in}
use Rattle.reader.proofs.RowLaws as L
use Rattle.reader.proofs.put_numbers.Goals as goal

pub returns : goal.returns
unfolding numbers_in
returns c = L.stored_six _ _ _ _ _ _ _ _
