use Rattle.rules.specs.Bytes.{◌and◌}
use Rattle.rules.specs.WellFormed.{content_fits}
use Rattle.rules.specs.Values.{present_in, word_in}
use Rattle.well.proofs.content_fits.Goals as goal

pub returns : goal.returns
unfolding content_fits present_in word_in ◌and◌
returns c = cc
