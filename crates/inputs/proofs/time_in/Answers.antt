use Rattle.rules.specs.Layout.{time_in}
use Rattle.inputs.proofs.time_in.Goals as goal

pub returns : goal.returns
unfolding time_in
returns c = c.word_at.ensures
