use Rattle.rules.specs.Layout.{time_in}
use Rattle.record.proofs.time_of.Goals as goal

pub returns : goal.returns
unfolding time_in
returns c = c.u32_at.ensures
