use Rattle.rules.specs.Layout.{sum_in}
use Rattle.stamp.proofs.sum_in.Goals as goal

pub returns : goal.returns
unfolding sum_in
returns c = c.u32_at.ensures
