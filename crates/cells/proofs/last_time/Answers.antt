use Rattle.rules.specs.Layout.{last_time}
use Rattle.cells.proofs.last_time.Goals as goal

pub returns : goal.returns
unfolding last_time
returns c = c.u32_at.ensures
