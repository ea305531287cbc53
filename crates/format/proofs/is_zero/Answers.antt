use Rattle.format.proofs.RecordLaws.{zero_record}
use Rattle.format.proofs.is_zero.Goals as goal

pub returns : goal.returns
returns c = zero_record _ _ c.node_at-at.ensures.0 c.low_at.ensures c.u32_at.ensures c.both.ensures
