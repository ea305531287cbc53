use Rattle.std.proofs.Common.{refl}
use Rattle.rules.specs.Bytes.{byte_at}
use Rattle.rules.specs.Layout.{kind_at}
use Rattle.tables.proofs.codes.kind_at.Goals as goal

pub returns-then-r-records : goal.returns-then-r-records
unfolding kind_at byte_at
returns-then-r-records c = λ h. rw c.record_at-at.ensures.0 refl
