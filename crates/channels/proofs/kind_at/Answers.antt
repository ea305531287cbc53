use Rattle.rules.specs.Bytes.{byte_at}
use Rattle.rules.specs.Layout.{kind_at}
use mathlib.Core.Path.{refl}
use Rattle.channels.proofs.kind_at.Goals as goal

pub returns : goal.returns
unfolding kind_at byte_at
returns c = rw c.record_at-at.ensures.0 refl
