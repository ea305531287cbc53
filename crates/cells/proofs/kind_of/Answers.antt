use mathlib.Core.Path.{refl}
use Rattle.rules.specs.Bytes.{byte_at}
use Rattle.rules.specs.Layout.{kind_at}
use Rattle.cells.proofs.kind_of.Goals as goal

pub returns : goal.returns
unfolding kind_at byte_at
returns c = rw c.node_at-at.ensures.0 refl
