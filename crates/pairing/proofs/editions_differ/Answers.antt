use Rattle.dropped.specs.PairedCall.{editions_differ}
use Rattle.rules.specs.Layout.{edition, edition_in, block_at}
use Rattle.rules.specs.Bytes.{byte_at}
use mathlib.Core.Path.{refl}
use Rattle.pairing.proofs.editions_differ.Goals as goal

pub returns : goal.returns
unfolding editions_differ edition edition_in block_at byte_at
returns c = refl
