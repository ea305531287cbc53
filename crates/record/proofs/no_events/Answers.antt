use mathlib.Core.Path.{refl}
use Rattle.rules.specs.Bytes.{◌and◌}
use Rattle.record.proofs.no_events.Goals as goal

pub returns : goal.returns
unfolding ◌and◌
returns c = rw (c.u64_at.ensures, c.u64_at-2.ensures) refl
