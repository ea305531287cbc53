use native.Mathlib.Omega.{arith}
use Rattle.rules.specs.Bytes.{byte_at}
use Rattle.mission.proofs.Demands.{start_demands}
use Rattle.demands.proofs.start.Goals as goal

pub returns : goal.returns
unfolding byte_at
returns c = start_demands _ _ (record { small = λ i. omega (arith, c.shared_slice_known-1.given i) }) c.start.ensures.0 c.start.ensures.1
