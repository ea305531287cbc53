use native.Mathlib.Omega.{arith}
use Rattle.rules.specs.Bytes.{byte_at}
use Rattle.demands.proofs.Called.{third_demand}
use Rattle.demands.proofs.check_and_run.Goals as goal

pub returns : goal.returns
unfolding byte_at
returns c = third_demand _ _ _ _ (record { small = λ i. omega (arith, c.shared_slice_known-1.given i) }) (record { small = λ i. omega (arith, c.slice_known-1.given i) }) (record { small = λ i. omega (arith, c.shared_slice_known-2-1.given i) }) c.check-checked.ensures
    (record { answer_is = c.run-ran.ensures.0; state_is = c.run-ran.ensures.1; output_is = c.run-ran.ensures.2 })
