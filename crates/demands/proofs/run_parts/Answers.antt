use native.Mathlib.Omega.{arith}
use Rattle.rules.specs.Bytes.{byte_at}
use Rattle.demands.proofs.Called.{parts_same}
use Rattle.demands.proofs.run_parts.Goals as goal

pub returns : goal.returns
unfolding byte_at
returns c = parts_same _ _ _ _ _ _ _ _ _ (record { small = λ i. omega (arith, c.shared_slice_known-1.given i) }) (record { small = λ i. omega (arith, c.slice_known-1.given i) }) (record { small = λ i. omega (arith, c.shared_slice_known-2-1.given i) }) (record { small = λ i. omega (arith, c.shared_slice_known-3-1.given i) })
    (record { answer_is = c.run-first.ensures.0; state_is = c.run-first.ensures.1; output_is = c.run-first.ensures.2 })
    (record { answer_is = c.run-second.ensures.0; state_is = c.run-second.ensures.1; output_is = c.run-second.ensures.2 })
    (record { answer_is = c.run-whole.ensures.0; state_is = c.run-whole.ensures.1; output_is = c.run-whole.ensures.2 })
