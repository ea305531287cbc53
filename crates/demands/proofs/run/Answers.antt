use mathlib.Core.Path.{sym, ◌∙◌}
use native.Mathlib.Omega.{arith}
use Rattle.rules.specs.Bytes.{byte_at}
use Rattle.mission.proofs.Demands.{run_demands}
use Rattle.demands.proofs.run.Goals as goal

pub returns-in-Ok : goal.returns-in-Ok
unfolding byte_at
returns-in-Ok c = run_demands _ _ _ _ (record { small = λ i. omega (arith, c.shared_slice_known-1.given i) }) (record { small = λ i. omega (arith, c.slice_known-1.given i) }) (record { small = λ i. omega (arith, c.shared_slice_known-2-1.given i) })
    (sym c.in-Ok.is ∙ c.run-answer.ensures.0) c.run-answer.ensures.1 c.run-answer.ensures.2

pub returns-in-Err : goal.returns-in-Err
unfolding byte_at
returns-in-Err c = run_demands _ _ _ _ (record { small = λ i. omega (arith, c.shared_slice_known-1.given i) }) (record { small = λ i. omega (arith, c.slice_known-1.given i) }) (record { small = λ i. omega (arith, c.shared_slice_known-2-1.given i) })
    (sym c.in-Err.is ∙ c.run-answer.ensures.0) c.run-answer.ensures.1 c.run-answer.ensures.2
