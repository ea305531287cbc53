use Rattle.demands.proofs.Called.{both_alike}
use Rattle.demands.proofs.run_both.Goals as goal

pub returns : goal.returns
returns c = both_alike _ _ _ _ _ _ _
    (record { answer_is = c.run-one.ensures.0; state_is = c.run-one.ensures.1; output_is = c.run-one.ensures.2 })
    (record { answer_is = c.run-other.ensures.0; state_is = c.run-other.ensures.1; output_is = c.run-other.ensures.2 })
