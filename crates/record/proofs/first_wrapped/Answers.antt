use Rattle.record.proofs.WrapLaws.{wrapped_first, wrapped_again, not_wrapped}
use Rattle.record.proofs.first_wrapped.Goals as goal
use Rattle.record.proofs.first_wrapped.Goals.{else-w-via-then-w+else-mark-eq-NO_STEP, else-w-via-else-w}

pub returns-then-mark-eq-NO_STEP : goal.returns-then-mark-eq-NO_STEP
returns-then-mark-eq-NO_STEP c = wrapped_first c.args.mark c.args.done c.args.w c.if-mark-eq-NO_STEP.true c.if-w.true

pub returns-else-w : goal.returns-else-w
returns-else-w c =
    elim c.else-w.branch [
      | else-w-via-then-w+else-mark-eq-NO_STEP w ↦ wrapped_again c.args.mark c.args.done c.args.w w.if-mark-eq-NO_STEP.false
      | else-w-via-else-w w ↦ not_wrapped c.args.mark c.args.done c.args.w w.if-w.false
    ]
