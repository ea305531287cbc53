use Rattle.printing.specs.Runs.{IsUnder}
use Rattle.watchrun.proofs.TurnLaws.{turns_left}
use Rattle.watchrun.proofs.steps.Given as goal

abbrev pub invariant-loop-more : goal.invariant-loop-more
invariant-loop-more g l = IsUnder l.run

abbrev pub decreases-loop-more : goal.decreases-loop-more
decreases-loop-more g l = turns_left l.more l.run.steps
