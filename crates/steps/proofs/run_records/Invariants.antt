use Rattle.steps.specs.Going.{OnTheWay}
use Rattle.noted.specs.Noted.{Noted}
use Rattle.steps.proofs.run_records.Given as goal

abbrev pub invariant-loop-done : goal.invariant-loop-done
invariant-loop-done l = OnTheWay l.p l.index l.recs l.initial.st l.initial.out l.st l.env l.out l.count l.left l.done l.work l.mark × Noted l.p l.memo
