use Rattle.peek.specs.Watching.{Watching}
use Rattle.noted.specs.Noted.{Noted}
use Rattle.peek.proofs.watch_records.Given as goal

abbrev pub invariant-loop-done : goal.invariant-loop-done
invariant-loop-done l = Watching l.p l.index l.recs l.initial.st l.initial.out l.st l.env l.out l.count l.left l.done l.work l.mark l.list l.initial.room l.room × Noted l.p l.memo
