use Rattle.feed.specs.Entries.{Taken}
use Rattle.feed.proofs.entries.take_entries.Given as goal

abbrev pub invariant-loop-k : goal.invariant-loop-k
invariant-loop-k l = Taken l.bytes l.initial.room l.room l.k
