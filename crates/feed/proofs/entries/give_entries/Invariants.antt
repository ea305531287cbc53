use Rattle.feed.specs.Entries.{Given}
use Rattle.feed.proofs.entries.give_entries.Given as goal

abbrev pub invariant-loop-k : goal.invariant-loop-k
invariant-loop-k l = Given l.room l.initial.bytes l.bytes l.k
