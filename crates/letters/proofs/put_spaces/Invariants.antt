use lib.ListN.{replicate}
use Rattle.letters.specs.Wrote.{Wrote}
use Rattle.letters.proofs.put_spaces.Given as goal

abbrev pub invariant-loop : goal.invariant-loop
invariant-loop l = Wrote l.initial.room l.at (replicate l.counter 32) l.room l.to
