use mathlib.Core.Path.{◌≡◌}
use lib.ListN.{length}
use Rattle.outcomes.specs.Outcome.{outcome_in}
use Rattle.notes.proofs.NoteLaws.{keep_to}
use Rattle.notes.proofs.keep.Given as goal

abbrev pub invariant-loop-j : goal.invariant-loop-j
invariant-loop-j l = (length l.room ≡ length l.initial.room) × (l.room ≡ keep_to l.j l.list.now l.at l.i (outcome_in l.outcome) l.initial.room)
