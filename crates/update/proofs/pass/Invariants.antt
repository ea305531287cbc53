use mathlib.Core.Path.{◌≡◌}
use Rattle.update.proofs.PassLaws.{Passing, Turned}
use Rattle.update.proofs.pass.Given as goal

abbrev pub invariant-loop-u : goal.invariant-loop-u
invariant-loop-u l = Passing l.p.now l.index l.rec.now l.st l.initial.env l.j l.passed.at l.passed.seen l.passed.kept
    × Turned l.p.now l.rec.now l.st l.initial.env l.j l.passed.at l.passed.seen l.passed.kept × (l.env ≡ l.initial.env)

abbrev pub decreases-loop-u : goal.decreases-loop-u
decreases-loop-u l = l.passed.at
