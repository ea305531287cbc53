use Rattle.std.proofs.Common.{◌≡◌, ◌≤◌}
use Rattle.tables.specs.Lets.{lets_before}
use Rattle.tables.proofs.tidying.lets.Given as goal

abbrev pub invariant-loop-i : goal.invariant-loop-i
invariant-loop-i l = (l.n ≡ lets_before l.p l.i) × (l.n ≤ l.i)
