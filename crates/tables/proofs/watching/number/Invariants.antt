use Rattle.std.proofs.Common.{◌≡◌, drop}
use Rattle.tables.specs.Named.{number_from, number_of}
use Rattle.tables.proofs.watching.number.Given as goal

abbrev pub invariant-loop-b : goal.invariant-loop-b
invariant-loop-b l = number_from l.n (drop l.b-index l.text) ≡ number_of l.text
