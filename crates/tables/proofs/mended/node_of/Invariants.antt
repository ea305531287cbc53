use Rattle.std.proofs.Common.{◌≡◌}
use Rattle.rules.specs.Layout.{cells_before}
use Rattle.tables.proofs.mended.node_of.Given as goal

abbrev pub invariant-loop-n : goal.invariant-loop-n
invariant-loop-n l = l.seen ≡ cells_before l.p l.n
