use Rattle.std.proofs.Common.{◌≡◌, ◌%◌}
use Rattle.rules.specs.Layout.{checks_below}
use Rattle.stamp.proofs.checks_of.Given as goal

abbrev pub invariant-loop-j : goal.invariant-loop-j
invariant-loop-j l = l.sum ≡ checks_below l.p l.j % 4294967296
