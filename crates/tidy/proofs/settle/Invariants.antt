use Rattle.tidy.proofs.SettleLaws.{Settling}
use Rattle.tidy.proofs.settle.Given as goal

abbrev pub invariant-loop-k : goal.invariant-loop-k
invariant-loop-k l = Settling l.names l.from l.initial.order l.initial.new l.order l.new l.m l.last l.k
