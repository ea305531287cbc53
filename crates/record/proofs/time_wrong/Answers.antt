use mathlib.Core.Path.{◌∙◌}
use borrow.Author.Tests.{le-ltb}
use Rattle.record.proofs.TimeLaws.{time_on, time_back}
use native.Mathlib.Omega.{arith}
use Rattle.record.proofs.time_wrong.Goals as goal

pub returns-then-time_of-last : goal.returns-then-time_of-last
returns-then-time_of-last c = time_back _ _ c.last_time-last.ensures c.time_of.ensures (omega arith)

pub returns-else-time_of-last : goal.returns-else-time_of-last
returns-else-time_of-last c = le-ltb _ _ (omega arith) ∙ time_on _ _ c.last_time-last.ensures c.time_of.ensures (omega arith)
