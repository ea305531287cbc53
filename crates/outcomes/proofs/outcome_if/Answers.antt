use Rattle.outcomes.proofs.Combining.{if_left, if_not_left}
use Rattle.outcomes.proofs.outcome_if.Goals as goal

pub returns-then-left : goal.returns-then-left
returns-then-left c = if_left c.if-left.true c.outcome.ensures c.marked.ensures

pub returns : goal.returns
returns c = if_not_left c.if-left.false c.outcome-2.ensures
