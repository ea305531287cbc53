use Rattle.outcomes.proofs.Numbers.{proper_bool}
use Rattle.outcomes.proofs.Combining.{truth_said}
use Rattle.outcomes.proofs.truth.Goals as goal

pub outcome-requires : goal.outcome-requires
outcome-requires c = (proper_bool _, c.requires.0, c.requires.1)

pub returns-then-t : goal.returns-then-t
returns-then-t c = truth_said c.if-t.true c.outcome.ensures

pub outcome-requires-2 : goal.outcome-requires-2
outcome-requires-2 c = (proper_bool _, c.requires.0, c.requires.1)

pub returns : goal.returns
returns c = truth_said c.if-t.false c.outcome-2.ensures
