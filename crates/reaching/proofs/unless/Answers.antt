use Rattle.dropped.specs.Clauses.{unless}
use Rattle.reaching.proofs.unless.Goals as goal

pub returns-then-right : goal.returns-then-right
unfolding unless
returns-then-right c = simp c.if-right.true

pub returns-else-right : goal.returns-else-right
unfolding unless
returns-else-right c = simp c.if-right.false
