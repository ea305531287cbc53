use Rattle.dropped.specs.Clauses.{next_broken}
use borrow.Author.Tests.{eq-eqb, ne_eqb}
use Rattle.reaching.proofs.next_broken.Goals as goal

pub returns-then-x-eq-LAST : goal.returns-then-x-eq-LAST
unfolding next_broken
returns-then-x-eq-LAST c = simp (eq-eqb _ _ c.if-x-eq-LAST.true) c.unless.ensures

pub returns-then-y-eq-LAST : goal.returns-then-y-eq-LAST
unfolding next_broken
returns-then-y-eq-LAST c = simp (ne_eqb _ _ c.if-x-eq-LAST.false, eq-eqb _ _ c.if-y-eq-LAST.true)

pub child_broken-requires : goal.child_broken-requires
child_broken-requires c = (c.requires.0, c.requires.1 c.if-y-eq-LAST.false)

pub returns : goal.returns
unfolding next_broken
returns c = simp (ne_eqb _ _ c.if-x-eq-LAST.false, ne_eqb _ _ c.if-y-eq-LAST.false) c.child_broken.ensures
