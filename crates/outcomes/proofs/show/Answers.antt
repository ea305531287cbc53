use Rattle.outcomes.specs.Outcome.{shown_in}
use borrow.Author.Tests.{eq-eqb, ne_eqb}
use Rattle.outcomes.proofs.show.Goals as goal

pub returns-then-r-eq0 : goal.returns-then-r-eq0
unfolding shown_in
returns-then-r-eq0 c = rw (eq-eqb _ _ c.if-r-eq0.true)

pub returns : goal.returns
unfolding shown_in
returns c = rw (ne_eqb _ _ c.if-r-eq0.false, c.value_in.ensures, c.tally_in.ensures)
