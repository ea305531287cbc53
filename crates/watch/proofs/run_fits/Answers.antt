use Rattle.watch.specs.Lent.{run_fits}
use Rattle.rules.specs.Bytes.{◌and◌}
use borrow.Author.Tests.{eq-eqb, ne_eqb}
use Rattle.watch.proofs.run_fits.Goals as goal

pub returns-then-recs-eq0 : goal.returns-then-recs-eq0
unfolding run_fits ◌and◌
returns-then-recs-eq0 c = rw (eq-eqb _ _ c.if-recs-eq0.true)

pub returns-else-recs-eq0 : goal.returns-else-recs-eq0
unfolding run_fits ◌and◌
returns-else-recs-eq0 c = rw (ne_eqb _ _ c.if-recs-eq0.false)
