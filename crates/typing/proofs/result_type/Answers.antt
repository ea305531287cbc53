use Rattle.rules.specs.Operations.{result_type}
use Rattle.rules.specs.Values.{maybe_of}
use borrow.Author.Tests.{le-leb, lt-leb, eq-eqb, ne_eqb}
use Rattle.typing.proofs.result_type.Goals as goal

pub returns-then-k-le20 : goal.returns-then-k-le20
unfolding result_type
returns-then-k-le20 c = simp (le-leb _ _ c.if-k-le20.true)

pub returns-then-k-eq21 : goal.returns-then-k-eq21
unfolding result_type maybe_of
returns-then-k-eq21 c = simp (lt-leb _ _ c.if-k-le20.false, eq-eqb _ _ c.if-k-eq21.true)

pub returns-else-k-eq21 : goal.returns-else-k-eq21
unfolding result_type
returns-else-k-eq21 c = simp (lt-leb _ _ c.if-k-le20.false, ne_eqb _ _ c.if-k-eq21.false)
