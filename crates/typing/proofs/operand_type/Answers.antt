use Rattle.rules.specs.Operations.{operand_type}
use borrow.Author.Tests.{le-leb, lt-leb}
use Rattle.typing.proofs.operand_type.Goals as goal

pub returns-then-k-le23 : goal.returns-then-k-le23
unfolding operand_type
returns-then-k-le23 c = simp (le-leb _ _ c.if-k-le23.true)

pub returns-else-k-le23 : goal.returns-else-k-le23
unfolding operand_type
returns-else-k-le23 c = simp (lt-leb _ _ c.if-k-le23.false)
