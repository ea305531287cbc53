use Rattle.std.proofs.Common.{arith, ne_eqb, ◌∙◌}
use Rattle.words.proofs.Leaving.{quotient_leaves, quotient_stays}
use Rattle.words.proofs.quotient_left.Goals as goal

pub returns-then-x-eq2147483648 : goal.returns-then-x-eq2147483648
returns-then-x-eq2147483648 c = quotient_leaves c.args.x c.args.y (omega arith) c.if-x-eq2147483648.true

pub returns-else-x-eq2147483648 : goal.returns-else-x-eq2147483648
returns-else-x-eq2147483648 c = ne_eqb _ _ c.if-x-eq2147483648.false ∙ quotient_stays c.args.x c.args.y (omega arith) c.if-x-eq2147483648.false
