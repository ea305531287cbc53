use native.Mathlib.Omega.{arith}
use borrow.Author.Tests.{eq-eqb, ne_eqb}
use Rattle.printing.specs.Printed.{last_line}
use Rattle.printing.proofs.last.Goals as goal

pub returns-then-left-eq0 : goal.returns-then-left-eq0
unfolding last_line
returns-then-left-eq0 c = rw (eq-eqb c.args.left 0 (omega (arith, c.if-left-eq0.true))) c.end_line.ensures

pub returns : goal.returns
unfolding last_line
returns c = rw (ne_eqb c.args.left 0 (λ e. c.if-left-eq0.false e)) c.refused_line.ensures
