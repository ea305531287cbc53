use mathlib.Core.Path.{sym, ap}
use borrow.Author.Tests.{ne_eqb}
use Rattle.kinds.specs.Rows.{child_numbered}
use Rattle.kinds.proofs.child_numbered.Goals as goal

pub returns-in_default : goal.returns-in_default
unfolding child_numbered
returns-in_default c = let rest = c.in_default.in_default-own.rest in
    simp (
      ne_eqb _ 1 rest.0.0.0.0.0.1,
      ne_eqb _ 2 rest.0.0.0.0.1,
      ne_eqb _ 3 rest.0.0.0.1,
      ne_eqb _ 4 rest.0.0.1,
      ne_eqb _ 5 rest.0.1,
      ne_eqb _ 6 rest.1,
    )

pub returns-in-1 : goal.returns-in-1
unfolding child_numbered
returns-in-1 c = ap child_numbered (sym c.in-1.is)

pub returns-in-2 : goal.returns-in-2
unfolding child_numbered
returns-in-2 c = ap child_numbered (sym c.in-2.is)

pub returns-in-3 : goal.returns-in-3
unfolding child_numbered
returns-in-3 c = ap child_numbered (sym c.in-3.is)

pub returns-in-4 : goal.returns-in-4
unfolding child_numbered
returns-in-4 c = ap child_numbered (sym c.in-4.is)

pub returns-in-5 : goal.returns-in-5
unfolding child_numbered
returns-in-5 c = ap child_numbered (sym c.in-5.is)

pub returns-in-6 : goal.returns-in-6
unfolding child_numbered
returns-in-6 c = ap child_numbered (sym c.in-6.is)
