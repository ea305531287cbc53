use mathlib.Core.Path.{sym, ap}
use borrow.Author.Tests.{ne_eqb}
use Rattle.kinds.specs.Rows.{type_numbered, type_field_in}
use Rattle.kinds.proofs.type_field_in.Goals as goal

pub returns-in_default : goal.returns-in_default
unfolding type_field_in type_numbered
returns-in_default c = let rest = c.in_default.in_default-own.rest in
    simp (ne_eqb _ 1 rest.0.0.1, ne_eqb _ 2 rest.0.1, ne_eqb _ 3 rest.1)

pub returns-in-1 : goal.returns-in-1
unfolding type_field_in type_numbered
returns-in-1 c = ap type_numbered (sym c.in-1.is)

pub returns-in-2 : goal.returns-in-2
unfolding type_field_in type_numbered
returns-in-2 c = ap type_numbered (sym c.in-2.is)

pub returns-in-3 : goal.returns-in-3
unfolding type_field_in type_numbered
returns-in-3 c = ap type_numbered (sym c.in-3.is)
