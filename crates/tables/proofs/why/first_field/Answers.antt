use mathlib.Core.Path.{refl}
use borrow.Author.Tests.{eq-eqb, ne_eqb}
use Rattle.tables.specs.Fields.{first_field}
use Rattle.tables.proofs.why.first_field.Goals as goal

pub returns-then-n-m : goal.returns-then-n-m
unfolding first_field
returns-then-n-m c = rw (eq-eqb _ _ c.if-n-m.true) refl

pub returns-then-n-m-2 : goal.returns-then-n-m-2
unfolding first_field
returns-then-n-m-2 c = rw (ne_eqb _ _ c.if-n-m.false, eq-eqb _ _ c.if-n-m-2.true) refl

pub returns-then-n-m-3 : goal.returns-then-n-m-3
unfolding first_field
returns-then-n-m-3 c = rw (ne_eqb _ _ c.if-n-m.false, ne_eqb _ _ c.if-n-m-2.false, eq-eqb _ _ c.if-n-m-3.true) refl

pub returns : goal.returns
unfolding first_field
returns c = rw (ne_eqb _ _ c.if-n-m.false, ne_eqb _ _ c.if-n-m-2.false, ne_eqb _ _ c.if-n-m-3.false) refl
