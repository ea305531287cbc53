use Rattle.rules.specs.Bytes.{◌or◌}
use borrow.Author.Tests.{eq-eqb, ne_eqb}
use mathlib.Core.Path.{refl}
use Rattle.couplerfinch.proofs.steps_done.Goals as goal

pub returns-then-code-eq12 : goal.returns-then-code-eq12
unfolding ◌or◌
returns-then-code-eq12 c = rw (eq-eqb _ 12 c.if-code-eq12.true) refl

pub returns-then-code-eq13 : goal.returns-then-code-eq13
unfolding ◌or◌
returns-then-code-eq13 c = rw (ne_eqb _ 12 c.if-code-eq12.false, eq-eqb _ 13 c.if-code-eq13.true) refl

pub returns : goal.returns
unfolding ◌or◌
returns c = rw (ne_eqb _ 12 c.if-code-eq12.false, ne_eqb _ 13 c.if-code-eq13.false) refl
