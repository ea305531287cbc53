use Rattle.std.proofs.Common.{refl, eq-eqb, ne_eqb}
use Rattle.rules.specs.Bytes.{◌and◌, ◌or◌}
use Rattle.rules.specs.Operations.{is_true, truth_of}
use Rattle.words.proofs.test.Goals as goal

pub returns-in-22 : goal.returns-in-22
unfolding truth_of
returns-in-22 c = rw c.in-22.is c.less.ensures

pub returns-in-23 : goal.returns-in-23
unfolding truth_of
returns-in-23 c = rw c.in-23.is refl

pub returns-then-x-eq1 : goal.returns-then-x-eq1
unfolding truth_of ◌and◌ is_true
returns-then-x-eq1 c = simp (c.in-25.is, eq-eqb _ _ c.if-x-eq1.true)

pub returns-else-x-eq1 : goal.returns-else-x-eq1
unfolding truth_of ◌and◌ is_true
returns-else-x-eq1 c = simp (c.in-25.is, ne_eqb _ _ c.if-x-eq1.false)

pub returns-then-x-eq1-2 : goal.returns-then-x-eq1-2
unfolding truth_of ◌or◌ is_true
returns-then-x-eq1-2 c = let rest = c.in_default.in_default-own.rest in
    simp (ne_eqb _ 22 rest.0.0.1, ne_eqb _ 23 rest.0.1, ne_eqb _ 25 rest.1, eq-eqb _ _ c.if-x-eq1-2.true)

pub returns-else-x-eq1-2 : goal.returns-else-x-eq1-2
unfolding truth_of ◌or◌ is_true
returns-else-x-eq1-2 c = let rest = c.in_default.in_default-own.rest in
    simp (ne_eqb _ 22 rest.0.0.1, ne_eqb _ 23 rest.0.1, ne_eqb _ 25 rest.1, ne_eqb _ _ c.if-x-eq1-2.false)
