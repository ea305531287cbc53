use Rattle.sealing.proofs.NameLaws.{settled_other, settled_own}
use native.Mathlib.Omega.{arith}
use Rattle.sealing.proofs.settled.Goals as goal

pub overflow_mul-at : goal.overflow_mul-at
overflow_mul-at c = omega (arith, c.requires)

pub overflow_add-at : goal.overflow_add-at
overflow_add-at c = omega (arith, c.requires)

pub offset_bounds-rows-at : goal.offset_bounds-rows-at
offset_bounds-rows-at c = omega (arith, c.requires)

pub bounds-rows-at : goal.bounds-rows-at
bounds-rows-at c = omega (arith, c.requires)

pub returns-then-byte_of-kind : goal.returns-then-byte_of-kind
returns-then-byte_of-kind c = settled_other _ _ _ _ _ _ c.byte_of.ensures c.if-byte_of-kind.true

pub overflow_add-at-2 : goal.overflow_add-at-2
overflow_add-at-2 c = omega (arith, c.requires)

pub offset_bounds-rows-at-2 : goal.offset_bounds-rows-at-2
offset_bounds-rows-at-2 c = omega (arith, c.requires)

pub bounds-rows-at-2 : goal.bounds-rows-at-2
bounds-rows-at-2 c = omega (arith, c.requires)

pub overflow_add-at-3 : goal.overflow_add-at-3
overflow_add-at-3 c = omega (arith, c.requires)

pub offset_bounds-rows-at-3 : goal.offset_bounds-rows-at-3
offset_bounds-rows-at-3 c = omega (arith, c.requires)

pub bounds-rows-at-3 : goal.bounds-rows-at-3
bounds-rows-at-3 c = omega (arith, c.requires)

pub row_named-requires : goal.row_named-requires
row_named-requires c = (c.requires.0, c.requires.2)

pub returns : goal.returns
returns c = settled_own _ _ _ _ _ _ c.byte_of.ensures c.if-byte_of-kind.false c.row_named.ensures
