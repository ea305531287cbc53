use Rattle.sealing.proofs.RecordLaws.{record_inside, record_behind}
use native.Mathlib.Omega.{arith}
use Rattle.sealing.proofs.record_at.Goals as goal

pub overflow_mul-at : goal.overflow_mul-at
overflow_mul-at c = omega (arith, c.requires, c.if-j-rows.true)

pub overflow_add-at : goal.overflow_add-at
overflow_add-at c = omega (arith, c.requires, c.if-j-rows.true)

pub offset_bounds-rows-at : goal.offset_bounds-rows-at
offset_bounds-rows-at c = omega (arith, c.requires, c.if-j-rows.true)

pub bounds-rows-at : goal.bounds-rows-at
bounds-rows-at c = omega (arith, c.requires, c.if-j-rows.true)

pub overflow_add-at-then-j-rows : goal.overflow_add-at-then-j-rows
overflow_add-at-then-j-rows c = omega (arith, c.requires, c.if-j-rows.true)

pub offset_bounds-rows-at-then-j-rows : goal.offset_bounds-rows-at-then-j-rows
offset_bounds-rows-at-then-j-rows c = omega (arith, c.requires, c.if-j-rows.true)

pub bounds-rows-at-then-j-rows : goal.bounds-rows-at-then-j-rows
bounds-rows-at-then-j-rows c = omega (arith, c.requires, c.if-j-rows.true)

pub overflow_add-at-then-j-rows-2 : goal.overflow_add-at-then-j-rows-2
overflow_add-at-then-j-rows-2 c = omega (arith, c.requires, c.if-j-rows.true)

pub offset_bounds-rows-at-then-j-rows-2 : goal.offset_bounds-rows-at-then-j-rows-2
offset_bounds-rows-at-then-j-rows-2 c = omega (arith, c.requires, c.if-j-rows.true)

pub bounds-rows-at-then-j-rows-2 : goal.bounds-rows-at-then-j-rows-2
bounds-rows-at-then-j-rows-2 c = omega (arith, c.requires, c.if-j-rows.true)

pub settled-requires : goal.settled-requires
settled-requires c = (c.requires, c.if-j-rows.true, omega arith)

pub overflow_add-result : goal.overflow_add-result
overflow_add-result c = omega (arith, c.requires, c.if-j-rows.true)

pub offset_bounds-rows-at-then-j-rows-3 : goal.offset_bounds-rows-at-then-j-rows-3
offset_bounds-rows-at-then-j-rows-3 c = omega (arith, c.requires, c.if-j-rows.true)

pub bounds-rows-at-then-j-rows-3 : goal.bounds-rows-at-then-j-rows-3
bounds-rows-at-then-j-rows-3 c = omega (arith, c.requires, c.if-j-rows.true)

pub overflow_add-at-then-j-rows-3 : goal.overflow_add-at-then-j-rows-3
overflow_add-at-then-j-rows-3 c = omega (arith, c.requires, c.if-j-rows.true)

pub offset_bounds-rows-at-then-j-rows-4 : goal.offset_bounds-rows-at-then-j-rows-4
offset_bounds-rows-at-then-j-rows-4 c = omega (arith, c.requires, c.if-j-rows.true)

pub bounds-rows-at-then-j-rows-4 : goal.bounds-rows-at-then-j-rows-4
bounds-rows-at-then-j-rows-4 c = omega (arith, c.requires, c.if-j-rows.true)

pub settled-requires-then-j-rows : goal.settled-requires-then-j-rows
settled-requires-then-j-rows c = (c.requires, c.if-j-rows.true, omega arith)

pub overflow_add-at-then-j-rows-4 : goal.overflow_add-at-then-j-rows-4
overflow_add-at-then-j-rows-4 c = omega (arith, c.requires, c.if-j-rows.true)

pub offset_bounds-rows-at-then-j-rows-5 : goal.offset_bounds-rows-at-then-j-rows-5
offset_bounds-rows-at-then-j-rows-5 c = omega (arith, c.requires, c.if-j-rows.true)

pub bounds-rows-at-then-j-rows-5 : goal.bounds-rows-at-then-j-rows-5
bounds-rows-at-then-j-rows-5 c = omega (arith, c.requires, c.if-j-rows.true)

pub returns-then-j-rows : goal.returns-then-j-rows
returns-then-j-rows c = record_inside _ _ _ _ _ _ _ _ c.if-j-rows.true c.byte_of.ensures c.byte_of-then-j-rows.ensures c.settled.ensures c.settled-then-j-rows.ensures c.word_of.ensures

pub returns : goal.returns
returns c = record_behind _ _ _ c.if-j-rows.false
