use Rattle.cells.proofs.Rows.{row_put, place_small}
use mathlib.Core.Path.{◌∙◌}
use native.Mathlib.Omega.{arith}
use Rattle.cells.proofs.put_row.Goals as goal

pub node-n-requires : goal.node-n-requires
node-n-requires c = (omega (arith, c.requires.0.within, c.requires.1), omega (arith, c.requires.0.small, c.requires.1))

pub node_at-at-requires : goal.node_at-at-requires
node_at-at-requires c = (omega (arith, c.requires.0.within, c.requires.1), omega (arith, c.requires.0.small, c.requires.1))

pub half_at-b-requires : goal.half_at-b-requires
half_at-b-requires c = omega (arith, c.node_at-at.ensures.1)

pub overflow_add-i : goal.overflow_add-i
overflow_add-i c = omega (arith, c.requires.0.small, c.requires.1)

pub store-requires : goal.store-requires
store-requires c = omega (arith, c.requires.0.small, c.requires.1, c.requires.2)

pub overflow_add-i-2 : goal.overflow_add-i-2
overflow_add-i-2 c = omega (arith, c.requires.0.small, c.requires.1)

pub store-requires-2 : goal.store-requires-2
store-requires-2 c = omega (arith, c.requires.0.small, c.requires.1, c.requires.2, c.store.ensures.long)

pub overflow_add-i-3 : goal.overflow_add-i-3
overflow_add-i-3 c = omega (arith, c.requires.0.small, c.requires.1)

pub half_at-requires : goal.half_at-requires
half_at-requires c = omega (arith, c.node_at-at.ensures.1)

pub store-requires-3 : goal.store-requires-3
store-requires-3 c = omega (arith, c.requires.0.small, c.requires.1, c.requires.2, c.store.ensures.long, c.store-2.ensures.long)

pub overflow_add-i-4 : goal.overflow_add-i-4
overflow_add-i-4 c = omega (arith, c.requires.0.small, c.requires.1)

pub store-requires-4 : goal.store-requires-4
store-requires-4 c = omega (arith, c.requires.0.small, c.requires.1, c.requires.2, c.store.ensures.long, c.store-2.ensures.long, c.store-3.ensures.long)

pub overflow_add-i-5 : goal.overflow_add-i-5
overflow_add-i-5 c = omega (arith, c.requires.0.small, c.requires.1)

pub overflow_add-at-3 : goal.overflow_add-at-3
overflow_add-at-3 c = omega (arith, c.node_at-at.ensures.0, place_small c.args.i (omega (arith, c.requires.0.small, c.requires.1)))

pub half_at-requires-2 : goal.half_at-requires-2
half_at-requires-2 c = omega (arith, c.node_at-at.ensures.1)

pub store-requires-5 : goal.store-requires-5
store-requires-5 c = omega (arith, c.requires.0.small, c.requires.1, c.requires.2, c.store.ensures.long, c.store-2.ensures.long, c.store-3.ensures.long, c.store-4.ensures.long)

pub overflow_mul-i : goal.overflow_mul-i
overflow_mul-i c = omega (arith, c.requires.0.small, c.requires.1)

pub overflow_add-i-6 : goal.overflow_add-i-6
overflow_add-i-6 c = omega (arith, c.requires.0.small, c.requires.1)

pub store_value-requires : goal.store_value-requires
store_value-requires c = (omega (arith, c.requires.0.small, c.requires.1, c.requires.2, c.store.ensures.long, c.store-2.ensures.long, c.store-3.ensures.long, c.store-4.ensures.long, c.store-5.ensures.long), omega (arith, c.requires.0.small, c.requires.1))

pub shape_of-index : goal.shape_of-index
shape_of-index c = c.store_value.ensures.long ∙ c.store-5.ensures.long ∙ c.store-4.ensures.long ∙ c.store-3.ensures.long ∙ c.store-2.ensures.long ∙ c.store.ensures.long

pub returns : goal.returns
returns c = row_put c.args.p.now c.args.i (omega (arith, c.requires.0.small, c.requires.1)) c.node_at-at.ensures.0 c.node-n.ensures (omega (arith, c.from-2.ensures)) (omega (arith, c.from-3.ensures)) c.from-2.ensures c.from-3.ensures c.half_at.ensures c.half_at-b.ensures c.half_at-2.ensures (rw c.from.ensures at c.pack_from-v.ensures) c.store.ensures c.store-2.ensures c.store-3.ensures c.store-4.ensures c.store-5.ensures c.store_value.ensures
