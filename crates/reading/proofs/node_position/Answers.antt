use Rattle.reading.proofs.CallLaws as K
use Rattle.reading.proofs.ReadLaws as M
use native.Mathlib.Omega.{arith}
use Rattle.reading.proofs.node_position.Goals as goal

pub overflow_mul-node : goal.overflow_mul-node
overflow_mul-node c = let w = (M.rowed_of _ _ _ c.read_rows.ensures _ c.in-Ok.is) in omega (arith, w.few, c.if-node-rows.true)

pub overflow_add-node : goal.overflow_add-node
overflow_add-node c = let w = (M.rowed_of _ _ _ c.read_rows.ensures _ c.in-Ok.is) in omega (arith, w.few, c.if-node-rows.true)

pub offset_bounds-rows-node : goal.offset_bounds-rows-node
offset_bounds-rows-node c = let w = (M.rowed_of _ _ _ c.read_rows.ensures _ c.in-Ok.is) in omega (arith, w.few, c.if-node-rows.true)

pub bounds-rows-node : goal.bounds-rows-node
bounds-rows-node c = let w = (M.rowed_of _ _ _ c.read_rows.ensures _ c.in-Ok.is) in omega (arith, w.few, c.if-node-rows.true)

pub returns-then-node-rows : goal.returns-then-node-rows
returns-then-node-rows c = K.place_at _ _ _ _ (M.rowed_of _ _ _ c.read_rows.ensures _ c.in-Ok.is) c.if-node-rows.true c.capped.ensures

pub returns-in-Err : goal.returns-in-Err
returns-in-Err c = K.place_none _ _ (M.stopped_of _ _ _ c.read_rows.ensures _ c.in-Err.is)

pub returns-else-node-rows : goal.returns-else-node-rows
returns-else-node-rows c = K.place_behind _ _ _ _ (M.rowed_of _ _ _ c.read_rows.ensures _ c.in-Ok.is) c.if-node-rows.false
