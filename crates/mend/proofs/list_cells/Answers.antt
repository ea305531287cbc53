use Rattle.mend.proofs.ListLaws.{none_yet, cell_fits, few_cells, entry_fits, cell_added, loop_ends}
use native.Mathlib.Omega.{arith}
use mathlib.Core.Path.{refl, ◌∙◌}
use Rattle.mend.proofs.list_cells.Goals as goal

pub loop-k-init : goal.loop-k-init
loop-k-init c = let z = none_yet _ _ _ _ in (refl, z.0, z.1)

pub cell-requires : goal.cell-requires
cell-requires c = cell_fits c.args.held _ _ (omega arith) c.requires.0

pub cell-requires-in-loop-k : goal.cell-requires-in-loop-k
cell-requires-in-loop-k c = cell_fits c.args.held _ _ (omega arith) (omega (arith, c.requires.0, c.requires.1, c.cell-arg-1.given))

pub overflow_cast-k : goal.overflow_cast-k
overflow_cast-k c = omega (arith, few_cells _ _ c.requires.0 c.requires.1)

pub add_entry-found-requires : goal.add_entry-found-requires
add_entry-found-requires c = (
  entry_fits _ _ c.args.held _ _ _ _ (omega arith) (omega (arith, c.loop-k.invariant.0, c.requires.2)) c.loop-k.invariant.1,
  omega (arith, c.loop-k.invariant.0, c.requires.3),
)

pub loop-k-preserved : goal.loop-k-preserved
loop-k-preserved c = let z = cell_added _ _ _ _ _ _ _ c.loop-k.invariant.1 c.loop-k.invariant.2 c.cell.ensures c.cell-in-loop-k.ensures in
    (c.add_entry-found.auto.list ∙ c.loop-k.invariant.0, c.add_entry-found.ensures.0 ∙ z.0, c.add_entry-found.ensures.1 ∙ z.1)

pub shape_of-list : goal.shape_of-list
shape_of-list c = c.loop-k.invariant.0

pub returns : goal.returns
returns c = loop_ends _ _ _ _ _ _ _ _ (omega arith) c.loop-k.invariant.1 c.loop-k.invariant.2
