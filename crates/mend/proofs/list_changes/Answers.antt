use Rattle.mend.proofs.ListLaws.{header_fits, few_cells, one_behind, all_listed}
use native.Mathlib.Omega.{arith}
use Rattle.mend.proofs.list_changes.Goals as goal

pub last_time-requires : goal.last_time-requires
last_time-requires c = header_fits _ _ c.requires.0

pub add_entry-from-requires : goal.add_entry-from-requires
add_entry-from-requires c = let few = few_cells _ _ c.requires.0 c.requires.1 in (omega (arith, c.requires.2), omega (arith, few, c.requires.2))

pub list_cells-requires : goal.list_cells-requires
list_cells-requires c = let few = few_cells _ _ c.requires.0 c.requires.1 in
    let size = c.add_entry-from.auto.list in
    (c.requires.0, c.requires.1, omega (arith, size, c.requires.2, one_behind _ _ c.add_entry-from.ensures.0), omega (arith, size, few, c.requires.2))

pub returns : goal.returns
returns c = all_listed _ _ _ _ _ _ _ _ c.last_time.ensures c.last_time-2.ensures c.add_entry-from.ensures.0 c.add_entry-from.ensures.1 c.list_cells.ensures.0 c.list_cells.ensures.1
