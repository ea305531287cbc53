use Rattle.starting.proofs.StartLaws.{counted, all_cells}
use Rattle.cells.proofs.Numbered.{cells_most}
use mathlib.Core.Path.{◌∙◌}
use native.Mathlib.Omega.{arith}
use Rattle.watch.proofs.accept.Goals as goal

pub count_cells-held-requires : goal.count_cells-held-requires
count_cells-held-requires c = let k = counted _ _ c.requires.0 c.requires.1 in (k.shaped, c.requires.1)

pub bound_of-requires : goal.bound_of-requires
bound_of-requires c = let pre = c.requires in
    let k = counted _ _ pre.0 pre.1 in
    (pre.1, k.some, k.rooted, k.small)

pub overflow_cast-result : goal.overflow_cast-result
overflow_cast-result c = let k = counted _ _ c.requires.0 c.requires.1 in
    omega (arith, k.most)

pub overflow_cast-result-2 : goal.overflow_cast-result-2
overflow_cast-result-2 c = let k = counted _ _ c.requires.0 c.requires.1 in
    omega (arith, k.most, c.count_cells-held.ensures, cells_most c.args.p.now c.args.judged.count)

pub returns-clause-cells : goal.returns-clause-cells
returns-clause-cells c = c.count_cells-held.ensures ∙ all_cells c.args.p.now c.args.judged.count c.requires.1
