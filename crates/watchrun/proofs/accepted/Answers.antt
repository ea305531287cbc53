-- `watchrun::accepted` meets its contract: the part for a state of so many cells is lent. Assumes nothing.
use native.Mathlib.Omega.{arith}
use Rattle.feed.proofs.CountLaws.{counts}
use Rattle.watchrun.proofs.TurnLaws.{most_state}
use Rattle.watchrun.proofs.accepted.Goals as goal

pub cell_at-n-requires : goal.cell_at-n-requires
cell_at-n-requires g c = let pre = c.requires in omega (arith, most_state _ _ pre.0 pre.2)

pub slice_bounds-started-end : goal.slice_bounds-started-end
slice_bounds-started-end g c = let pre = c.requires in omega (arith, most_state _ _ pre.0 pre.2, pre.3, c.cell_at-n.ensures)

pub slice_bounds-started-end-2 : goal.slice_bounds-started-end-2
slice_bounds-started-end-2 g c = let pre = c.requires in
    (counts c.cell_at-n.result c.args.state.now
    (omega (arith, most_state _ _ pre.0 pre.2, pre.3, c.cell_at-n.ensures))).1
