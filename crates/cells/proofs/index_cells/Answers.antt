use Rattle.cells.proofs.Numbered.{cells_most, counts_cell, counts_none, one_more}
use Rattle.rules.specs.Bytes.{how_many}
use Rattle.rules.specs.Layout.{cells_before}
use native.Mathlib.Nat.{not-suc-le-zero}
use native.Mathlib.Omega.{arith}
use lib.ListN.{length, length-set}
use Prim.Native.Nat.{◌<◌}
use mathlib.Core.Path.{◌≡◌, refl, sym, ap, ◌∙◌}
use Rattle.cells.proofs.index_cells.Goals as goal
use Rattle.cells.proofs.index_cells.Goals.{then-has_cell, else-has_cell}

pub loop-i-init : goal.loop-i-init
unfolding cells_before how_many
loop-i-init c = (refl, refl, λ j h. absurd (not-suc-le-zero h))

pub overflow_cast-index : goal.overflow_cast-index
overflow_cast-index c = omega (arith, cells_most c.args.p.now c.loop-i.i, c.requires.0.small)

pub kind_of-requires : goal.kind_of-requires
kind_of-requires c = let s = c.requires.0 in (omega (arith, s.within), omega (arith, s.small))

pub overflow_add-seen : goal.overflow_add-seen
overflow_add-seen c = omega (arith, cells_most c.args.p.now c.loop-i.i)

pub loop-i-preserved : goal.loop-i-preserved
loop-i-preserved c = let p = c.args.p.now in
    let i = c.loop-i.i in
    let has = c.has_cell.ensures in
    let kind = c.kind_of.ensures in
    let inside : i < length c.loop-i.index = omega arith in (
      elim c.if-has_cell.branch [
        | then-has_cell y ↦ y.seen-is ∙ counts_cell p i _ _ c.loop-i.invariant.0 kind (sym has ∙ y.if-has_cell.true)
        | else-has_cell n ↦ n.seen-is ∙ counts_none p i _ _ c.loop-i.invariant.0 kind (sym has ∙ n.if-has_cell.false)
      ],
      simp length-set c.loop-i.invariant.1,
      one_more p c.loop-i.index i _ inside c.loop-i.invariant.0 c.loop-i.invariant.2,
    )

pub index_branches-requires : goal.index_branches-requires
index_branches-requires c = (c.requires.0, c.requires.1, c.requires.2, omega (arith, c.requires.0.small, c.requires.2, c.requires.3, c.loop-i.invariant.1))

pub index_rows-requires : goal.index_rows-requires
index_rows-requires c = let x = c.requires in (x.0, x.2, omega (arith, x.3, c.index_branches.auto.index, c.loop-i.invariant.1), c.index_branches.ensures.0, λ i w. c.index_branches.ensures.1 i w ∙ c.loop-i.invariant.2 i (omega (arith, x.2, w.inside)))

pub shape_of-index : goal.shape_of-index
shape_of-index c = c.index_rows.auto.index ∙ c.index_branches.auto.index ∙ c.loop-i.invariant.1

pub returns : goal.returns
returns c = let e : c.loop-i.i ≡ c.args.count = omega arith in (c.index_rows.ensures, c.loop-i.invariant.0 ∙ ap (cells_before c.args.p.now) e)
