use mathlib.Core.Path.{◌≡◌, refl, sym, ap, ◌∙◌}
use native.Mathlib.Omega.{arith}
use Rattle.rules.specs.Bytes.{how_many}
use Rattle.rules.specs.Layout.{cells_before}
use Rattle.cells.proofs.Numbered.{cells_most, counts_cell, counts_none}
use Rattle.cells.proofs.count_cells.Goals as goal
use Rattle.cells.proofs.count_cells.Goals.{then-has_cell, else-has_cell}

pub loop-i-init : goal.loop-i-init
unfolding cells_before how_many
loop-i-init c = refl

pub kind_of-requires : goal.kind_of-requires
kind_of-requires c = let s = c.requires.0 in (omega (arith, s.within), omega (arith, s.small))

pub overflow_add-seen : goal.overflow_add-seen
overflow_add-seen c = omega (arith, cells_most c.args.p.now c.loop-i.i)

pub loop-i-preserved : goal.loop-i-preserved
loop-i-preserved c = let p = c.args.p.now in
    let has = c.has_cell.ensures in
    let kind = c.kind_of.ensures in
    elim c.if-has_cell.branch [
      | then-has_cell y ↦ y.seen-is ∙ counts_cell p c.loop-i.i _ _ c.loop-i.invariant kind (sym has ∙ y.if-has_cell.true)
      | else-has_cell n ↦ n.seen-is ∙ counts_none p c.loop-i.i _ _ c.loop-i.invariant kind (sym has ∙ n.if-has_cell.false)
    ]

pub returns : goal.returns
returns c = let e : c.loop-i.i ≡ c.args.count = omega arith in
    c.loop-i.invariant ∙ ap (cells_before c.args.p.now) e
