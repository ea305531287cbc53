use Rattle.std.proofs.Common.{refl, sym, ap, ◌∙◌, ◌<◌, arith}
use Rattle.rules.specs.Bytes.{how_many}
use Rattle.rules.specs.Layout.{records, has_cell, cells_before}
use Rattle.cells.proofs.Numbered.{cells_most, counts_cell, counts_none}
use Rattle.tables.proofs.mended.node_of.Goals as goal
use Rattle.tables.proofs.mended.node_of.Goals.{then-has_cell+else-seen-k, else-has_cell}

pub loop-n-init : goal.loop-n-init
unfolding cells_before how_many
loop-n-init c = refl

pub returns-then-seen-k : goal.returns-then-seen-k
returns-then-seen-k c = let here : c.loop-n.n < records c.args.p.now = omega (arith, c.records-n-end.ensures, c.loop-n-test.true) in
    record {
      own = ap has_cell (sym (c.kind_at.ensures here)) ∙ sym c.has_cell.ensures ∙ c.if-has_cell.true;
      number = sym c.loop-n.invariant ∙ c.if-seen-k.true;
    }

pub overflow_add-seen : goal.overflow_add-seen
overflow_add-seen c = omega (arith, cells_most c.args.p.now c.loop-n.n, c.loop-n.invariant, c.loop-n-test.true)

pub loop-n-preserved : goal.loop-n-preserved
loop-n-preserved c = let p = c.args.p.now in
    let here : c.loop-n.n < records p = omega (arith, c.records-n-end.ensures, c.loop-n-test.true) in
    let has = c.has_cell.ensures in
    let kind = c.kind_at.ensures here in
    elim c.if-has_cell.branch [
      | then-has_cell+else-seen-k y ↦ y.seen-is ∙ counts_cell p c.loop-n.n _ _ c.loop-n.invariant kind (sym has ∙ y.if-has_cell.true)
      | else-has_cell n ↦ n.seen-is ∙ counts_none p c.loop-n.n _ _ c.loop-n.invariant kind (sym has ∙ n.if-has_cell.false)
    ]
