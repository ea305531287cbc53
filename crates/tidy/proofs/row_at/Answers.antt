use Rattle.tidy.proofs.RowLaws.{row_inside, row_behind}
use Rattle.tidy.specs.Record.{new_row}
use mathlib.Core.Path.{ap, ◌∙◌}
use native.Mathlib.Omega.{arith}
use Rattle.tidy.proofs.row_at.Goals as goal

pub moved_row-requires : goal.moved_row-requires
moved_row-requires c = let i = c.requires.2 in (c.requires.0, omega (arith, c.from.ensures, i.each c.args.k c.if-k-count.true))

pub returns-then-k-count : goal.returns-then-k-count
returns-then-k-count c = c.moved_row.ensures ∙ ap (new_row c.args.p.now c.args.new.now) c.from.ensures ∙ row_inside c.args.p.now c.args.new.now c.args.order.now c.args.count c.args.k c.if-k-count.true c.requires.1

pub returns : goal.returns
returns c = row_behind c.args.p.now c.args.new.now c.args.order.now c.args.count c.args.k c.if-k-count.false
