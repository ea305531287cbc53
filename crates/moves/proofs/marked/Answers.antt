use Rattle.moves.proofs.NumberLaws.{mark_moved, mark_count, marked_same}
use mathlib.Core.Path.{refl}
use Rattle.moves.proofs.marked.Goals as goal

pub returns-then-r-lt524288 : goal.returns-then-r-lt524288
returns-then-r-lt524288 c = (mark_moved c.args.r c.if-r-lt524288.true c.requires, mark_count c.args.r c.if-r-lt524288.true)

pub returns : goal.returns
returns c = (marked_same c.args.r c.if-r-lt524288.false c.requires, refl)
