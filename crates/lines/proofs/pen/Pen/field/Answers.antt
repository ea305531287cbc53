use native.Mathlib.Omega.{arith}
use Rattle.wire.specs.Text.{field}
use Rattle.lines.proofs.PenLaws.{puts_behind}
use Rattle.lines.proofs.pen.Pen.field.Goals as goal

pub returns : goal.returns
unfolding field
returns c = let n = c.number.ensures in
    let e = c.word.ensures in
    let place = e.put.place in
    record { puts = puts_behind n.puts e; upper_bound = omega arith }
