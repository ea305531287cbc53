use mathlib.Core.Path.{sym}
use native.Mathlib.Omega.{arith}
use Rattle.lines.specs.Print.{present_words}
use Rattle.lines.proofs.PenLaws.{puts_behind}
use Rattle.lines.proofs.pen.Pen.some_words.Goals as goal

pub returns : goal.returns
unfolding present_words
returns c = let m = c.word.ensures in
    let e = c.plain_words.ensures in
    let place = m.put.place in
    rw (sym c.saturating_sub.ensures) (record { puts = puts_behind m e.puts; upper_bound = omega arith })
