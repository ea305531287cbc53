use native.Mathlib.Omega.{arith}
use borrow.Author.Tests.{lt-ltb, le-ltb}
use Rattle.lines.specs.Print.{type_words}
use Rattle.lines.proofs.PenLaws.{puts_behind}
use Rattle.lines.proofs.pen.Pen.type_words.Goals as goal

pub returns-then-t-lt5 : goal.returns-then-t-lt5
unfolding type_words
returns-then-t-lt5 c = let e = c.plain_type.ensures in
    rw (lt-ltb c.args.t 5 c.if-t-lt5.true) (record { puts = e.puts; upper_bound = omega arith })

pub returns : goal.returns
unfolding type_words
returns c = let m = c.word.ensures in
    let e = c.plain_type-2.ensures in
    let place = m.put.place in
    rw (le-ltb c.args.t 5 c.if-t-lt5.false) (record { puts = puts_behind m e.puts; upper_bound = omega arith })
