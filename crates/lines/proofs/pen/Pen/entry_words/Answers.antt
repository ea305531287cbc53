use mathlib.Core.Path.{sym}
use native.Mathlib.Omega.{arith}
use borrow.Author.Tests.{eq-eqb, ne_eqb}
use Rattle.lines.specs.Shown.{entry_words}
use Rattle.lines.proofs.PenLaws.{puts_behind}
use Rattle.lines.proofs.pen.Pen.entry_words.Goals as goal

pub returns-then-m-eq0 : goal.returns-then-m-eq0
unfolding entry_words
returns-then-m-eq0 c = let e = c.word.ensures in
    let place = e.put.place in
    rw (eq-eqb c.args.m 0 c.if-m-eq0.true) (record { puts = e; upper_bound = omega arith })

pub returns : goal.returns
unfolding entry_words
returns c = let m = c.word-2.ensures in
    let e = c.value_words.ensures in
    let place = m.put.place in
    rw (ne_eqb c.args.m 0 c.if-m-eq0.false, sym c.unpack.ensures) (record { puts = puts_behind m e.puts; upper_bound = omega arith })
