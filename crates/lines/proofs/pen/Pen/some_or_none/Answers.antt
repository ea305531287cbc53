use native.Mathlib.Omega.{arith}
use borrow.Author.Tests.{eq-eqb, ne_eqb}
use Rattle.lines.specs.Channels.{some_or_none}
use Rattle.lines.proofs.pen.Pen.some_or_none.Goals as goal

pub returns-then-bits-eq0 : goal.returns-then-bits-eq0
unfolding some_or_none
returns-then-bits-eq0 c = let e = c.word.ensures in
    let place = e.put.place in
    rw (eq-eqb c.args.bits 0 c.if-bits-eq0.true) (record { puts = e; upper_bound = omega arith })

pub returns : goal.returns
unfolding some_or_none
returns c = rw (ne_eqb c.args.bits 0 c.if-bits-eq0.false) c.channel_words.ensures
