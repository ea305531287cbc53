use native.Mathlib.Omega.{arith}
use Rattle.lines.specs.Channels.{channel_word}
use Rattle.lines.proofs.pen.Pen.channel_word.Goals as goal

pub returns-then-named : goal.returns-then-named
unfolding channel_word
returns-then-named c = let e = c.word.ensures in
    let place = e.put.place in
    rw c.if-named.true (record { puts = e; upper_bound = omega arith })

pub returns : goal.returns
unfolding channel_word
returns c = let e = c.word-2.ensures in
    let place = e.put.place in
    rw c.if-named.false (record { puts = e; upper_bound = omega arith })
