use native.Mathlib.Omega.{arith}
use Rattle.lines.specs.Print.{value_words}
use Rattle.lines.proofs.pen.Pen.value_words.Goals as goal

pub returns-in-Plain : goal.returns-in-Plain
unfolding value_words
returns-in-Plain c = let e = c.plain_words.ensures in
    rw c.in-Plain.is (record { puts = e.puts; upper_bound = omega arith })

pub returns-in-Absent : goal.returns-in-Absent
unfolding value_words
returns-in-Absent c = let e = c.word.ensures in
    let place = e.put.place in
    rw c.in-Absent.is (record { puts = e; upper_bound = omega arith })

pub returns-in-Present : goal.returns-in-Present
unfolding value_words
returns-in-Present c = let e = c.some_words.ensures in
    rw c.in-Present.is (record { puts = e.puts; upper_bound = omega arith })
