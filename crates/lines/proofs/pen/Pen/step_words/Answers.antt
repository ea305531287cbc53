use native.Mathlib.Omega.{arith}
use Rattle.lines.specs.Shown.{step_words}
use Rattle.lines.proofs.PenLaws.{puts_behind}
use Rattle.lines.proofs.pen.Pen.step_words.Goals as goal

pub returns : goal.returns
unfolding step_words
returns c = let a = c.field.ensures.upper_bound in
    let b = c.value_words.ensures.upper_bound in
    let place = c.word.ensures.put.place in
    let d = c.number.ensures.upper_bound in
    let before = puts_behind (puts_behind c.field.ensures.puts c.value_words.ensures.puts) c.word.ensures in
    record { puts = puts_behind before c.number.ensures.puts; upper_bound = omega arith }
