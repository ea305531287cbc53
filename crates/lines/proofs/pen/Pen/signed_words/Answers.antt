use native.Mathlib.Omega.{arith}
use Rattle.lines.proofs.PenLaws.{puts_behind}
use Rattle.lines.proofs.PrintLaws.{natural, negative}
use Rattle.lines.proofs.pen.Pen.signed_words.Goals as goal

pub returns-then-w-lt2147483648 : goal.returns-then-w-lt2147483648
returns-then-w-lt2147483648 c = let e = c.number.ensures in
    rw (natural c.args.w c.if-w-lt2147483648.true) (record { puts = e.puts; upper_bound = omega arith })

pub returns : goal.returns
returns c = let m = c.word.ensures in
    let e = c.number-2.ensures in
    let place = m.put.place in
    rw (negative c.args.w c.if-w-lt2147483648.false c.ranges.w.fits) (record { puts = puts_behind m e.puts; upper_bound = omega arith })
