use native.Mathlib.Omega.{arith}
use Rattle.lines.proofs.ShownLaws.{none_put, entry_put}
use Rattle.lines.proofs.pen.Pen.row_words.Goals as goal

pub loop-j-init : goal.loop-j-init
loop-j-init c = record { puts = none_put _ _; below = omega arith }

pub loop-j-preserved : goal.loop-j-preserved
loop-j-preserved c = let e = c.entry_words.ensures in
    record { puts = entry_put _ c.loop-j.j c.loop-j.invariant.puts c.u64_at-m.ensures e.puts; below = omega arith }
