use native.Mathlib.Omega.{arith}
use Rattle.wire.specs.Lines.{started_line}
use Rattle.wire.proofs.PutLaws.{line_is}
use Rattle.wire.proofs.answer.ready_line.Goals as goal

pub returns : goal.returns
unfolding started_line
returns c =
    let line = line_is c.put.ensures (omega arith) in
    record { prefix_len = line.0; line_after = line.1 }
