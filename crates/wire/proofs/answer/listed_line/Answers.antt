use Rattle.wire.proofs.PutLaws.{behind, line_is}
use Rattle.wire.specs.Lines.{listed_line}
use native.Mathlib.Omega.{arith}
use Rattle.wire.proofs.answer.listed_line.Goals as goal

pub returns : goal.returns
unfolding listed_line
returns c =
    let one = behind c.put-a.ensures c.put_field.ensures.put in
    let line = line_is one (omega arith) in
    record { prefix_len = line.0; line_after = line.1 }
