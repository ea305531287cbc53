use native.Mathlib.Omega.{arith}
use Rattle.wire.specs.Lines.{check_line}
use Rattle.wire.proofs.PutLaws.{behind, line_is}
use Rattle.wire.proofs.header.check_header.Goals as goal

pub returns : goal.returns
unfolding check_line
returns c =
    let one = behind c.put-a.ensures c.put_field.ensures.put in
    let line = line_is one (omega arith) in
    record { prefix_len = line.0; line_after = line.1 }
