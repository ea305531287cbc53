use native.Mathlib.Omega.{arith}
use Rattle.wire.specs.Lines.{start_line}
use Rattle.wire.proofs.PutLaws.{behind, line_is}
use Rattle.wire.proofs.header.start_header.Goals as goal

pub returns : goal.returns
unfolding start_line
returns c =
    let one = behind c.put-a.ensures c.put_field-b.ensures.put in
    let two = behind one c.put_field.ensures.put in
    let line = line_is two (omega arith) in
    record { prefix_len = line.0; line_after = line.1 }
