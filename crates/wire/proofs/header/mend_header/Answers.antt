use Rattle.wire.proofs.PutLaws.{behind, line_is}
use Rattle.wire.specs.Lines.{mend_line}
use native.Mathlib.Omega.{arith}
use Rattle.wire.proofs.header.mend_header.Goals as goal

pub returns : goal.returns
unfolding mend_line
returns c =
    let one = behind c.put-a.ensures c.put_field-b.ensures.put in
    let two = behind one c.put_field-d.ensures.put in
    let three = behind two c.put_field.ensures.put in
    let line = line_is three (omega arith) in
    record { prefix_len = line.0; line_after = line.1 }
