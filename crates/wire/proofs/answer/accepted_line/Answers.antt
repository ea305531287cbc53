use native.Mathlib.Omega.{arith}
use Rattle.wire.specs.Lines.{accepted_line}
use Rattle.wire.proofs.PutLaws.{behind, line_is}
use Rattle.wire.proofs.answer.accepted_line.Goals as goal

pub returns : goal.returns
unfolding accepted_line
returns c =
    let one = behind c.put-a.ensures c.put_field-b.ensures.put in
    let two = behind one c.put_field-c.ensures.put in
    let three = behind two c.put_field-d.ensures.put in
    let four = behind three c.put_field.ensures.put in
    let line = line_is four (omega arith) in
    record { prefix_len = line.0; line_after = line.1 }
