use native.Mathlib.Omega.{arith}
use Rattle.wire.specs.Lines.{watch_line}
use Rattle.wire.proofs.PutLaws.{behind, line_is}
use Rattle.wire.proofs.header.watch_header.Goals as goal

pub returns : goal.returns
unfolding watch_line
returns c =
    let one = behind c.put-a.ensures c.put_field-b.ensures.put in
    let two = behind one c.put_short-c.ensures.put in
    let three = behind two c.put_short-d.ensures.put in
    let four = behind three c.put_field-e.ensures.put in
    let five = behind four c.put_field-f.ensures.put in
    let six = behind five c.put_field.ensures.put in
    let line = line_is six (omega arith) in
    record { prefix_len = line.0; line_after = line.1 }
