use mathlib.Core.Path.{sym}
use native.Mathlib.Omega.{arith}
use Rattle.wire.specs.Lines.{stopped_line}
use Rattle.wire.proofs.PutLaws.{behind, line_is}
use Rattle.wire.proofs.answer.stopped_line.Goals as goal

pub returns : goal.returns
unfolding stopped_line
returns c =
    let one = behind c.put-a.ensures c.put_field-b.ensures.put in
    let two = behind one c.put_field-c.ensures.put in
    let three = behind two c.put_field-d.ensures.put in
    let four = behind three c.put_field.ensures.put in
    let line = line_is four (omega arith) in
    rw (sym c.code_of-code.ensures, sym c.place_of-place.ensures) (record { prefix_len = line.0; line_after = line.1 })
