use native.Mathlib.Omega.{arith}
use lib.ListN.{length-set}
use Rattle.wire.specs.Text.{field}
use Rattle.wire.proofs.PutLaws.{stored}
use Rattle.wire.proofs.text.put_field.Goals as goal

pub returns : goal.returns
unfolding field
returns c = let p = c.put_number-here.ensures in
    record { put = stored c.args.end p.put (omega arith); upper_bound = omega arith; line_len = simp length-set (omega arith) }
