use native.Mathlib.Omega.{arith}
use Rattle.kinds.specs.Rows.{row_number}
use Rattle.kinds.proofs.row_number.Goals as goal

pub returns : goal.returns
unfolding row_number
returns c = omega (arith, c.named_bits.ensures, c.type_number.ensures, c.child_number.ensures, c.child_number-2.ensures, c.child_number-3.ensures)
