use mathlib.Core.Path.{sym, ap}
use Prim.Native.Nat.{ℕ}
use Rattle.rules.specs.Kinds.{fields_of, row}
use Rattle.reader.proofs.FieldTests as F
use Rattle.reader.proofs.field_c.Goals as goal

pub returns-then-k-eq10 : goal.returns-then-k-eq10
unfolding fields_of row
returns-then-k-eq10 c = ap (λ (j : ℕ). (fields_of j).c) (sym c.if-k-eq10.true)

pub returns : goal.returns
returns c = F.field_c _ c.requires _ c.row_of.ensures _ c.c_in.ensures c.if-k-eq10.false
