use mathlib.Core.Path.{sym, ap}
use Prim.Native.Nat.{ℕ}
use Rattle.rules.specs.Kinds.{fields_of, row}
use Rattle.reader.proofs.FieldTests as F
use Rattle.reader.proofs.field_a.Goals as goal

pub returns-then-k-eq1 : goal.returns-then-k-eq1
unfolding fields_of row
returns-then-k-eq1 c = ap (λ (j : ℕ). (fields_of j).a) (sym c.if-k-eq1.true)

pub returns-then-k-eq16 : goal.returns-then-k-eq16
unfolding fields_of row
returns-then-k-eq16 c = ap (λ (j : ℕ). (fields_of j).a) (sym c.if-k-eq16.true)

pub returns : goal.returns
returns c = F.field_a _ c.requires _ c.row_of.ensures _ c.a_in.ensures c.if-k-eq1.false c.if-k-eq16.false
