use mathlib.Core.Path.{sym, ap}
use Prim.Native.Nat.{ℕ}
use Rattle.rules.specs.Kinds.{fields_of, row}
use Rattle.reader.proofs.FieldTests as F
use Rattle.reader.proofs.field_b.Goals as goal

pub returns-then-k-eq4 : goal.returns-then-k-eq4
unfolding fields_of row
returns-then-k-eq4 c = ap (λ (j : ℕ). (fields_of j).b) (sym c.if-k-eq4.true)

pub returns-then-k-eq17 : goal.returns-then-k-eq17
unfolding fields_of row
returns-then-k-eq17 c = ap (λ (j : ℕ). (fields_of j).b) (sym c.if-k-eq17.true)

pub returns : goal.returns
returns c = F.field_b _ c.requires _ c.row_of.ensures _ c.b_in.ensures c.if-k-eq4.false c.if-k-eq17.false
