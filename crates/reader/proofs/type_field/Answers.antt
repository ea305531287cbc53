use mathlib.Core.Path.{sym, ap}
use Prim.Native.Nat.{ℕ}
use Rattle.rules.specs.Kinds.{fields_of, row}
use Rattle.reader.proofs.FieldTests as F
use Rattle.reader.proofs.type_field.Goals as goal

pub returns-then-k-eq4 : goal.returns-then-k-eq4
unfolding fields_of row
returns-then-k-eq4 c = ap (λ (j : ℕ). (fields_of j).ty) (sym c.if-k-eq4.true)

pub returns-then-k-eq17 : goal.returns-then-k-eq17
unfolding fields_of row
returns-then-k-eq17 c = ap (λ (j : ℕ). (fields_of j).ty) (sym c.if-k-eq17.true)

pub returns-then-k-eq5 : goal.returns-then-k-eq5
unfolding fields_of row
returns-then-k-eq5 c = ap (λ (j : ℕ). (fields_of j).ty) (sym c.if-k-eq5.true)

pub returns-then-either : goal.returns-then-either
returns-then-either c = F.type_plain _ c.requires c.if-k-eq4.false c.if-k-eq17.false c.if-k-eq5.false _ _ c.either-2.ensures c.either.ensures c.if-either.true

pub returns : goal.returns
returns c = F.type_none _ c.requires c.if-k-eq4.false c.if-k-eq17.false c.if-k-eq5.false _ _ c.either-2.ensures c.either.ensures c.if-either.false
