-- `format::after_end` meets its contract. By whether there is a record before.
use Rattle.format.proofs.RecordLaws.{end_before}
use Rattle.rules.specs.Format.{after_end}
use lib.Dec.{eqb}
use Prim.Native.Nat.{ℕ}
use mathlib.Core.Path.{sym, ◌∙◌, ap}
use Rattle.format.proofs.after_end.Goals as goal

pub returns-then-r-eq0 : goal.returns-then-r-eq0
unfolding after_end
returns-then-r-eq0 c = rw c.if-r-eq0.true

pub returns : goal.returns
returns c = ap (λ (k : ℕ). eqb k 0) c.kind_at.ensures ∙ sym (end_before _ _ c.if-r-eq0.false)
