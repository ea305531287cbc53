use Rattle.sealing.proofs.NameLaws.{found_start, found_at, found_on, found_none}
use Rattle.sealing.specs.Scratch.{name_in}
use Rattle.spell.proofs.PartLaws.{same_pointwise}
use native.Mathlib.Omega.{arith}
use mathlib.Core.Path.{sym, ap₂, ◌∙◌}
use lib.Dec.{eqb}
use lib.Pointwise.{pointwise}
use Rattle.sealing.proofs.row_named.Goals as goal

pub loop-j-init : goal.loop-j-init
loop-j-init c = found_start _ _ _ _

pub returns-then-eq : goal.returns-then-eq
unfolding name_in
returns-then-eq c = sym (c.loop-j.invariant ∙ found_at _ _ _ _ _ c.loop-j.j (omega arith) (sym (c.eq.ensures ∙ ap₂ (pointwise eqb) c.named.ensures c.named-in-loop-j.ensures ∙ same_pointwise _ _) ∙ c.if-eq.true))

pub loop-j-preserved : goal.loop-j-preserved
unfolding name_in
loop-j-preserved c = c.loop-j.invariant ∙ found_on _ _ _ _ _ c.loop-j.j (omega arith) (sym (c.eq.ensures ∙ ap₂ (pointwise eqb) c.named.ensures c.named-in-loop-j.ensures ∙ same_pointwise _ _) ∙ c.if-eq.false)

pub returns : goal.returns
returns c = sym (c.loop-j.invariant ∙ found_none _ _ _ _ _ c.loop-j.j (omega arith))
