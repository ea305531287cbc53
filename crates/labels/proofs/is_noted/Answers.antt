use mathlib.Core.Path.{refl, sym, ap, ◌∙◌}
use native.Mathlib.Omega.{arith}
use lib.Dec.{eqb}
use lib.Pointwise.{pointwise}
use Rattle.spell.proofs.PartLaws.{same_pointwise}
use Rattle.labels.specs.Noted.{name_at, names_in}
use Rattle.labels.proofs.NoteLaws.{noted_at, noted_on, noted_none}
use Rattle.labels.proofs.is_noted.Goals as goal

pub loop-i-init : goal.loop-i-init
unfolding names_in
loop-i-init c = refl

pub returns-then-eq : goal.returns-then-eq
unfolding name_at
returns-then-eq c = sym (c.loop-i.invariant ∙ noted_at _ _ _ _ c.loop-i.i (omega arith) (sym (c.eq.ensures ∙ ap (pointwise eqb c.args.word.now) c.named.ensures ∙ same_pointwise _ _) ∙ c.if-eq.true))

pub loop-i-preserved : goal.loop-i-preserved
unfolding name_at
loop-i-preserved c = c.loop-i.invariant ∙ noted_on _ _ _ _ c.loop-i.i (omega arith) (sym (c.eq.ensures ∙ ap (pointwise eqb c.args.word.now) c.named.ensures ∙ same_pointwise _ _) ∙ c.if-eq.false)

pub returns : goal.returns
returns c = sym (c.loop-i.invariant ∙ noted_none _ _ _ _ c.loop-i.i (omega arith))
