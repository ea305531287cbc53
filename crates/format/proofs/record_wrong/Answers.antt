use Rattle.rules.specs.Format.{record_wrong}
use mathlib.Core.Path.{sym, ◌∙◌}
use borrow.Author.Tests.{eq-eqb, ne_eqb}
use Rattle.format.proofs.record_wrong.Goals as goal

pub returns-then-kind_at-eq0 : goal.returns-then-kind_at-eq0
unfolding record_wrong
returns-then-kind_at-eq0 c = simp (eq-eqb _ _ (sym c.kind_at.ensures ∙ c.if-kind_at-eq0.true)) cc

pub returns : goal.returns
unfolding record_wrong
returns c = simp (ne_eqb _ _ (λ e. c.if-kind_at-eq0.false (c.kind_at.ensures ∙ e))) cc
