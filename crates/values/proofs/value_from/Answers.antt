use borrow.Author.Tests.{eq-eqb, ne_eqb}
use mathlib.Core.Path.{sym, ◌∙◌}
use Rattle.rules.specs.Values.{value_from}
use Rattle.values.proofs.value_from.Goals as goal

pub returns-then-is_plain : goal.returns-then-is_plain
unfolding value_from
returns-then-is_plain c = simp (sym c.is_plain.ensures ∙ c.if-is_plain.true)

pub returns-then-present-eq0 : goal.returns-then-present-eq0
unfolding value_from
returns-then-present-eq0 c = simp (sym c.is_plain.ensures ∙ c.if-is_plain.false, eq-eqb _ _ c.if-present-eq0.true)

pub returns : goal.returns
unfolding value_from
returns c = simp (sym c.is_plain.ensures ∙ c.if-is_plain.false, ne_eqb _ _ c.if-present-eq0.false)
