use mathlib.Core.Path.{sym, ◌∙◌}
use Rattle.spell.proofs.WordLaws.{edition_one, edition_two, edition_none}
use Rattle.spell.proofs.edition_named.Goals as goal

pub returns-then-spells : goal.returns-then-spells
returns-then-spells c = sym (edition_one _ (sym c.spells.ensures ∙ c.if-spells.true))

pub returns-then-spells-2 : goal.returns-then-spells-2
returns-then-spells-2 c = sym (edition_two _ (sym c.spells.ensures ∙ c.if-spells.false) (sym c.spells-2.ensures ∙ c.if-spells-2.true))

pub returns : goal.returns
returns c = sym (edition_none _ (sym c.spells.ensures ∙ c.if-spells.false) (sym c.spells-2.ensures ∙ c.if-spells-2.false))
