use mathlib.Core.Path.{sym, ◌∙◌}
use native.Mathlib.Omega.{arith}
use Rattle.spell.proofs.WordLaws.{kept_none, kept_by}
use Rattle.spell.proofs.is_kept.Goals as goal

pub returns-then-spells : goal.returns-then-spells
returns-then-spells c = sym (kept_by _ _ (omega arith) (sym c.spells.ensures ∙ c.if-spells.true))

pub returns : goal.returns
returns c = sym (kept_none _ (λ j h. c.loop-row.invariant j (omega arith)))
