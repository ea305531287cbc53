use mathlib.Core.Path.{sym, ◌∙◌}
use Rattle.forms.proofs.PartLaws.{is_bound_lem, is_value, no_typed}
use Rattle.letters.proofs.PutsLaws.{puts_none, puts_as, puts_then}
use Rattle.forms.proofs.type_part.Goals as goal

pub returns-then-binds : goal.returns-then-binds
returns-then-binds c = puts_as (is_bound_lem _ _ _ _ _ (sym c.binds.ensures ∙ c.if-binds.true)) (puts_then c.name.ensures (puts_then c.put.ensures c.type_word.ensures))

pub returns-then-has_value : goal.returns-then-has_value
returns-then-has_value c = puts_as (is_value _ _ _ _ _ (sym c.has_value.ensures ∙ c.if-has_value.true)) c.value.ensures

pub returns-else-has_value : goal.returns-else-has_value
returns-else-has_value c = puts_as (no_typed _ _ _ _ _ (sym c.binds.ensures ∙ c.if-binds.false) (sym c.has_value.ensures ∙ c.if-has_value.false)) (puts_none _)
