use mathlib.Core.Path.{sym, ◌∙◌}
use Rattle.std.proofs.Common.{arith}
use Rattle.std.proofs.lemmas.Grind.{common_steps}
use Rattle.spell.proofs.PartLaws.{digits_all}
use Rattle.spell.proofs.NumberLaws.{natural_none, natural_some}
use Rattle.spell.proofs.is_natural.Goals as goal

pub returns-then-not-is_empty : goal.returns-then-not-is_empty
returns-then-not-is_empty c = c.are_digits.ensures ∙ sym (natural_some c.args.word.now (grind (arith, common_steps)) ∙ digits_all _)

pub returns-else-not-is_empty : goal.returns-else-not-is_empty
returns-else-not-is_empty c = rw (natural_none c.args.word.now (grind (arith, common_steps))) (grind (arith, common_steps))
