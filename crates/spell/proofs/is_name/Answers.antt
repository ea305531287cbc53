use mathlib.Core.Path.{sym}
use Rattle.std.proofs.Common.{arith}
use Rattle.std.proofs.lemmas.Grind.{common_steps}
use Rattle.rules.specs.Bytes.{◌and◌}
use Rattle.spell.proofs.PartLaws.{names_all}
use Rattle.spell.proofs.WordLaws.{name_parts, no_name}
use Rattle.spell.proofs.is_name.Goals as goal

pub returns-in-empty : goal.returns-in-empty
returns-in-empty c = sym (no_name _ (omega arith))

pub returns-then-are_name_bytes : goal.returns-then-are_name_bytes
unfolding ◌and◌
returns-then-are_name_bytes c = rw (name_parts c.args.word.now (omega arith), names_all) (grind (arith, common_steps))

pub returns-else-are_name_bytes : goal.returns-else-are_name_bytes
unfolding ◌and◌
returns-else-are_name_bytes c = rw (name_parts c.args.word.now (omega arith), names_all) (grind (arith, common_steps))
