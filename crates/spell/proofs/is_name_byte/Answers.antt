use Rattle.std.proofs.Common.{arith}
use Rattle.std.proofs.lemmas.Grind.{common_steps}
use Rattle.rules.specs.Bytes.{◌or◌}
use Rattle.spell.specs.Vocabulary.{is_name_byte}
use Rattle.spell.proofs.is_name_byte.Goals as goal

pub returns-then-is_digit : goal.returns-then-is_digit
unfolding is_name_byte ◌or◌
returns-then-is_digit c = grind (arith, common_steps)

pub returns-else-is_digit : goal.returns-else-is_digit
unfolding is_name_byte ◌or◌
returns-else-is_digit c = grind (arith, common_steps)
