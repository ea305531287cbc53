use Rattle.std.proofs.Common.{arith}
use Rattle.std.proofs.lemmas.Grind.{common_steps}
use Rattle.rules.specs.Bytes.{◌and◌}
use Rattle.texts.specs.Spelling.{is_digit}
use Rattle.spell.proofs.is_digit.Goals as goal

pub returns-then-b-ge48 : goal.returns-then-b-ge48
unfolding is_digit ◌and◌
returns-then-b-ge48 c = grind (arith, common_steps)

pub returns-else-b-ge48 : goal.returns-else-b-ge48
unfolding is_digit ◌and◌
returns-else-b-ge48 c = grind (arith, common_steps)
