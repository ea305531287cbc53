use Rattle.std.proofs.Common.{arith}
use Rattle.std.proofs.lemmas.Grind.{common_steps}
use Rattle.rules.specs.Bytes.{◌and◌, ◌or◌}
use Rattle.texts.specs.Spelling.{is_letter}
use Rattle.spell.proofs.is_letter.Goals as goal

pub returns-then-b-le122 : goal.returns-then-b-le122
unfolding is_letter ◌and◌ ◌or◌
returns-then-b-le122 c = grind (arith, common_steps)

pub returns-then-b-ge65 : goal.returns-then-b-ge65
unfolding is_letter ◌and◌ ◌or◌
returns-then-b-ge65 c = grind (arith, common_steps)

pub returns-else-b-ge65 : goal.returns-else-b-ge65
unfolding is_letter ◌and◌ ◌or◌
returns-else-b-ge65 c = grind (arith, common_steps)
