use Rattle.rules.specs.Bytes.{◌or◌}
use Rattle.std.proofs.Common.{arith}
use Rattle.std.proofs.lemmas.Grind.{common_steps}
use Rattle.texts.specs.Tokens.{is_white}
use Rattle.tokens.proofs.is_white.Goals as goal

pub returns-then-b-eq9 : goal.returns-then-b-eq9
unfolding is_white ◌or◌
returns-then-b-eq9 c = grind (arith, common_steps)

pub returns-else-b-eq9 : goal.returns-else-b-eq9
unfolding is_white ◌or◌
returns-else-b-eq9 c = grind (arith, common_steps)
