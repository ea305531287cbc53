use Rattle.rules.specs.Bytes.{◌or◌}
use Rattle.std.proofs.Common.{arith}
use Rattle.std.proofs.lemmas.Grind.{common_steps}
use Rattle.texts.specs.Tokens.{is_part, is_comment}
use Rattle.tokens.proofs.is_part.Goals as goal

pub returns : goal.returns
unfolding is_part is_comment ◌or◌
returns c = grind (arith, common_steps)
