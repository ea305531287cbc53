use Rattle.std.proofs.Common.{arith}
use Rattle.std.proofs.lemmas.Grind.{common_steps}
use Rattle.rules.specs.Bytes.{◌and◌, ◌or◌}
use Rattle.rules.specs.Values.{is_plain, is_maybe, is_type}
use Rattle.spell.specs.Vocabulary.{allowed}
use Rattle.spell.proofs.type_fits.Goals as goal

pub returns-then-matches : goal.returns-then-matches
unfolding allowed is_type is_plain is_maybe ◌and◌ ◌or◌
returns-then-matches c = grind (arith, common_steps)

pub returns-in-5-to-7 : goal.returns-in-5-to-7
unfolding allowed is_type is_plain is_maybe ◌and◌ ◌or◌
returns-in-5-to-7 c = grind (arith, common_steps)

pub returns-in_default-matches : goal.returns-in_default-matches
unfolding allowed is_type is_plain is_maybe ◌and◌ ◌or◌
returns-in_default-matches c = grind (arith, common_steps)

pub returns-in_default-matches-2 : goal.returns-in_default-matches-2
unfolding allowed is_type is_plain is_maybe ◌and◌ ◌or◌
returns-in_default-matches-2 c = grind (arith, common_steps)

pub returns-else-not-plain : goal.returns-else-not-plain
unfolding allowed is_type is_plain is_maybe ◌and◌ ◌or◌
returns-else-not-plain c = grind (arith, common_steps)
