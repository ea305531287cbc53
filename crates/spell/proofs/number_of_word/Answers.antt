use mathlib.Core.Path.{sym, ◌∙◌}
use native.Mathlib.Omega.{arith}
use Rattle.spell.proofs.NumberLaws.{number_minus, number_plain, no_number}
use Rattle.spell.proofs.number_of_word.Goals as goal

pub returns-in-empty : goal.returns-in-empty
returns-in-empty c = sym (no_number _ (omega arith))

pub returns-then-first-eq45 : goal.returns-then-first-eq45
returns-then-first-eq45 c = c.of_digits.ensures ∙ sym (number_minus c.args.word.now (omega arith) c.if-first-eq45.true)

pub returns-else-first-eq45 : goal.returns-else-first-eq45
returns-else-first-eq45 c = c.of_digits-else-first-eq45.ensures ∙ sym (number_plain c.args.word.now (omega arith) c.if-first-eq45.false)
