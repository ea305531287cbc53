use native.Mathlib.Omega.{arith}
use Rattle.spell.proofs.WordLaws.{type_row}
use Rattle.letters.proofs.WordLaws.{no_type}
use Rattle.letters.proofs.PutsLaws.{puts_none, puts_as}
use Rattle.letters.proofs.Sheet.type_word.Goals as goal

pub returns-then-t-lt8 : goal.returns-then-t-lt8
returns-then-t-lt8 c = puts_as (type_row c.args.t c.if-t-lt8.true) c.word.ensures

pub returns-else-t-lt8 : goal.returns-else-t-lt8
returns-else-t-lt8 c = puts_as (no_type c.args.t (omega (arith, c.if-t-lt8.false))) (puts_none _)
