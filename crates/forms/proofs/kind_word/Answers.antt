use Rattle.forms.proofs.KindLaws.{no_kind_word}
use Rattle.spell.proofs.WordLaws.{kind_row}
use native.Mathlib.Omega.{arith}
use Rattle.letters.proofs.PutsLaws.{puts_none, puts_as}
use Rattle.forms.proofs.kind_word.Goals as goal

pub returns-then-k-lt30 : goal.returns-then-k-lt30
returns-then-k-lt30 c = puts_as (kind_row c.args.k c.if-k-lt30.true) c.word.ensures

pub returns-else-k-lt30 : goal.returns-else-k-lt30
returns-else-k-lt30 c = puts_as (no_kind_word c.args.k (omega (arith, c.if-k-lt30.false))) (puts_none _)
