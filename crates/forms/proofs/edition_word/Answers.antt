use Rattle.forms.proofs.KindLaws.{edition_row, no_edition_word}
use native.Mathlib.Omega.{arith}
use Rattle.letters.proofs.PutsLaws.{puts_none, puts_as}
use Rattle.forms.proofs.edition_word.Goals as goal

pub returns-then-e-lt2 : goal.returns-then-e-lt2
returns-then-e-lt2 c = puts_as (edition_row c.args.e c.if-e-lt2.true) c.word.ensures

pub returns-else-e-lt2 : goal.returns-else-e-lt2
returns-else-e-lt2 c = puts_as (no_edition_word c.args.e (omega (arith, c.if-e-lt2.false))) (puts_none _)
