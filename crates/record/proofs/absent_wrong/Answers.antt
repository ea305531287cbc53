use mathlib.Core.Path.{ap, ◌∙◌}
use mathlib.Core.Bool.{not}
use borrow.Author.Tests.{eq-eqb}
use Rattle.rules.specs.Bytes.{byte_at}
use Rattle.rules.specs.Layout.{flag_on}
use Rattle.record.proofs.EventLaws.{zero_word, some_word}
use Rattle.record.proofs.absent_wrong.Goals as goal

pub returns-then-u32_at-ne0 : goal.returns-then-u32_at-ne0
unfolding flag_on byte_at
returns-then-u32_at-ne0 c = let w = some_word c.args.rec.now c.args.c c.u32_at.ensures c.if-u32_at-ne0.true in cc (w, c.requires.3)

pub returns-else-u32_at-ne0 : goal.returns-else-u32_at-ne0
returns-else-u32_at-ne0 c = ap not (eq-eqb _ 0 c.if-u32_at-ne0.false) ∙ zero_word c.args.rec.now c.args.c c.u32_at.ensures c.if-u32_at-ne0.false
