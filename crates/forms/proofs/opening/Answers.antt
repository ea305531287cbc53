use mathlib.Core.Path.{sym, ◌∙◌}
use Rattle.rules.specs.Bytes.{◌or◌}
use Rattle.forms.proofs.PartLaws.{open_same, open_line}
use Rattle.letters.proofs.PutsLaws.{puts_as, puts_then}
use Rattle.forms.proofs.opening.Goals as goal

pub returns-then-either : goal.returns-then-either
returns-then-either c = puts_as (open_same _ _ _ _ (sym (c.either.ensures ∙ (λ i. c.may_be.ensures i or c.both.ensures i)) ∙ c.if-either.true)) (puts_then c.put.ensures c.put-then-either.ensures)

pub returns : goal.returns
returns c = puts_as (open_line _ _ _ _ (sym (c.either.ensures ∙ (λ i. c.may_be.ensures i or c.both.ensures i)) ∙ c.if-either.false)) (puts_then c.line.ensures c.put-2.ensures)
