use Rattle.forms.proofs.PartLaws.{name_said, none_said}
use Rattle.letters.proofs.PutsLaws.{puts_none, puts_as}
use Rattle.forms.proofs.branch_name.Goals as goal

pub returns-then-said : goal.returns-then-said
returns-then-said c = puts_as (name_said _ _ c.if-said.true) c.name.ensures

pub returns-else-said : goal.returns-else-said
returns-else-said c = puts_as (none_said _ _ c.if-said.false) (puts_none _)
