use Rattle.forms.proofs.PartLaws.{is_channel, no_channel}
use Rattle.letters.proofs.PutsLaws.{puts_none, puts_as}
use Rattle.forms.proofs.channel.Goals as goal

pub returns-then-k-eq1 : goal.returns-then-k-eq1
returns-then-k-eq1 c = puts_as (is_channel _ _ c.if-k-eq1.true) c.number.ensures

pub returns-else-k-eq1 : goal.returns-else-k-eq1
returns-else-k-eq1 c = puts_as (no_channel _ _ c.if-k-eq1.false) (puts_none _)
