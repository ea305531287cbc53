use Rattle.forms.proofs.PartLaws.{headed, label_is}
use Rattle.letters.proofs.PutsLaws.{puts_as, puts_then}
use Rattle.forms.proofs.heading.Goals as goal

pub returns : goal.returns
returns c = puts_as (headed _ _ _ _ _ _ _ _ _) (puts_then c.opening.ensures (puts_then c.kind_word.ensures (puts_then (puts_as (label_is _ _) c.branch_name.ensures) (puts_then c.type_part.ensures c.channel.ensures))))
