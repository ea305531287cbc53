use mathlib.Core.Path.{refl, ◌∙◌}
use Rattle.reader.proofs.RestLaws.{rest_room, rest_put_lem, rest_case, rest_other}
use Rattle.reader.proofs.put_rest.Goals as goal

pub append-n-requires : goal.append-n-requires
append-n-requires c = rest_room _ _ _ _ _ _ _ _ c.put_numbers.ensures c.requires

pub returns-then-k-eq10 : goal.returns-then-k-eq10
returns-then-k-eq10 c = (refl, rest_put_lem _ _ _ _ _ _ _ _ c.put_numbers.ensures _ _ _ _ _ c.append-n.ensures.0 c.append-n.ensures.1 ∙ rest_case _ _ _ _ _ _ _ _ _ c.if-k-eq10.true)

pub append-n-requires-2 : goal.append-n-requires-2
append-n-requires-2 c = rest_room _ _ _ _ _ _ _ _ c.put_numbers-2.ensures c.requires

pub returns : goal.returns
returns c = (refl, rest_put_lem _ _ _ _ _ _ _ _ c.put_numbers-2.ensures _ _ _ _ _ c.append-n-2.ensures.0 c.append-n-2.ensures.1 ∙ rest_other _ _ _ _ _ _ _ _ _ c.if-k-eq10.false)
