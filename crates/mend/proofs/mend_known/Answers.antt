use Rattle.mend.proofs.CallLaws.{few_held, listed_few, leaves_room, leaves_brought}
use native.Mathlib.Omega.{arith}
use Rattle.mend.proofs.mend_known.Goals as goal

pub overflow_add-held : goal.overflow_add-held
overflow_add-held c = omega (arith, few_held _ _ c.requires.0.shaped c.requires.3)

pub returns-then-list-held : goal.returns-then-list-held
returns-then-list-held c = leaves_room _ _ _ _ c.requires.3 c.if-list-held.true

pub overflow_cast-result : goal.overflow_cast-result
overflow_cast-result c = omega (arith, listed_few _ _ _ c.requires.0.shaped c.mend_listed-listed.ensures.0)

pub returns : goal.returns
returns c = leaves_brought _ _ _ _ _ _ _ c.requires.3 c.if-list-held.false c.mend_listed-listed.ensures.0 c.mend_listed-listed.ensures.1 c.mend_listed-listed.ensures.2
