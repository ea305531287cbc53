use Rattle.mend.proofs.ListLaws.{added_none, added_one}
use Rattle.mend.proofs.add_entry.Goals as goal

pub returns-then-changed : goal.returns-then-changed
returns-then-changed c = added_one _ _ _ _ c.if-changed.true

pub returns : goal.returns
returns c = added_none _ _ _ _ c.if-changed.false
