use Rattle.peeking.proofs.EntryLaws.{none_wrong, some_wrong}
use Rattle.peeking.proofs.list_wrong.Goals as goal

pub returns-then-list-eq0 : goal.returns-then-list-eq0
returns-then-list-eq0 c = none_wrong _ c.if-list-eq0.true

pub returns : goal.returns
returns c = some_wrong _ c.if-list-eq0.false
