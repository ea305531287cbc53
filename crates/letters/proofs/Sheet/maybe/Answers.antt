use Rattle.letters.proofs.ValueLaws.{some_is, none_is}
use Rattle.letters.proofs.Sheet.maybe.Goals as goal

pub returns-then-present : goal.returns-then-present
returns-then-present c = some_is _ _ _ c.if-present.true c.word.ensures c.put.ensures c.plain.ensures

pub returns : goal.returns
returns c = none_is _ _ _ c.if-present.false c.word-2.ensures c.put-2.ensures c.type_word.ensures
