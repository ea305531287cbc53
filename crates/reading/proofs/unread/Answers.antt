use Rattle.reading.proofs.CallLaws as K
use Rattle.reading.proofs.unread.Goals as goal

pub returns-in-Word : goal.returns-in-Word
returns-in-Word c = K.unread_word _ _ _ c.capped.ensures c.in-Word.is

pub returns-in-Name : goal.returns-in-Name
returns-in-Name c = K.unread_name _ _ _ c.capped-in-Name.ensures c.in-Name.is

pub returns-in-Range : goal.returns-in-Range
returns-in-Range c = K.unread_range _ _ _ c.capped-in-Range.ensures c.in-Range.is
