use Rattle.tidy.proofs.RowLaws.{field_moved, field_far, field_plain}
use Rattle.tidy.proofs.moved.Goals as goal

pub returns-then-x-lt1024 : goal.returns-then-x-lt1024
returns-then-x-lt1024 c = field_moved _ _ _ _ c.if-yes.true c.if-x-lt1024.true c.from.ensures

pub returns-else-x-lt1024 : goal.returns-else-x-lt1024
returns-else-x-lt1024 c = field_far _ _ _ c.if-x-lt1024.false

pub returns-else-yes : goal.returns-else-yes
returns-else-yes c = field_plain _ _ _ c.if-yes.false
