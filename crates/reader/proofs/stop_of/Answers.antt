use Rattle.reader.proofs.RowLaws as L
use Rattle.reader.proofs.stop_of.Goals as goal

pub returns-then-rows-eq0 : goal.returns-then-rows-eq0
returns-then-rows-eq0 c = L.why_word _ c.if-rows-eq0.true

pub returns-then-rows-eq1 : goal.returns-then-rows-eq1
returns-then-rows-eq1 c = L.why_name _ c.if-rows-eq0.false c.if-rows-eq1.true

pub returns : goal.returns
returns c = L.why_range _ c.if-rows-eq0.false c.if-rows-eq1.false
