use Rattle.phrases.proofs.StepLaws as L
use Rattle.phrases.proofs.position.Goals as goal

pub returns-in-None : goal.returns-in-None
returns-in-None c = L.position_none _ _ _ c.word_from.ensures c.in-None.is _

pub returns-in-Some : goal.returns-in-Some
returns-in-Some c = L.position_some _ _ _ c.word_from.ensures _ c.in-Some.is _
