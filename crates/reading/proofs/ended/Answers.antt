use Rattle.reading.proofs.ReadLaws as M
use Rattle.phrases.proofs.StepLaws as L
use Rattle.phrases.specs.Gave.{gave}
use Rattle.reading.proofs.ended.Goals as goal

pub returns-in-None : goal.returns-in-None
unfolding gave
returns-in-None c = (λ so. M.ended_none _ _ _ (L.at_end _ _ _ c.word_from.ensures c.in-None.is) so, c.requires)

pub returns-in-Some : goal.returns-in-Some
unfolding gave
returns-in-Some c = (λ so. M.ended_more _ _ _ _ _ (L.at_word _ _ _ c.word_from.ensures _ c.in-Some.is).3 so, tt)
