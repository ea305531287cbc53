use Rattle.phrases.specs.Gave.{gave_word}
use Rattle.phrases.proofs.StepLaws as L
use Rattle.phrases.proofs.next.Goals as goal

pub returns-in-None : goal.returns-in-None
unfolding gave_word
returns-in-None c = (λ so. L.next_none _ _ _ c.word_from.ensures c.in-None.is _ so, tt)

pub returns-in-Some : goal.returns-in-Some
unfolding gave_word
returns-in-Some c = (λ so. L.next_some _ _ _ c.word_from.ensures _ c.in-Some.is _ so, L.word_part _ _ _ c.word_from.ensures _ c.in-Some.is)
