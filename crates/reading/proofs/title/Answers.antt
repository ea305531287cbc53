use Rattle.reading.proofs.ReadLaws as M
use Rattle.phrases.proofs.StepLaws as L
use Rattle.phrases.specs.Gave.{gave}
use Rattle.texts.specs.Tokens.{part}
use Rattle.reading.proofs.title.Goals as goal

pub returns-in-None : goal.returns-in-None
unfolding gave part
returns-in-None c = (M.title_none _ (L.at_end _ _ _ c.first_word.ensures c.in-None.is), tt)

pub returns-in-Some-named : goal.returns-in-Some-named
unfolding gave part
returns-in-Some-named c = (M.title_at _ _ _ (L.at_word _ _ _ c.first_word.ensures _ c.in-Some.is).3 c.edition_named-named.ensures c.in-Some-named.is, M.edition_small _ c.edition_named-named.ensures c.in-Some-named.is)

pub returns-in-None-named : goal.returns-in-None-named
unfolding gave part
returns-in-None-named c = (M.title_nowhere _ _ _ (L.at_word _ _ _ c.first_word.ensures _ c.in-Some.is).3 c.edition_named-named.ensures c.in-None-named.is, tt)
