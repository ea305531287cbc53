use mathlib.Core.Path.{refl, sym, ap}
use Rattle.reader.specs.Held.{stop_put}
use Rattle.reader.proofs.put_stop.Goals as goal

pub returns-in-Word : goal.returns-in-Word
unfolding stop_put
returns-in-Word c = (refl, ap (stop_put _) (sym c.in-Word.is))

pub returns-in-Name : goal.returns-in-Name
unfolding stop_put
returns-in-Name c = (refl, ap (stop_put _) (sym c.in-Name.is))

pub returns-in-Range : goal.returns-in-Range
unfolding stop_put
returns-in-Range c = (refl, ap (stop_put _) (sym c.in-Range.is))
