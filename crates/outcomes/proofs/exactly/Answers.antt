use Rattle.rules.specs.Values.{unpacked}
use Rattle.outcomes.proofs.exactly.Goals as goal

pub returns : goal.returns
unfolding unpacked
returns c = rw (← c.type_in.ensures, ← c.present_in.ensures, ← c.word_in.ensures) c.pack_from.ensures
