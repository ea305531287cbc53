use Rattle.rules.specs.Values.{unpacked}
use Rattle.values.proofs.unpack.Goals as goal

pub returns : goal.returns
unfolding unpacked
returns c = rw (← c.type_in.ensures, ← c.present_in.ensures, ← c.word_in.ensures) c.value_from.ensures
