use Rattle.rules.specs.Values.{present_in}
use mathlib.Core.Path.{refl}
use Rattle.values.proofs.present_in.Goals as goal

pub returns : goal.returns
unfolding present_in
returns c = refl
