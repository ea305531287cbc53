use mathlib.Core.Path.{refl}
use Rattle.rules.specs.Values.{middle_in}
use Rattle.well.proofs.middle_in.Goals as goal

pub returns : goal.returns
unfolding middle_in
returns c = refl
