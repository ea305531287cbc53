use mathlib.Core.Path.{refl}
use Rattle.update.specs.Passes.{seen_in}
use Rattle.update.proofs.seen_in.Goals as goal

pub returns : goal.returns
unfolding seen_in
returns c = refl
