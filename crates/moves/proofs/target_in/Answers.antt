use mathlib.Core.Path.{refl}
use Rattle.moves.specs.Outcomes.{target_in}
use Rattle.moves.proofs.target_in.Goals as goal

pub returns : goal.returns
unfolding target_in
returns c = refl
