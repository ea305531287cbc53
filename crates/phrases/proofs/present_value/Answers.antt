use mathlib.Core.Path.{refl}
use Rattle.phrases.specs.Gave.{gave, written}
use Rattle.phrases.proofs.present_value.Goals as goal

pub returns : goal.returns
unfolding gave written
returns c = (λ so text. refl, λ h. h)
