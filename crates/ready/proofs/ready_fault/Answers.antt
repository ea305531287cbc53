use mathlib.Core.Path.{◌∙◌}
use Rattle.ready.proofs.ReadyLaws.{root_entered, root_ready}
use Rattle.ready.proofs.ready_fault.Goals as goal

pub pass_s-requires : goal.pass_s-requires
pass_s-requires c = root_entered _ _ c.requires.0 c.requires.1 c.requires.2

pub returns : goal.returns
returns c = c.place.ensures ∙ c.pass_s.ensures.0 ∙ root_ready _ _ c.requires.0 c.requires.1
