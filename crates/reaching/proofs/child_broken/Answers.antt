use Rattle.dropped.specs.Clauses.{unless, number_of}
use Rattle.dropped.specs.Pairing.{reaches}
use mathlib.Core.Bool.{Bool}
use mathlib.Core.Path.{ap, ◌∙◌}
use Rattle.reaching.proofs.child_broken.Goals as goal

pub returns : goal.returns
returns c = c.unless.ensures ∙ ap (λ (b : Bool). unless b (number_of c.args.child)) (c.reached.ensures ∙ ap (reaches _ _) c.old_of-z.ensures)
