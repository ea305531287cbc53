use mathlib.Core.Path.{◌∙◌}
use Rattle.chains.specs.Chain.{enters}
use Rattle.fields.proofs.enters_b.Goals as goal

pub returns : goal.returns
unfolding enters
returns c = c.both.ensures ∙ rw (c.child_b.ensures, c.either.ensures)
