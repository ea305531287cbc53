use Rattle.dropped.specs.Clauses.{unless}
use Rattle.rules.specs.Bytes.{◌and◌}
use lib.Dec.{eqb, ltb}
use Prim.Native.Nat.{ℕ}
use mathlib.Core.Bool.{Bool}
use mathlib.Core.Path.{ap, ◌∙◌}
use Rattle.reaching.proofs.named_broken.Goals as goal

pub returns : goal.returns
returns c = c.unless.ensures ∙ ap (λ (b : Bool). unless b 7) (c.both.ensures ∙ ap (λ (k : ℕ). ltb c.args.x c.args.count and eqb k c.args.y) c.old_of-z.ensures)
