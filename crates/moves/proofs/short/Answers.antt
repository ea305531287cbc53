use Rattle.moves.proofs.NumberLaws.{short_small, short_large}
use mathlib.Core.Path.{◌∙◌}
use native.Mathlib.Omega.{arith}
use Rattle.moves.proofs.short.Goals as goal

pub returns-then-target-lt1023 : goal.returns-then-target-lt1023
returns-then-target-lt1023 c = (c.number.ensures ∙ short_small c.args.target (omega arith), omega (arith, c.number.ensures))

pub returns-else-target-lt1023 : goal.returns-else-target-lt1023
returns-else-target-lt1023 c = (short_large c.args.target (omega arith), omega arith)
