use lib.ListN.{replicate}
use Prim.Native.Nat.{ℕ}
use mathlib.Core.List.{◌∷◌}
use mathlib.Core.Path.{ap}
use Rattle.letters.proofs.PutsLaws.{puts_as, puts_then}
use Rattle.letters.proofs.Sheet.line.Goals as goal

pub returns : goal.returns
returns c = puts_as (ap (λ (m : ℕ). 10 ∷ replicate m 32) c.margin.ensures) (puts_then c.put.ensures c.spaces.ensures)
