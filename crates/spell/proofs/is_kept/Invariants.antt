use mathlib.Core.Path.{◌≡◌}
use mathlib.Core.Bool.{false}
use Prim.Native.Nat.{ℕ, ◌<◌}
use Rattle.texts.specs.Spelled.{same}
use Rattle.spell.specs.Vocabulary.{listed}
use Rattle.spell.proofs.is_kept.Given as goal

abbrev pub invariant-loop-row : goal.invariant-loop-row
invariant-loop-row l = (j : ℕ) → j < l.row → same l.word (listed j) ≡ false
