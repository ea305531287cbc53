use mathlib.Core.Path.{◌≡◌}
use mathlib.Core.List.{◌++◌}
use Prim.Native.Nat.{ℕ, ◌≤◌}
use lib.ListN.{length, drop}
use Rattle.rules.specs.Bytes.{Bytes}
use Rattle.texts.specs.Tokens.{inside, part}
use Rattle.tokens.proofs.word_end.Given as goal

abbrev pub invariant-loop-i : goal.invariant-loop-i
invariant-loop-i l = (l.at ≤ l.i) × (l.i ≤ length l.s) × ((start : ℕ) (w : Bytes) → inside start w l.at (drop l.at l.s) ≡ inside start (w ++ part l.s l.at l.i) l.i (drop l.i l.s))
