use mathlib.Core.Path.{◌≡◌}
use Prim.Native.Nat.{◌-◌}
use lib.ListN.{length}
use Rattle.texts.specs.Tokens.{from, tokens}
use Rattle.texts.specs.Spelled.{is_among}
use Rattle.texts.specs.Reader.{branch_names}
use Rattle.labels.specs.Awaited.{names_ahead}
use Rattle.labels.proofs.is_branch_name.Given as goal

abbrev pub invariant-loop-w : goal.invariant-loop-w
invariant-loop-w l = is_among l.word (branch_names (tokens l.text)) ≡ is_among l.word (names_ahead l.state (from l.text l.at))

abbrev pub decreases-loop-w : goal.decreases-loop-w
decreases-loop-w l = length l.text - l.at
