use mathlib.Core.Path.{ap, ◌∙◌}
use Prim.Native.Nat.{ℕ}
use lib.ListN.{length-replicate}
use Rattle.rules.proofs.Rooted.{shaped_of}
use Rattle.dropped.specs.PairedCall.{entries_answer}
use native.Mathlib.Omega.{arith}
use Rattle.pairing.proofs.entries.Goals as goal

pub lead_all-requires : goal.lead_all-requires
lead_all-requires c = (c.requires.0, c.requires.2, omega (arith, length-replicate {A = ℕ} 1008 0, c.requires.2, (shaped_of _ c.requires.0).small))

pub first_wrong-wrong-requires : goal.first_wrong-wrong-requires
first_wrong-wrong-requires c = (c.lead_all.ensures, shaped_of _ c.requires.1, c.requires.2, c.requires.3)

pub returns : goal.returns
returns c = c.entries_answer.ensures ∙ ap entries_answer c.first_wrong-wrong.ensures
