use native.Mathlib.Omega.{arith}
use Rattle.tokens.proofs.ScanLaws.{past_end}
use Rattle.tokens.proofs.word_from.Goals as goal

pub returns-then-s-at : goal.returns-then-s-at
returns-then-s-at c = past_end _ _ (omega arith)
