-- What is taken as a record comes after fewer than 4,096 steps. Assumes nothing.
use Rattle.std.specs.Prelude.{IfSome, Option}
use mathlib.Core.Path.{◌≡◌, sym, ◌∙◌}
use mathlib.Core.Bool.{Bool, true}
use Prim.Native.Nat.{ℕ, ◌<◌}
use borrow.Author.Tests.{ltb-true}
use Rattle.rules.proofs.Static.{and_both}
use Rattle.std.proofs.Common.{rules}
use Rattle.turns.specs.Decided.{is_record}

pub early : (got steps : ℕ) {r : Bool} → r ≡ is_record got steps → r ≡ true → steps < 4096
unfolding is_record
early got steps e f = ltb-true _ _ (and_both _ _ (sym e ∙ f)).0

-- So there is more only after fewer.
pub more_early : {A : Type 0} {steps : ℕ} (more : Option A) → steps < 4096 → IfSome more (λ all. steps < 4096)
more_early more h = search rules
