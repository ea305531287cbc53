-- `turns::blocks_left` meets its contract: by cases. Assumes nothing.
use mathlib.Core.Path.{ap}
use native.Mathlib.Omega.{arith}
use Prim.Native.Nat.{ℕ, ◌-◌, ◌*◌}
use borrow.Author.Tests.{lt-ltb, le-ltb}
use Rattle.turns.specs.Decided.{blocks_left}
use Rattle.turns.proofs.blocks_left.Goals as goal

pub returns-then-got-lt-BLOCK : goal.returns-then-got-lt-BLOCK
unfolding blocks_left
returns-then-got-lt-BLOCK c = (rw (lt-ltb _ _ c.if-got-lt-BLOCK.true), omega arith)

pub returns : goal.returns
unfolding blocks_left
returns c = (rw (le-ltb _ _ c.if-got-lt-BLOCK.false) (ap (λ (k : ℕ). 512 * (k - 1)) c.blocks_taken.ensures.0), omega (arith, c.blocks_taken.ensures.2))
