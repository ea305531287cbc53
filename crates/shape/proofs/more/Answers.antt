use Rattle.shape.specs.Counts.{more}
use native.Mathlib.Numerals.{add-one}
use borrow.Author.Tests.{lt-ltb, le-ltb}
use Rattle.shape.proofs.more.Goals as goal

pub returns-then-c-lt2 : goal.returns-then-c-lt2
unfolding more
returns-then-c-lt2 c = simp (lt-ltb _ _ c.if-c-lt2.true, add-one)

pub returns-else-c-lt2 : goal.returns-else-c-lt2
unfolding more
returns-else-c-lt2 c = simp (le-ltb _ _ c.if-c-lt2.false)
