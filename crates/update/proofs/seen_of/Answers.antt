use native.Mathlib.Omega.{arith}
use Rattle.update.specs.Passes.{seen_of}
use Rattle.update.proofs.seen_of.Goals as goal

pub returns-then-u : goal.returns-then-u
unfolding seen_of
returns-then-u c = rw c.if-u.true

pub returns : goal.returns
unfolding seen_of
returns c = rw c.if-u.false (omega arith)
