use Rattle.rules.specs.Layout.{nodes}
use Rattle.dropped.specs.Clauses.{clause_of}
use Rattle.rules.proofs.Rooted.{shaped_of}
use borrow.Author.Tests.{lt-ltb, le-ltb}
use lib.ListN.{length-replicate}
use native.Mathlib.Omega.{arith}
use Prim.Native.Nat.{ℕ}
use Rattle.pairing.proofs.clause_of.Goals as goal

pub returns-then-i-count : goal.returns-then-i-count
unfolding clause_of
returns-then-i-count c = simp (le-ltb c.args.i (nodes c.args.q.now) (omega (arith, c.if-i-count.true, c.requires.3)))

pub lead_all-requires : goal.lead_all-requires
lead_all-requires c = (c.requires.0, c.requires.2, omega (arith, length-replicate {A = ℕ} 1008 0, c.requires.2, (shaped_of _ c.requires.0).small))

pub entry_broken-requires : goal.entry_broken-requires
entry_broken-requires c = (c.lead_all.ensures, shaped_of _ c.requires.1, c.requires.2, c.requires.3, c.if-i-count.false)

pub returns : goal.returns
unfolding clause_of
returns c = simp (lt-ltb c.args.i (nodes c.args.q.now) (omega (arith, c.if-i-count.false, c.requires.3))) c.entry_broken.ensures
