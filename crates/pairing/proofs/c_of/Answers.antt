use Rattle.pairing.specs.Asked.{c_of}
use borrow.Author.Tests.{eq-eqb, ne_eqb}
use Rattle.pairing.proofs.c_of.Goals as goal

pub returns-then-k-eq10 : goal.returns-then-k-eq10
unfolding c_of
returns-then-k-eq10 c = simp (eq-eqb _ _ c.if-k-eq10.true)

pub returns : goal.returns
unfolding c_of
returns c = simp (ne_eqb _ _ c.if-k-eq10.false) c.c_in.ensures
