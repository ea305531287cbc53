use Rattle.pairing.specs.Asked.{a_of}
use borrow.Author.Tests.{eq-eqb, ne_eqb}
use Rattle.pairing.proofs.a_of.Goals as goal

pub returns-then-k-eq16 : goal.returns-then-k-eq16
unfolding a_of
returns-then-k-eq16 c = simp (eq-eqb _ _ c.if-k-eq16.true)

pub returns : goal.returns
unfolding a_of
returns c = simp (ne_eqb _ _ c.if-k-eq16.false) c.a_in.ensures
