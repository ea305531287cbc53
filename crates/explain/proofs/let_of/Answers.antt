use Rattle.explain.proofs.let_of.Goals as goal

pub returns-in-NotReady : goal.returns-in-NotReady
returns-in-NotReady c = rw c.in-NotReady.is
