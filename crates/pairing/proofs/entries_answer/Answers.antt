use Rattle.dropped.specs.PairedCall.{entries_answer}
use Rattle.pairing.proofs.entries_answer.Goals as goal

pub returns-in-Some : goal.returns-in-Some
unfolding entries_answer
returns-in-Some c = rw c.in-Some.is

pub returns-in-None : goal.returns-in-None
unfolding entries_answer
returns-in-None c = rw c.in-None.is
