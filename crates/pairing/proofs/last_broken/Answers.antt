use Rattle.pairing.proofs.EntryLaws.{last_is, last_not}
use Rattle.pairing.proofs.last_broken.Goals as goal

pub returns-then-i-count : goal.returns-then-i-count
returns-then-i-count c = last_is _ _ c.if-i-count.true c.reached.ensures c.unless.ensures

pub returns : goal.returns
returns c = last_not _ _ _ c.if-i-count.false
