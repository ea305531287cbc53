use Rattle.outcomes.specs.Outcome.{tally_in}
use Rattle.outcomes.proofs.tally_in.Goals as goal

pub returns : goal.returns
unfolding tally_in
returns c = rw c.counted_in-count.ensures.0
