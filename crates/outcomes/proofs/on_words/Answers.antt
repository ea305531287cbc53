use native.Mathlib.Omega.{arith}
use Rattle.outcomes.specs.Outcome.{tally_in}
use Rattle.outcomes.proofs.Counted.{work_is}
use Rattle.outcomes.proofs.Combining.{operated_done}
use Rattle.outcomes.proofs.on_words.Goals as goal

pub joined-requires : goal.joined-requires
unfolding tally_in
joined-requires c = (c.counted_in.ensures.1, c.counted_in-2.ensures.1, omega (arith, c.requires.2, work_is c.args.r, work_is c.args.s, c.counted_in.ensures.0, c.counted_in-2.ensures.0))

pub returns : goal.returns
returns c = operated_done c.args.k c.args.r c.args.s c.requires.0 c.requires.1 c.requires.2 c.counted_in.ensures.0 c.counted_in-2.ensures.0 c.joined.ensures.0 c.joined.ensures.1 c.result.ensures
