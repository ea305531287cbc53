use Rattle.outcomes.proofs.Tallies.{joined_first, joined_once, joined_both, neither}
use Rattle.outcomes.specs.Outcome.{tally_in}
use native.Mathlib.Omega.{arith}
use Rattle.outcomes.proofs.joined.Goals as goal

pub returns-then-count-lt32768 : goal.returns-then-count-lt32768
unfolding tally_in
returns-then-count-lt32768 c = joined_first c.args.a c.args.b c.requires.0 c.requires.1 c.requires.2 (omega (arith, c.if-count-lt32768.true))

pub returns-then-once : goal.returns-then-once
unfolding tally_in
returns-then-once c = joined_once c.args.a c.args.b c.requires.0 c.requires.1 c.requires.2 c.if-once.true

pub returns : goal.returns
unfolding tally_in
returns c = let marks = neither c.args.a c.args.b c.requires.0 c.requires.1 c.if-once.false in joined_both c.args.a c.args.b c.requires.0 c.requires.1 c.requires.2 marks.0 marks.1
